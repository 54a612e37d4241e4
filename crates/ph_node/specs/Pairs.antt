-- The two entries of a child that splits an entry, as its record keeps them.
use Rattle.std.specs.Prelude.{ℕ, List, [], ◌∷◌, take, nat_lt, if◌then◌else◌, Option, Some}
use Rattle.ph_specs.specs.Node.{Flat}
use Rattle.ph_model.specs.PutTree.{body_address, body_below}
use Rattle.ph_bits.specs.Edits.{new_flat}
use Rattle.ph_node.specs.OneEdit.{held_by}
use Rattle.ph_node.specs.declared.olds.OldEntry.{OldEntry}
use Rattle.ph_node.specs.declared.pairs.Written.{Written}

abbrev pub below_flat : ℕ → List ℕ → Option ℕ → Flat
below_flat place body o = record { addr = body_address place body; body = body_below place body; value = o }

-- two entries in the order of their addresses
abbrev pub in_order : Flat → Flat → List Flat
in_order old new = if nat_lt new.addr old.addr then new ∷ old ∷ [] else old ∷ new ∷ []

-- an old entry and a point with a body, below a place
abbrev pub pair_flats : ℕ → ℕ → OldEntry → List ℕ → ℕ → List Flat
pair_flats dims place old body v =
    in_order (below_flat place (take dims old.body) (held_by old)) (below_flat place (take dims body) (Some v))

abbrev pub written_flat : ℕ → Written → Flat
written_flat dims w = new_flat dims w.entry w.value

abbrev pub flats_in_pair : ℕ → Written → Written → List Flat
flats_in_pair dims first second = written_flat dims first ∷ written_flat dims second ∷ []
