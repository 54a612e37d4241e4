-- Where an entry stands that a search finds.
use Rattle.std.proofs.Common.{◌≡◌, ℕ, zero, suc, ◌<◌, List, [], ◌∷◌, length, arith, refl, sym}
use Rattle.std.specs.Prelude.{Some, position, slice_get}
use Rattle.std.proofs.lemmas.List.Quantifiers.{position-Some}
use Rattle.ph_model.specs.EntryList.{Entry}
use Rattle.ph_model.specs.EntryEdits.{has_address, point_entry, what_at}
use Rattle.ph_model.proofs.laws.EntryEdits.{address-found}
use Rattle.ph_node.specs.Merge.{addr_at}
use Rattle.ph_node.specs.Split.{body_at}
use Rattle.ph_node.specs.Spots.{IsSpot}

-- entry i by its parts
abbrev pub parts_at : List Entry → ℕ → Entry
parts_at xs i = record { addr = addr_at xs i; body = body_at xs i; what = what_at xs i }

pub parts_there : (xs : List Entry) (i : ℕ) → i < length xs → slice_get xs i ≡ Some (parts_at xs i)
parts_there [] i l = absurd (omega (arith, l))
parts_there (x ∷ xs) zero l = refl
parts_there (x ∷ xs) (suc i) l = parts_there xs i (omega (arith, l))

pub spot_found : (a i : ℕ) (xs : List Entry) → Some i ≡ position (has_address a) xs → IsSpot xs (record { place = i; addr = a })
spot_found a i xs f =
    let l : i < length xs = (position-Some (has_address a) xs i (point_entry 0 [] 0) (sym f)).0 in
    record { within = l; address = sym (address-found a i xs (parts_at xs i) (sym f) (parts_there xs i l)) }
