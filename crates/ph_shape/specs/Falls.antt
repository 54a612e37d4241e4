-- Each child is made of fewer nodes than the node that holds it.
use Rattle.std.specs.Prelude.{ℕ, ◌+◌, ◌≤◌, max, List, [], ◌∷◌, take, map}
use Rattle.std.proofs.Common.{arith}
use denote.Param.Weighed.{most}
use Rattle.ph_specs.specs.Node.{Entries}
use Rattle.ph_model.specs.EntryList.{chained, in_front}
use Rattle.ph_model.specs.NodeSize.{nodes_in}
use Rattle.ph_shape.specs.View.{entry_of, what_of}
use Rattle.ph_coord.specs.declared.dims.Dims.{Ghosts}
use Rattle.ph_shape.specs.declared.plain.EntryOf.{EntryOf}
use Rattle.ph_shape.specs.declared.plain.HeldOf.{HeldOf}
use Rattle.ph_shape.specs.declared.plain.HeldOf.TheVariants.{Value, Child}
use Rattle.ph_shape.specs.declared.plain.PlainOf.TheDeep.{deep-EntryOf, deep-HeldOf}

pub falls_front : {P : Type 0} (D : Ghosts P) (h : HeldOf P) (a : ℕ) (body : List ℕ) (rest : Entries) (n : ℕ) → n ≤ nodes_in rest + 1
    → max (deep-HeldOf P D h) n ≤ nodes_in (in_front a body (what_of h) rest) + 1
falls_front D (Value v) a body rest n h = omega arith
falls_front D (Child below) a body rest n h = omega arith

pub falls : {P : Type 0} (D : Ghosts P) (dims : ℕ) (es : List (EntryOf P)) → most (deep-EntryOf P D) es ≤ nodes_in (chained (map (entry_of dims) es)) + 1
falls D dims [] = omega arith
falls {P} D dims (e ∷ es) =
    let ih : most (deep-EntryOf P D) es ≤ nodes_in (chained (map (entry_of dims) es)) + 1 = falls D dims es in
    omega (arith, falls_front D e.held e.addr (take dims e.body) (chained (map (entry_of dims) es)) (most (deep-EntryOf P D) es) ih)
