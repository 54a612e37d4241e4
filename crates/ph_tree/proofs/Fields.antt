-- A tree has these fields and no other.
use Rattle.std.proofs.Common.{◌≡◌, refl}
use Rattle.std.specs.Prelude.{ℕ}
use Rattle.ph_tree.specs.declared.tree.PhTree.TheInside.{Inside}

pub tree_fields : (dims : ℕ) (t : Inside dims) → t ≡ record { alloc = t.alloc; root = t.root; width = t.width; max = t.max; len = t.len }
tree_fields dims t = refl
