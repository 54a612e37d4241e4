-- A tree that keeps its edits has these fields and no other.
use Rattle.std.proofs.Common.{◌≡◌, refl}
use Rattle.std.specs.Prelude.{ℕ}
use Rattle.ph_undo.specs.declared.kept.Kept.TheInside.{Inside}

pub kept_fields : (dims : ℕ) (k : Inside dims) → k ≡ record { tree = k.tree; depth = k.depth; ring = k.ring }
kept_fields dims k = refl
