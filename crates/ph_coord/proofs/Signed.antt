-- Signed numbers that were passed are the same.
use Rattle.std.proofs.Common.{◌≡◌, ℕ, arith, w64, SFits}
use Rattle.std.specs.Prelude.{ℤ}
use Rattle.std.proofs.lemmas.Int.{to_z-of_z}
use mir.Val.{of_z, to_z}

pub passed : (f : ℤ → ℕ) (x : ℤ) (r : ℕ) → SFits w64 x → r ≡ f (to_z w64 (of_z w64 x)) → r ≡ f x
passed f x r fits e = grind (arith, to_z-of_z)
