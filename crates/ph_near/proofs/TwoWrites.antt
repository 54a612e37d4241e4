-- A list in which two numbers were written.
use Rattle.std.proofs.Common.{◌≡◌, ℕ, ◌<◌, List, length, length-set, get_or, set, get_or-set_other, get_or-set_same, ◌∙◌, arith}

module _ (xs : List ℕ) (p q u v : ℕ) where
  pub long-both : length (set (set xs p u) q v) ≡ length xs
  long-both = length-set (set xs p u) q v ∙ length-set xs p u

  pub at-first : p < q → q < length xs → get_or (set (set xs p u) q v) p 0 ≡ u
  at-first apart inside =
      get_or-set_other (set xs p u) q p v 0 (λ e. absurd (omega (arith, e, apart))) ∙ get_or-set_same xs p u 0 (omega (arith, apart, inside))

  pub at-second : q < length xs → get_or (set (set xs p u) q v) q 0 ≡ v
  at-second inside = get_or-set_same (set xs p u) q v 0 (omega (arith, length-set xs p u, inside))

  pub elsewhere : (i : ℕ) → (i ≡ p → ⊥) → (i ≡ q → ⊥) → get_or (set (set xs p u) q v) i 0 ≡ get_or xs i 0
  elsewhere i first second = get_or-set_other (set xs p u) q i v 0 second ∙ get_or-set_other xs p i u 0 first
