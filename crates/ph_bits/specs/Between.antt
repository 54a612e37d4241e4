-- Numbers between bounds.
use Rattle.std.specs.Prelude.{ℕ, Bool, true, ◌&&◌, nat_le, List, ◌∷◌}

-- whether each number lies between two others
abbrev pub each_between : List ℕ → List ℕ → List ℕ → Bool
each_between (a ∷ lo) (b ∷ hi) (x ∷ p) = (nat_le a x && nat_le x b) && each_between lo hi p
each_between _ _ _ = true
