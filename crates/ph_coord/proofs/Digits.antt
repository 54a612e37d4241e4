-- Decimal digits that are read one by one: a number is at least what its first digits spell.
use Rattle.std.proofs.Common.{◌≡◌, ℕ, zero, suc, ◌+◌, ◌*◌, ◌-◌, ◌<◌, ◌≤◌, List, [], ◌∷◌, length, drop, get_or, arith}
use Rattle.std.specs.Prelude.{fold}

-- the number behind digits that were read, and more
abbrev pub read_on : ℕ → List ℕ → ℕ
read_on size digits = fold (λ n b. n * 10 + (b - 48)) size digits

pub read_on-grows : (size : ℕ) (ds : List ℕ) → size ≤ read_on size ds
read_on-grows size [] = omega arith
read_on-grows size (d ∷ ds) = omega (arith, read_on-grows (size * 10 + (d - 48)) ds)

-- what the next digit makes is at most the whole
pub reaches : (size : ℕ) (ds : List ℕ) (i total : ℕ) → read_on size (drop i ds) ≡ total → i < length ds → size * 10 + (get_or ds i 0 - 48) ≤ total
reaches size [] i total e h = omega arith
reaches size (d ∷ ds) zero total e h = omega (arith, e, read_on-grows (size * 10 + (d - 48)) ds)
reaches size (d ∷ ds) (suc i) total e h = reaches size ds i total e (omega arith)
