-- Places of addresses among entries.
use Rattle.std.proofs.Common.{suc, ◌+◌, ◌≤◌, List, [], ◌∷◌, length, Bool, not, true, false, cond, arith}
use Rattle.std.specs.List.{position_or_len}

-- a place is among the entries or behind them
pub place-le : {X : Type 0} (p : X → Bool) (xs : List X) → position_or_len p xs ≤ length xs
place-le p [] = omega arith
place-le p (x ∷ xs) =
    elim (p x) as (λ b. cond (not b) (1 + position_or_len p xs) 0 ≤ suc (length xs)) [ true ↦ omega arith | false ↦ omega (arith, place-le p xs) ]
