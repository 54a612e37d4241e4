-- Runs of digits that were moved within words.
use Rattle.std.specs.Prelude.{◌≡◌, ◌≤◌, ℕ, ◌+◌, ◌*◌, List, length}
use Rattle.ph_model.specs.Digits.{digits_at}

-- new words have in `len` digits from digit `to` on what the old ones had from digit `from` on, and in front of them and
-- behind them the digits of the old ones
pub record IsMoved (old : List ℕ) (from to len : ℕ) (new : List ℕ) : Type 0 where
  pub value : digits_at new to len ≡ digits_at old from len
  pub front : (a k : ℕ) → a + k ≤ to → digits_at new a k ≡ digits_at old a k
  pub behind : (a k : ℕ) → to + len ≤ a → a + k ≤ 64 * length old → digits_at new a k ≡ digits_at old a k
