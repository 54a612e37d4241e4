-- Sums of the squares of gaps for each four digits of an address.
use Rattle.std.specs.Prelude.{◌≡◌, ℕ, ◌+◌, ◌-◌, ◌*◌, ◌^◌, ◌<◌, ◌≤◌, List, length, min, slice_index}
use Rattle.ph_near.specs.Halves.{AreSmall, digits_sum}
use Rattle.ph_near.specs.declared.tables.Tables.{Tables}

-- how many of the last dimensions are those of a table
abbrev pub digits_in : ℕ → ℕ → ℕ
digits_in dims table = min 4 (dims - 4 * table)

-- the tables of n dimensions have the sums of so many of the last ones
pub record HaveSums (n : ℕ) (low high : List ℕ) (dims : ℕ) (sums : List ℕ) : Type 0 where
  pub long : length sums ≡ 64
  pub each : (k j : ℕ) → k < 4 → j < 2 ^ digits_in dims k → slice_index sums (16 * k + j) ≡ digits_sum n low high (4 * k) j (digits_in dims k)

pub record AreTabled {d : ℕ} (t : Tables d) : Type 0 where
  pub small : AreSmall t.halves
  pub sums : HaveSums d t.halves.low t.halves.high d t.sums

-- behind the sums for a low half those for a high one, and the others stay
pub record IsDoubled (start count low high : ℕ) (old new : List ℕ) : Type 0 where
  pub long : length new ≡ length old
  pub lows : (j : ℕ) → j < count → slice_index new (start + j) ≡ slice_index old (start + j) + low
  pub highs : (j : ℕ) → j < count → slice_index new (start + count + j) ≡ slice_index old (start + j) + high
  pub below : (i : ℕ) → i < start → slice_index new i ≡ slice_index old i
  pub above : (i : ℕ) → start + 2 * count ≤ i → slice_index new i ≡ slice_index old i
