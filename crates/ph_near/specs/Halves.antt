-- The squares of the gaps to both halves of a region in each dimension.
use Rattle.std.specs.Prelude.{◌≡◌, ℕ, zero, suc, ◌+◌, ◌-◌, ◌*◌, ◌/◌, ◌%◌, ◌^◌, ◌<◌, ◌≤◌, List, ◌∷◌, length, slice_index}
use Rattle.ph_node.specs.Apart.{greatest_square}
use Rattle.ph_near.specs.Far.{gap_above}
use Rattle.ph_near.specs.declared.halves.Halves.{Halves}

-- of the numbers that agree with a known one above a level and have a digit at it
abbrev pub half_gap : ℕ → ℕ → ℕ → ℕ → ℕ
half_gap level known digit x =
    let low = known / 2 ^ (level + 1) * 2 ^ (level + 1) + digit * 2 ^ level in gap_above level low x * gap_above level low x

pub record AreHalves {d : ℕ} (level : ℕ) (known center : List ℕ) (h : Halves d) : Type 0 where
  pub low : (i : ℕ) → i < d → slice_index h.low i ≡ half_gap level (slice_index known i) 0 (slice_index center i)
  pub high : (i : ℕ) → i < d → slice_index h.high i ≡ half_gap level (slice_index known i) 1 (slice_index center i)

pub record AreSmall {d : ℕ} (h : Halves d) : Type 0 where
  pub few : d ≤ 16
  pub lows : length h.low ≡ d
  pub highs : length h.high ≡ d
  pub low : (i : ℕ) → i < d → slice_index h.low i ≤ greatest_square
  pub high : (i : ℕ) → i < d → slice_index h.high i ≤ greatest_square

-- the half with a digit
abbrev pub half_of : ℕ → ℕ → ℕ → ℕ
half_of zero low high = low
half_of (suc digit) low high = high

-- the sum over the dimensions for the part with an address
abbrev pub halves_sum : ℕ → List ℕ → List ℕ → ℕ
halves_sum addr (a ∷ low) (b ∷ high) = half_of (addr / 2 ^ length low % 2) a b + halves_sum addr low high
halves_sum addr _ _ = 0

-- the sum over so many dimensions of n by the digits of a number: its last digit is that of the dimension `from` before the last
abbrev pub digits_sum : ℕ → List ℕ → List ℕ → ℕ → ℕ → ℕ → ℕ
digits_sum n low high from number zero = 0
digits_sum n low high from number (suc i) =
    digits_sum n low high from number i
    + half_of (number / 2 ^ i % 2) (slice_index low (n - 1 - (from + i))) (slice_index high (n - 1 - (from + i)))
