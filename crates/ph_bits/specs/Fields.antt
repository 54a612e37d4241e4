-- Fields of words: the number of so many digits, rows of them, and how many of them are ones.
use Rattle.std.specs.Prelude.{◌≡◌, ◌≤◌, ℕ, zero, suc, ◌+◌, ◌-◌, ◌*◌, ◌/◌, ◌%◌, ◌^◌, List, [], ◌∷◌, length, map, take, drop, replicate}
use Rattle.std.specs.Int.RustNames.{count_ones}
use Rattle.ph_specs.specs.Digits.{field, number_of, pieces}
use Rattle.ph_model.specs.Digits.{digits_at}

-- the number that words make
abbrev pub number_in : List ℕ → ℕ
number_in words = number_of (map (field 64) words)

-- the words with v in the digits from one on: the digits in front, then v, then the digits behind
abbrev pub with_digits : List ℕ → ℕ → ℕ → ℕ → List ℕ
with_digits words at width v =
    let behind = 64 * length words - at - width in
    pieces 64 (length words) ((number_in words / 2 ^ (width + behind) * 2 ^ width + v) * 2 ^ behind + number_in words % 2 ^ behind)

-- new words have v in these digits, and in front of them and behind them the digits of the old ones
pub record IsPut (old : List ℕ) (at width v : ℕ) (new : List ℕ) : Type 0 where
  pub words : new ≡ with_digits old at width v
  pub value : digits_at new at width ≡ v
  pub front : (a k : ℕ) → a + k ≤ at → digits_at new a k ≡ digits_at old a k
  pub behind : (a k : ℕ) → at + width ≤ a → a + k ≤ 64 * length old → digits_at new a k ≡ digits_at old a k

-- how many of n digits from one on are ones
abbrev pub ones_in : List ℕ → ℕ → ℕ → ℕ
ones_in words at n = count_ones (digits_at words at n)

-- the numbers of n fields of one width
abbrev pub digits_row : List ℕ → ℕ → ℕ → ℕ → List ℕ
digits_row words at width zero = []
digits_row words at width (suc n) = digits_at words at width ∷ digits_row words (at + width) width n

-- the last `width` digits of a number, of which the last `low` are zeros
abbrev pub cut : ℕ → ℕ → ℕ → ℕ
cut width low x = x % 2 ^ width / 2 ^ low * 2 ^ low

-- what it takes of the two
pub record IsCut (width low : ℕ) : Type 0 where
  pub digits : width ≤ 63
  pub zeros : low ≤ 63

-- the first numbers of an array are those of a row of fields, and the others are zeros
pub record IsRowIn (words : List ℕ) (at width count : ℕ) (body : List ℕ) : Type 0 where
  pub fields : take count body ≡ digits_row words at width count
  pub zeros : drop count body ≡ replicate (16 - count) 0
