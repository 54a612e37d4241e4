-- What is known of a word beside its bytes.
use Rattle.std.specs.Prelude.{◌≡◌, ◌+◌, ◌<◌, ◌≤◌, ◌^◌, ℕ, ◌*◌, ◌-◌, true, List, length, take, drop, slice_index, fold, pos, neg_ℤ, if◌then◌else◌, Option, Some, None}
use Rattle.std.specs.List.{list_all, position_or_len}
use Rattle.std.specs.Char.{is_ascii_digit}
use Rattle.ph_specs.specs.Lines.{is_blank, number}
use Rattle.ph_script.specs.declared.numbers.Short.{Short}

-- a word spells this number
pub record IsShort (text : List ℕ) (s : Short) : Type 0 where
  pub same : number text ≡ Some (if s.minus then neg_ℤ (pos s.size) else pos s.size)
  pub limit : s.size < 10 ^ 18

-- the same, where it is known
abbrev pub IsNumbered : List ℕ → Option Short → Type 0
IsNumbered text None = Unit {0}
IsNumbered text (Some s) = IsShort text s

-- digits from one place to another; and what they make of a number that stands before them, where both have at most 18 digits
pub record IsDigits (text : List ℕ) (from before end size : ℕ) : Type 0 where
  pub count : ℕ
  pub reaches : from + count ≡ end
  pub within : end ≤ length text
  pub digits : list_all is_ascii_digit (take count (drop from text)) ≡ true
  pub value : (k : ℕ) → before < 10 ^ k → k + count ≤ 18 → (size ≡ fold (λ n b. n * 10 + (b - 48)) before (take count (drop from text))) × (size < 10 ^ (k + count))

-- the word that begins at a place and ends at another spells this number
pub record IsNumberAt (text : List ℕ) (from end : ℕ) (s : Short) : Type 0 where
  pub count : ℕ
  pub reaches : from + count ≡ end
  pub some : 0 < count
  pub within : end ≤ length text
  pub ends : position_or_len is_blank (drop from text) ≡ count
  pub number : IsShort (take count (drop from text)) s
  pub blank : end < length text → is_blank (slice_index text end) ≡ true
