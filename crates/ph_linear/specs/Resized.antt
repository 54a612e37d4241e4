-- The values of a record behind tables that became shorter or longer.
use Rattle.std.specs.Prelude.{◌≡◌, ℕ, ◌+◌, ◌-◌, ◌^◌, ◌≤◌, List, ◌∷◌, ◌++◌, length, take, drop, slice_set}
use Rattle.ph_specs.specs.Pack.{first_word}
use Rattle.ph_linear.specs.declared.outlines.Outline.{Outline}

-- how many values are left once the entry's own is left out
abbrev pub points_less : Outline → List ℕ → ℕ
points_less o words = o.front + (length words - (o.values + o.until))

-- words whose tables end at a place, and whose values stand where they stood
pub record IsClosable (values : ℕ) (o : Outline) (words : List ℕ) : Type 0 where
  pub order : o.front ≤ o.until
  pub first : 1 ≤ values
  pub shorter : values ≤ o.values
  pub within : o.values + o.until ≤ length words
  pub some : 1 ≤ o.count
  pub points : points_less o words ≤ o.count - 1
  pub few : o.count ≤ 2 ^ 16
  pub low : o.level ≤ 61

-- the words with the values that are left at that place,
abbrev pub values_closed : ℕ → Outline → List ℕ → List ℕ
values_closed values o words = take values words ++ (take o.front (drop o.values words) ++ drop (o.values + o.until) words)

-- and the same with the first word of an entry less
abbrev pub with_less : ℕ → Outline → List ℕ → List ℕ
with_less values o words = slice_set (values_closed values o words) 0 (first_word o.level 0 (o.count - 1) (o.count - 1 - points_less o words))

-- words with room for a value more behind longer tables
pub record IsOpenable (len values : ℕ) (o : Outline) (words : List ℕ) : Type 0 where
  pub front : o.values + o.front ≤ len
  pub longer : o.values ≤ values
  pub long : values + (len - o.values) + 1 ≡ length words

-- the values with a new one
abbrev pub values_open : ℕ → Outline → ℕ → List ℕ → List ℕ
values_open len o v words =
    let vs = drop o.values (take len words) in take o.front vs ++ v ∷ drop o.front vs
