-- The parts of a record with one edit, by those of the old one.
use Rattle.std.specs.Prelude.{◌≡◌, ℕ, ◌+◌, ◌-◌, ◌*◌, ◌^◌, ◌<◌, ◌≤◌, Bool, false, Some, if◌then◌else◌}
use Rattle.std.specs.Prelude.{List, [], ◌∷◌, ◌++◌, length, map, take, drop, replicate, slice_get, slice_index_or, slice_set}
use Rattle.std.specs.List.{AllByRecursion as Each}
use Rattle.ph_specs.specs.Digits.{Field, field, number_of, words_for, words_of}
use Rattle.ph_model.specs.Digits.{digits_at}
use Rattle.ph_model.specs.Layout.{IsRecord, AreRising, digits_as, entries_as, read_address, values_as}
use Rattle.ph_model.specs.NodeSize.{points_in}
use Rattle.ph_specs.specs.Pack.{first_word, table}
use Rattle.ph_specs.specs.Record.{first_in}
use Rattle.ph_bits.specs.Edits.{edited_as}
use Rattle.ph_bits.specs.declared.edits.Edit.{Edit}
use Rattle.ph_linear.specs.declared.copies.Column.{Column}
use Rattle.ph_linear.specs.declared.outlines.Outline.{Outline}

-- a column within words, whose digits have places that do not overflow
pub record IsColumn (words : List ℕ) (c : Column) : Type 0 where
  pub inside : c.at + c.count * c.width ≤ 64 * length words
  pub near : c.at + c.count * c.width ≤ 2 ^ 62

-- the digits of the entries of a column from one up to another, as one field
abbrev pub stretch : List ℕ → Column → ℕ → ℕ → Field
stretch words c from to = field ((to - from) * c.width) (digits_at words (c.at + from * c.width) ((to - from) * c.width))

-- the fields of a column with one edit: those in front of it, the new ones, and those behind it
abbrev pub column_edited : List ℕ → Column → Edit → List Field → List Field
column_edited words c e new = stretch words c 0 e.place ∷ (new ++ stretch words c (e.place + e.less) c.count ∷ [])

-- new words have v in these digits, and in front of them and behind them the digits of the old ones
pub record IsOver (old : List ℕ) (at width v : ℕ) (new : List ℕ) : Type 0 where
  pub value : digits_at new at width ≡ v
  pub front : (a k : ℕ) → a + k ≤ at → digits_at new a k ≡ digits_at old a k
  pub behind : (a k : ℕ) → at + width ≤ a → a + k ≤ 64 * length old → digits_at new a k ≡ digits_at old a k

-- new words have the column with the edit, and otherwise the digits of the old ones
abbrev pub IsColumnOver : List ℕ → Column → Edit → List Field → List ℕ → Type 0
IsColumnOver old c e fs new = IsOver old c.at (c.count * c.width) (number_of (column_edited old c e fs)) new

-- ---- the values

-- the value of the new entry, where there is one and it is a point
abbrev pub new_values : Edit → List ℕ
new_values e = if e.entry.child then [] else replicate e.more e.value

-- ---- where the record lies

-- what is known of a record before an entry of it becomes a child or a point
pub record IsOutline (cube : Bool) (dims : ℕ) (words : List ℕ) (e : Edit) (o : Outline) : Type 0 where
  pub level : o.level ≡ (first_in words).level
  pub count : o.count ≡ (first_in words).entries
  pub values : o.values ≡ 1 + words_for (digits_as cube dims (first_in words))
  pub front : o.front ≡ points_in (take e.place (entries_as cube dims words))
  pub until : o.until ≡ points_in (take (e.place + e.less) (entries_as cube dims words))

-- its words with the table of the edit, and still with the first word and the values of the old entries
abbrev pub with_table : Bool → ℕ → List ℕ → Edit → List ℕ
with_table cube dims words e =
    slice_index_or words 0 0 ∷ words_of (table cube dims (first_in words).level (edited_as cube dims words e)) ++ values_as cube dims words

-- an edit of a linear record that puts another entry in place of one, at its address
pub record IsPut (dims : ℕ) (words : List ℕ) (e : Edit) : Type 0 where
  pub whole : IsRecord false dims words
  pub within : e.place < (first_in words).entries
  pub less : e.less ≡ 1
  pub more : e.more ≡ 1
  pub address : slice_get (map read_address (entries_as false dims words)) e.place ≡ Some e.entry.addr
  pub rise : AreRising dims (first_in words).level 0 (edited_as false dims words e)

-- its table was made that of the edit, and its outline had been read before
pub record IsChanged (cube : Bool) (dims : ℕ) (words : List ℕ) (e : Edit) (o : Outline) (new : List ℕ) : Type 0 where
  pub whole : IsRecord cube dims words
  pub fit : Each (λ x. x < 2 ^ 64) words
  pub within : e.place + e.less ≤ (first_in words).entries
  pub rise : AreRising dims (first_in words).level 0 (edited_as cube dims words e)
  pub outline : IsOutline cube dims words e o
  pub made : new ≡ with_table cube dims words e

-- how many values there are once vs stand in place of those between front and until
abbrev pub points_then : Outline → List ℕ → List ℕ → ℕ
points_then o vs words = o.front + length vs + (length words - (o.values + o.until))

-- words in which vs can stand there, with no more values than entries
pub record IsOutlined (o : Outline) (vs words : List ℕ) : Type 0 where
  pub order : o.front ≤ o.until
  pub first : 1 ≤ o.values
  pub within : o.values + o.until ≤ length words
  pub points : points_then o vs words ≤ o.count
  pub few : o.count ≤ 2 ^ 16
  pub low : o.level ≤ 61

-- the words then,
abbrev pub values_put : Outline → List ℕ → List ℕ → List ℕ
values_put o vs words = take (o.values + o.front) words ++ (vs ++ drop (o.values + o.until) words)

-- and the same with the first word that counts the values
abbrev pub with_values : ℕ → Outline → List ℕ → List ℕ → List ℕ
with_values layout o vs words = slice_set (values_put o vs words) 0 (first_word o.level layout o.count (o.count - points_then o vs words))
