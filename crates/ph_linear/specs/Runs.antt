-- The columns of a record where they lie, with an entry less or more: which runs of digits stand there, one behind the other.
use Rattle.std.specs.Prelude.{◌≡◌, ℕ, ◌+◌, ◌-◌, ◌*◌, ◌^◌, ◌≤◌, List, [], ◌∷◌, ◌++◌, length, take, drop, slice_index_or}
use Rattle.ph_specs.specs.Digits.{Field, field, digits_of, words_for, words_of}
use Rattle.ph_model.specs.Digits.{digits_at}
use Rattle.ph_specs.specs.Pack.{body_fields}
use Rattle.ph_specs.specs.Record.{first_in}
use Rattle.ph_bits.specs.declared.edits.Edit.{Edit}
use Rattle.ph_linear.specs.declared.copies.Column.{Column}
use Rattle.ph_linear.specs.declared.tables.Columns.{Columns}

-- the digit at which an entry of a column begins
abbrev pub start : Column → ℕ → ℕ
start c i = c.at + i * c.width

-- columns of as many entries each, one behind the other from the second word on
pub record AreColumns (words : List ℕ) (cs : Columns) : Type 0 where
  pub begin : cs.kinds.at ≡ 64
  pub one : cs.kinds.width ≡ 1
  pub addresses : cs.addresses.at ≡ start cs.kinds cs.kinds.count
  pub addresses_many : cs.addresses.count ≡ cs.kinds.count
  pub bodies : cs.bodies.at ≡ start cs.addresses cs.kinds.count
  pub bodies_many : cs.bodies.count ≡ cs.kinds.count
  pub inside : start cs.bodies cs.kinds.count ≤ 64 * length words
  pub near : start cs.bodies cs.kinds.count + cs.kinds.width + cs.addresses.width + cs.bodies.width ≤ 2 ^ 62

-- those of a record
pub record AreColumnsOf (dims : ℕ) (words : List ℕ) (cs : Columns) : Type 0 where
  pub columns : AreColumns words cs
  pub many : cs.kinds.count ≡ (first_in words).entries
  pub addresses_wide : cs.addresses.width ≡ dims
  pub bodies_wide : cs.bodies.width ≡ dims * (first_in words).level

-- the digits from one up to another, as one field
abbrev pub run : List ℕ → ℕ → ℕ → Field
run words from until = field (until - from) (digits_at words from (until - from))

-- the columns with these fields in place of those of the entries from one up to another
abbrev pub runs_around : List ℕ → Columns → ℕ → ℕ → List Field → List Field → List Field → List Field
runs_around words cs i j kinds addresses bodies =
    run words 64 (start cs.kinds i)
    ∷ (kinds ++ run words (start cs.kinds j) (start cs.addresses i)
    ∷ (addresses ++ run words (start cs.addresses j) (start cs.bodies i)
    ∷ (bodies ++ run words (start cs.bodies j) (start cs.bodies cs.bodies.count) ∷ [])))

-- the columns without an entry
abbrev pub runs_without : List ℕ → Columns → ℕ → List Field
runs_without words cs i = runs_around words cs i (i + 1) [] [] []

-- the columns with a new point entry
abbrev pub runs_with : List ℕ → Columns → ℕ → ℕ → Edit → List Field
runs_with words cs level dims e =
    runs_around words cs e.place e.place (field 1 0 ∷ []) (field cs.addresses.width e.entry.addr ∷ []) (body_fields level (take dims e.entry.body))

-- how many digits they have then
abbrev pub digits_more : Columns → ℕ
digits_more cs = start cs.bodies cs.bodies.count - 64 + 1 + cs.addresses.width + cs.bodies.width

-- words with fields in place of those behind the first word, and zeros up to the end of the last of them
abbrev pub with_fields : List Field → List ℕ → List ℕ
with_fields fs words = slice_index_or words 0 0 ∷ words_of fs ++ drop (1 + words_for (digits_of fs)) words
