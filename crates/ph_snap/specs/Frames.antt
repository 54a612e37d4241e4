-- The first word of a record, and words of which it says how many they are.
use Rattle.std.specs.Prelude.{◌≡◌, ℕ, ◌+◌, ◌*◌, ◌^◌, ◌≤◌, List, length, slice_get, Some}
use Rattle.ph_specs.specs.Pack.{layout}
use Rattle.ph_specs.specs.Record.{First as Said, first_in, has_cube, record_words, read, entries_in}
use Rattle.ph_bits.specs.Fields.{digits_row}
use Rattle.ph_snap.specs.declared.first.First.{First}
use Rattle.ph_snap.specs.declared.entries.Entry.{Entry}

abbrev pub said_by : First → Said
said_by f = record { level = f.level; layout = f.layout; entries = f.entries; children = f.children }

-- words with a first word that a record may have, and as many as it says
pub record IsFramed (dims : ℕ) (words : List ℕ) : Type 0 where
  pub some : 1 ≤ dims
  pub few : dims ≤ 16
  pub low : (first_in words).level ≤ 61
  pub least : 1 ≤ (first_in words).entries
  pub most : (first_in words).entries ≤ 2 ^ dims
  pub kids : (first_in words).children ≤ (first_in words).entries
  pub bottom : (first_in words).level ≡ 0 → (first_in words).children ≡ 0
  pub told : (first_in words).layout ≡ layout (has_cube dims (first_in words))
  pub long : length words ≡ record_words dims (first_in words)

-- entry i of a record, whose body is the row of fields that begins at a digit of the words
pub record IsEntry (dims : ℕ) (words : List ℕ) (i : ℕ) (e : Entry) : Type 0 where
  pub read_is : slice_get (entries_in dims words) i ≡ Some (read e.child e.addr (digits_row words e.body (first_in words).level dims))
  pub inside : e.body + dims * (first_in words).level ≤ 64 * length words
  pub near : e.body ≤ 2 ^ 62
