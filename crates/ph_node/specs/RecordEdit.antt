-- One edit of what stands at an address of a record, in whichever layout it is.
use Rattle.std.specs.Prelude.{◌≡◌, ℕ, ◌+◌, ◌^◌, ◌<◌, ◌≤◌, List, length, nat_le}
use Rattle.std.specs.List.{position_or_len}
use Rattle.ph_model.specs.Layout.{read_address, AreRising}
use Rattle.ph_specs.specs.Node.{Flat}
use Rattle.ph_specs.specs.Pack.{values, record_of}
use Rattle.ph_specs.specs.Record.{first_in, entries_in}
use Rattle.ph_bits.specs.Edits.{edit_of, words_wanted}
use Rattle.ph_bits.specs.Packed.{IsPadded}
use Rattle.ph_bits.specs.declared.edits.Edit.{Edit}
use Rattle.ph_node.specs.Recorded.{IsSource}

-- the entries of a record with an edit
abbrev pub with_edit : ℕ → List ℕ → Edit → List Flat
with_edit dims words e = edit_of dims words e.place e.less e.more e.entry e.value

-- the words of their record, and that record
abbrev pub words_with : ℕ → List ℕ → Edit → ℕ
words_with dims words e =
    let all = with_edit dims words e in words_wanted dims (first_in words).level (length all) (length (values all))

abbrev pub record_with : ℕ → List ℕ → Edit → List ℕ
record_with dims words e = record_of dims (first_in words).level (with_edit dims words e)

-- how many entries of a record stand in front of an address
abbrev pub entries_before : ℕ → List ℕ → ℕ → ℕ
entries_before dims words a = position_or_len (λ r. nat_le a (read_address r)) (entries_in dims words)

-- an edit of what stands at the address of its entry: all that stood there is left out, and a new entry stands there
pub record IsRecordEdit (dims : ℕ) (words : List ℕ) (e : Edit) : Type 0 where
  pub source : IsSource dims words
  pub within : e.place + e.less ≤ (first_in words).entries
  pub few : e.more ≤ 1
  pub address : e.entry.addr < 2 ^ dims
  pub front : e.place ≡ entries_before dims words e.entry.addr
  pub behind : e.place + e.less ≡ entries_before dims words (e.entry.addr + 1)
  pub rise : AreRising dims (first_in words).level 0 (with_edit dims words e)
  pub padded : IsPadded dims e.entry.body
