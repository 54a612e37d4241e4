-- One edit at an address.
use Rattle.std.specs.Prelude.{◌≡◌, ℕ, ◌+◌, ◌^◌, ◌<◌, ◌≤◌, List, nat_le, true}
use Rattle.std.specs.List.{position_or_len}
use Rattle.ph_model.specs.Layout.{entries_as, read_address}
use Rattle.ph_bits.specs.declared.edits.Edit.{Edit}

-- how many entries of a record stand in front of an address
abbrev pub entries_below : ℕ → List ℕ → ℕ → ℕ
entries_below dims words a = position_or_len (λ r. nat_le a (read_address r)) (entries_as true dims words)

-- an edit of what stands at an address: all that stood there is left out, and a new entry stands there
pub record IsEditAt (dims : ℕ) (words : List ℕ) (e : Edit) (addr : ℕ) : Type 0 where
  pub address : addr < 2 ^ dims
  pub front : e.place ≡ entries_below dims words addr
  pub behind : e.place + e.less ≡ entries_below dims words (addr + 1)
  pub few : e.more ≤ 1
  pub same : 0 < e.more → e.entry.addr ≡ addr
