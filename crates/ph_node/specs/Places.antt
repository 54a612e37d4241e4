-- Places of addresses among entries.
use Rattle.std.specs.Prelude.{ℕ, List, nat_le}
use Rattle.std.specs.List.{position_or_len}
use Rattle.ph_model.specs.EntryList.{Entry}

-- the place of the first entry whose address is at least this one, or behind all entries
abbrev pub place_for : ℕ → List Entry → ℕ
place_for a es = position_or_len (λ e. nat_le a e.addr) es
