-- The parts of a block belong together.
use Rattle.std.specs.Prelude.{◌≡◌, ℕ, ◌+◌, ◌-◌, ◌<◌, ◌^◌, List, Option, length}
use Rattle.std.specs.declared.alloc.Global.{Global}
use Rattle.ph_bits.specs.Block.{Block}
use Rattle.ph_bits.specs.Slots.{AreWritten, words_in}
use Rattle.ph_bits.specs.declared.places.Start.{Start}
use Rattle.ph_bits.specs.declared.places.Places.{Places}
use Rattle.ph_bits.specs.declared.places.Right.{Right}

-- they are those of one block with a place for its header, and the first len places behind that have words
pub record IsBlock (s : Start) (p : Places) (r : Right Global) (len room : ℕ) (alloc : Global) : Type 0 where
  pub start : s.at ≡ p.at
  pub right : r.at ≡ p.at
  pub whole : r.room ≡ room + 1
  pub heap : r.alloc ≡ alloc
  pub places : length p.slots ≡ room + 1
  pub small : room < 2 ^ 21
  pub written : AreWritten (len + 1) p.slots

-- what they are seen as
abbrev pub block_of : List (Option ℕ) → ℕ → ℕ → Global → Block
block_of cs len room heap = record { words = words_in len cs; spare = room - len; heap = heap }
