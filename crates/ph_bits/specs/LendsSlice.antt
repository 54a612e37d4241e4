-- What a block ends as, once a `&mut` to its words has ended.
use Rattle.std.specs.Prelude.{ℕ, List, length}
use Rattle.std.specs.Borrow.{Fml, MutBor, Array, Lends, u64}
use Rattle.std.specs.List.{refill}
use Rattle.ph_bits.specs.Block.{Block}
use Rattle.ph_bits.specs.contracts.words.Words.{the_row}

-- the block with ws in place of its words, as many as they are
abbrev pub with_slice : Block → List ℕ → Block
with_slice b ws = record { words = refill (length b.words) b.words ws; spare = b.spare; heap = b.heap }

abbrev pub lends_slice : MutBor Block → MutBor (List ℕ) → Fml
lends_slice b r = Lends the_row (Array u64 0) b r (with_slice b.now)
