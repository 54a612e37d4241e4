-- What a block of words and values is seen as.
use Rattle.std.specs.Prelude.{◌≡◌, ℕ, List}
use Rattle.std.specs.declared.alloc.Global.{Global}
use Rattle.ph_bits.specs.Block.{Block}

-- its words, how many places there are between them and the values, the values, and the allocator that it goes back to
pub record Filled (X : Type 0) : Type 0 where
  pub words : List ℕ
  pub spare : ℕ
  pub values : List X
  pub heap : Global

-- a block of words with values behind them
abbrev pub filled : {X : Type 0} → Block → List X → Filled X
filled b xs = record { words = b.words; spare = b.spare; values = xs; heap = b.heap }

-- its words and its allocator are those of another
abbrev pub IsSameWords : {X : Type 0} → Filled X → Filled X → Type 0
IsSameWords a b = (b.words ≡ a.words) × (b.heap ≡ a.heap)

-- its values and its allocator are those of another
abbrev pub IsSameValues : {X : Type 0} → Filled X → Filled X → Type 0
IsSameValues a b = (b.values ≡ a.values) × (b.heap ≡ a.heap)
