-- What a block of words is seen as.
use Rattle.std.specs.Prelude.{◌≡◌, ℕ, ◌+◌, List, [], length, replicate}
use Rattle.std.specs.declared.alloc.Global.{Global}

-- its words, how many places there are behind them, and the allocator that it goes back to
pub record Block : Type 0 where
  pub words : List ℕ
  pub spare : ℕ
  pub heap : Global

-- how many words it may have
abbrev pub room_of : Block → ℕ
room_of b = length b.words + b.spare

-- a block of zeros
abbrev pub zeros : Global → ℕ → Block
zeros heap n = record { words = replicate n 0; spare = 0; heap = heap }

-- a block without words
abbrev pub empty : Global → ℕ → Block
empty heap n = record { words = []; spare = n; heap = heap }

-- its places and its allocator are those of another
abbrev pub IsSamePlaces : Block → Block → Type 0
IsSamePlaces a b = (room_of b ≡ room_of a) × (b.heap ≡ a.heap)
