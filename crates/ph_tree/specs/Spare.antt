-- The room in a block that may be there.
use Rattle.std.specs.Prelude.{◌≡◌, ℕ, ◌≤◌, Option, MatchOption}
use Rattle.ph_bits.specs.Block.{Block, room_of}

-- room for so many words. With no block there is none
abbrev pub IsRoomy : Option Block → ℕ → Type 0
IsRoomy block n = MatchOption block (n ≡ 0) (λ words. n ≤ room_of words)
