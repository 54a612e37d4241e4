-- The room that is there before a removal begins.
use Rattle.std.specs.Prelude.{◌≡◌, ℕ, ◌≤◌, MatchOption}
use Rattle.ph_bits.specs.Block.{room_of}
use Rattle.ph_tree.specs.declared.removals.Removal.{Removal}

-- so much room, in the block that is there. With no block there is none
abbrev pub HasRoom : Removal → ℕ → Type 0
HasRoom r n = MatchOption r.there (n ≡ 0) (λ words. n ≤ room_of words)
