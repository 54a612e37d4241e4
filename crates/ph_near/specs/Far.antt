-- How far an entry is from a point, by offsets.
use Rattle.std.specs.Prelude.{ℕ, ◌+◌, ◌-◌, ◌*◌, ◌^◌, List, ◌∷◌, map}
use Rattle.ph_specs.specs.TreeRows.{put_together}
use Rattle.ph_model.specs.EntryList.{What, value, node}
use Rattle.ph_model.specs.PutTree.{body_above}
use Rattle.ph_model.specs.Regions.{gap}
use Rattle.ph_node.specs.Apart.{squares_apart}

-- how far a number lies from those that begin at another one and differ from it below a level alone
abbrev pub gap_above : ℕ → ℕ → ℕ → ℕ
gap_above level low x = (low - x) + (x - (low + (2 ^ level - 1)))

-- the sum of the squares of the gaps between numbers and those that agree with others above a level
abbrev pub gaps_squared : ℕ → List ℕ → List ℕ → ℕ
gaps_squared level (a ∷ p) (b ∷ q) = gap level a b * gap level a b + gaps_squared level p q
gaps_squared level _ _ = 0

-- the same where the others have zeros below the level
abbrev pub gaps_above : ℕ → List ℕ → List ℕ → ℕ
gaps_above level (a ∷ p) (b ∷ q) = gap_above level a b * gap_above level a b + gaps_above level p q
gaps_above level _ _ = 0

abbrev pub zeros : List ℕ → List ℕ
zeros xs = map (λ x. 0) xs

-- the least numbers with an address at a level behind digits that are known above it
abbrev pub corner_of : ℕ → ℕ → List ℕ → List ℕ
corner_of level addr known = put_together level addr (body_above level known) (zeros known)

-- the square of the distance of an entry of a node at a level, whose digits are joined
abbrev pub entry_gap : ℕ → List ℕ → List ℕ → What → ℕ
entry_gap level joined center (value v) = squares_apart joined center
entry_gap level joined center (node n) = gaps_squared (level - 1) joined center
