-- The sizes of a tree.
use Rattle.std.specs.Prelude.{◌≡◌, ◌-◌, ◌^◌, min, ℕ}
use Rattle.ph_specs.specs.Stats.{Stats, stats}
use Rattle.ph_c.specs.declared.sizes.TreeSizes.{TreeSizes}
use Rattle.ph_c.specs.Trees.{AnyTable}
use Rattle.ph_c.specs.Answers as code

-- what the definitions count
unfoldable pub stats_in : AnyTable → Stats
stats_in t = stats t.tree.width t.dims t.tree.table

-- the words are told as 2^64 - 1 where they are more
pub record AreSizesOf (t : AnyTable) (told : TreeSizes) : Type 0 where
  pub rows : told.rows ≡ (stats_in t).rows
  pub nodes : told.nodes ≡ (stats_in t).nodes
  pub linear : told.linear ≡ (stats_in t).linear
  pub cube : told.cube ≡ (stats_in t).cube
  pub words : told.words ≡ min (stats_in t).words (2 ^ 64 - 1)

-- the sizes are told
abbrev pub TellsSizes : AnyTable → TreeSizes → ℕ → Type 0
TellsSizes t told answer = (answer ≡ code.done) × AreSizesOf t told
