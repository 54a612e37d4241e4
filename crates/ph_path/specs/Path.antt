-- The frames of a path, the last one first, and what is still to be looked at in them.
use Rattle.std.specs.Prelude.{ℕ, suc, ◌+◌, ◌<◌, List, [], ◌∷◌, ◌++◌, length, drop, Option, Some, None}
use Rattle.ph_specs.specs.Node.{Entries, end, point, child, PlainNode}
use Rattle.ph_model.specs.EntryList.{entries, chained}
use Rattle.ph_model.specs.PutTree.{body_above}
use Rattle.ph_node.specs.Shown.{shown}
use Rattle.ph_path.specs.declared.frame.FrameOf.{FrameOf}

-- a bound on the steps of a walk over entries
abbrev pub entry_steps : Entries → ℕ
entry_steps end = 0
entry_steps (point a body v rest) = suc (entry_steps rest)
entry_steps (child a body below chain rest) = suc (suc (entry_steps chain + entry_steps rest))

abbrev pub root_steps : Option PlainNode → ℕ
root_steps None = 0
root_steps (Some n) = suc (suc (entry_steps n.chain))

module _ {M : Type 0} where
  -- the entries of a frame's node that are still to be looked at
  abbrev pub left_in : FrameOf PlainNode M → Entries
  left_in f = chained (drop f.place (entries (shown f.node)))

  abbrev pub path_steps : List (FrameOf PlainNode M) → ℕ
  path_steps [] = 0
  path_steps (f ∷ fs) = suc (entry_steps (left_in f) + path_steps fs)

  -- the nodes of all frames are above a level
  abbrev pub AreOver : ℕ → List (FrameOf PlainNode M) → Type 0
  AreOver b [] = Unit {0}
  AreOver b (f ∷ fs) = (b < (shown f.node).level) × AreOver b fs

  -- each frame is as it should be, and those behind it are above it
  abbrev pub IsPath : (FrameOf PlainNode M → Type 0) → List (FrameOf PlainNode M) → Type 0
  IsPath IsFrame [] = Unit {0}
  IsPath IsFrame (f ∷ fs) = IsFrame f × AreOver (shown f.node).level fs × IsPath IsFrame fs

  module _ {X : Type 0} (below : ℕ → List ℕ → Entries → List X) (known : List ℕ) where
    -- what a walk finds below the entries that are left in a frame. Of the known digits those above the node's level count
    abbrev pub found_in : FrameOf PlainNode M → List X
    found_in f = below (shown f.node).level (body_above (shown f.node).level known) (left_in f)

    -- in all frames, the last one first
    abbrev pub found : List (FrameOf PlainNode M) → List X
    found [] = []
    found (f ∷ fs) = found_in f ++ found fs

    -- and how much this is
    abbrev pub counted : List (FrameOf PlainNode M) → ℕ
    counted [] = 0
    counted (f ∷ fs) = length (found_in f) + counted fs
