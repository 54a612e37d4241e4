-- A walk that goes on behind a point.
use Rattle.std.specs.Prelude.{◌≡◌, ℕ, ◌+◌, ◌<◌, ◌≤◌, true, false, ◌&&◌, List, ℤ, ◌++◌, length, filter}
use Rattle.ph_specs.specs.ZOrder.{before}
use Rattle.ph_specs.specs.Node.{Entries, PlainNode}
use Rattle.ph_specs.specs.TreeRows.{rows_behind}
use Rattle.ph_model.specs.Lawful.{IsLawfulFrom}
use Rattle.ph_specs.specs.Region.{is_in, meets_window}
use Rattle.ph_specs.specs.WorkSets.{placed_below}
use Rattle.ph_specs.specs.Window.{rest, is_between}
use Rattle.ph_model.specs.PutTree.{body_above}
use Rattle.ph_path.specs.Known.{Known, AreKnown, point_at}
use Rattle.ph_path.specs.Path.{AreOver, IsPath}
use Rattle.ph_walk.specs.Area.{Area, touched_below}
use Rattle.ph_walk.specs.Walk.{Frame, IsFrame, path_rows, path_nodes}
use Rattle.ph_window.specs.declared.mark.Stand.{Stand}
use Rattle.ph_window.specs.declared.mark.Stand.TheVariants.{Holds, Later, Earlier}
use Rattle.ph_window.specs.Corners.{Corners, AreCorners, points_of, HasMasks}
use Rattle.ph_window.specs.Mark.{Mark, IsMark}
use Rattle.ph_window.specs.Window.{behind, lies_behind}

-- how a point stands to the region of the digits at hand above a level
abbrev pub IsStand : ℕ → Known → Mark → Stand → Type 0
IsStand level k m Holds = body_above level k.digits ≡ body_above level m.digits
IsStand level k m Later =
    (body_above level k.digits ≡ body_above level m.digits → ⊥) × (before m.width (point_at m.width m.digits) (point_at m.width k.digits) ≡ true)
IsStand level k m Earlier =
    (body_above level k.digits ≡ body_above level m.digits → ⊥) × (before m.width (point_at m.width m.digits) (point_at m.width k.digits) ≡ false)

-- a walk that has come to a node whose region holds the point
pub record IsReady (d : ℕ) (m : Mark) (c : Corners) (k : Known) (path : List Frame) (n : PlainNode) : Type 0 where
  pub mark : IsMark d m
  pub corners : AreCorners d c
  pub known : AreKnown d k
  pub width : m.width ≡ c.width
  pub same : k.width ≡ c.width
  pub level : n.level < c.width
  pub lawful : IsLawfulFrom d n.level 0 n.chain
  pub held : body_above n.level k.digits ≡ body_above n.level m.digits
  pub over : AreOver n.level path
  pub way : IsPath (IsFrame d (points_of c) (HasMasks c) k.digits) path

-- the regions that have a point in the window and lie behind the point
abbrev pub ahead_of : Corners → Mark → Area
ahead_of c m =
    record {
      width = c.width;
      belongs = λ p. is_between (point_at c.width c.low) (point_at c.width c.high) p && before c.width (point_at c.width m.digits) p;
      touches = λ r. meets_window c.width r (point_at c.width c.low) (point_at c.width c.high) && lies_behind c.width r (point_at c.width m.digits);
    }

-- what is left of a node behind the point, in front of what the path had
pub record IsResumed (d : ℕ) (m : Mark) (c : Corners) (n : PlainNode) (k : Known) (path : List Frame) (j : Known) (new : List Frame) : Type 0 where
  pub width : j.width ≡ k.width
  pub way : IsPath (IsFrame d (points_of c) (HasMasks c) j.digits) new
  pub rows :
      path_rows (points_of c) j.digits new
      ≡ rest c.width (behind (point_at c.width c.low) (point_at c.width c.high) (point_at c.width m.digits))
      (rows_behind c.width n.level (body_above n.level k.digits) n.chain)
      ++ path_rows (points_of c) k.digits path
  pub nodes :
      path_nodes (points_of c) j.digits new
      ≤ length (touched_below (ahead_of c m) n.level (body_above n.level k.digits) n.chain) + path_nodes (points_of c) k.digits path

-- how many nodes below entries at a level, behind digits that are known above it, have a region that holds a point
abbrev pub held_below : ℕ → ℕ → List ℕ → Entries → List ℤ → ℕ
held_below width level above es p = length (filter (λ x. is_in width x.region p) (placed_below width level above es))

-- the same of a node whose region holds the point that a walk goes on behind: the nodes below it that are on the way to that point
abbrev pub way_below : Mark → Corners → Known → PlainNode → ℕ
way_below m c k n = held_below c.width n.level (body_above n.level k.digits) n.chain (point_at c.width m.digits)
