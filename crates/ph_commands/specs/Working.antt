-- The work of a command: bounds of the nodes that it visits and of the changes that it makes.
use Rattle.std.specs.Prelude.{ℕ, ◌+◌, ◌-◌, min, Bool, true, false, List, [], ◌∷◌, Option, None, ◌≤◌, ◌*◌, ◌/◌, not, ◌&&◌, if◌then◌else◌, length, ℤ, Some}
use Rattle.std.specs.Prelude.{Result, Ok, Err}
use Rattle.ph_specs.specs.Command.{Command}
use Rattle.ph_specs.specs.Reply.{Reply}
use Rattle.ph_specs.specs.Table.{Row, has}
use Rattle.ph_specs.specs.WorkSets.{path, meets, reach, ball, all_nodes, join_visits, combine_visits}
use Rattle.ph_specs.specs.Coordinate.{low_corner, high_corner}
use Rattle.ph_specs.specs.Boxes.{overlaps_low, overlaps_high, inside_low, inside_high, covers_low, covers_high}
use Rattle.ph_specs.specs.declared.SetOperation.{SetOperation}
use Rattle.ph_specs.specs.Sets.{combine}
use Rattle.ph_specs.specs.Engine.{same_slots}
use Rattle.ph_specs.specs.Named.{lookup}
use Rattle.ph_specs.specs.Window.{Cursor}
use Rattle.ph_specs.specs.Refusals.{refusal, bytes_of, import_rows}
use Rattle.ph_join.specs.Joining.{one_of}
use Rattle.ph_commands.specs.Differing.{back_visits}
use Rattle.ph_import.specs.Imported.{import_visits, most_visits, most_changes}
use Rattle.ph_specs.specs.Past.{Past}
use Rattle.ph_specs.specs.State.{Slot, Engine, Files, current, other, past_in}

abbrev pub one_if : Bool → ℕ
one_if true = 1
one_if false = 0

-- bounds of the nodes visited and of the changes made
pub record Work : Type 0 where
  pub most_visits : ℕ
  pub least_visits : ℕ
  pub most_changes : ℕ
  pub least_changes : ℕ

abbrev pub work : ℕ → ℕ → ℕ → ℕ → Work
work most_visits least_visits most_changes least_changes =
    record { most_visits = most_visits; least_visits = least_visits; most_changes = most_changes; least_changes = least_changes }

abbrev pub no_work : Work
no_work = work 0 0 0 0

-- the nodes that are visited to find the place of a cursor again: none where nothing was listed, or else those on the path of its last row, and the root at least
abbrev pub most_to_resume : ℕ → ℕ → List Row → Option (List ℤ) → ℕ
most_to_resume width dims table None = 0
most_to_resume width dims table (Some last) = min (length (path width dims table last)) width

abbrev pub least_to_resume : List Row → Option (List ℤ) → ℕ
least_to_resume rows None = 0
least_to_resume [] (Some last) = 0
least_to_resume (r ∷ rows) (Some last) = 1

-- those of a page under a cursor
abbrev pub page_bounds : Slot → Option Cursor → Work
page_bounds s (Some c) =
    work (most_to_resume s.width s.dims s.table c.last + length (meets s.width s.dims s.table c.lo c.hi)) (least_to_resume s.table c.last) 0 0
page_bounds s None = no_work

-- those of a listing of a window
abbrev pub window_bounds : Slot → List ℤ → List ℤ → Work
window_bounds s lo hi = let n = length (meets s.width s.dims s.table lo hi) in work n n 0 0

-- those of an import of rows that were read into a table with its past, or of their fault
abbrev pub import_bounds : ℕ → Past → Result (List Row) Reply → Work
import_bounds dims k (Ok rows) =
    work (min (import_visits dims k rows) (most_visits k.width k.table (length rows))) 0 (most_changes k.width dims k.table rows) 0
import_bounds dims k (Err fault) = no_work

-- the nodes of a slot's tree
abbrev pub nodes_of : Slot → ℕ
nodes_of s = length (all_nodes s.width s.dims s.table)

-- the bounds of a command on a slot that does not refuse it: a look-up visits its path, and never more nodes than a coordinate has bits
abbrev pub bounds : Slot → Files → Command → Work
bounds s files (Command.Get p) = let n = length (path s.width s.dims s.table p) in work (min n s.width) n 0 0
bounds s files (Command.Put p v) = work (2 * length (path s.width s.dims s.table p) - 1) 0 2 (one_if (not (has s.table p)))
bounds s files (Command.Del p) = work (2 * length (path s.width s.dims s.table p) - 1) 0 2 (one_if (has s.table p))
bounds s files (Command.Relocate p q) =
    work (3 * length (path s.width s.dims s.table p) + 2 * length (path s.width s.dims s.table q)) 0 4 (one_if (has s.table p && not (has s.table q)))
bounds s files (Command.Window lo hi) = window_bounds s lo hi
bounds s files (Command.Near q n) = work (length (reach s.width s.dims s.table q n)) 0 0 0
bounds s files (Command.Within q r) = let n = length (ball s.width s.dims s.table q r) in work n n 0 0
bounds s files (Command.Overlap q) = window_bounds s (overlaps_low s.width (low_corner q) (high_corner q)) (overlaps_high s.width (low_corner q) (high_corner q))
bounds s files (Command.Inside q) = window_bounds s (inside_low s.width (low_corner q) (high_corner q)) (inside_high s.width (low_corner q) (high_corner q))
bounds s files (Command.Covers q) = window_bounds s (covers_low s.width (low_corner q) (high_corner q)) (covers_high s.width (low_corner q) (high_corner q))
bounds s files (Command.Page name n) = page_bounds s (lookup name s.cursors)
bounds s files (Command.Save name) = let n = nodes_of s in work n n 0 0
bounds s files (Command.Load name) = work 0 0 (length (bytes_of (lookup name files)) / 16) 0
bounds s files (Command.Import name header) = import_bounds s.dims (past_in s) (import_rows s files name header)
bounds s files (Command.Export name) = let n = nodes_of s in work n n 0 0
bounds s files (Command.Back n) = work (min (back_visits s.width s.dims s.table s.past n) (5 * s.width * n)) 0 (4 * n) n
bounds s files Command.Statistics = let n = nodes_of s in work n n 0 0
bounds s files _ = no_work

-- those of a join: at most what a window for each row takes, and the root of the first tree at least
abbrev pub join_bounds : Slot → Slot → Work
join_bounds a b = work (join_visits a.width a.dims a.table b.table) (one_of (nodes_of a)) 0 0

-- those of a set operation: exactly as many visits as it takes where it is done, and a change for each node of its result
abbrev pub combine_bounds : SetOperation → Slot → Slot → Work
combine_bounds operation s t =
    let seen = combine_visits operation s.width s.dims s.table t.table in
    let made = length (all_nodes s.width s.dims (combine operation s.width s.table t.table)) in
    work seen seen made made

-- the bounds of a command of an engine: a comparison visits no more than all nodes of both trees, and these where the slots are the same
abbrev pub engine_bounds : Engine → Files → Command → Work
engine_bounds e files Command.Compare = let n = nodes_of e.a + nodes_of e.b in work n (if same_slots e.a e.b then n else 0) 0 0
engine_bounds e files Command.Join = join_bounds e.a e.b
engine_bounds e files (Command.Combine operation) = combine_bounds operation (current e) (other e)
engine_bounds e files command = bounds (current e) files command

-- a command that is refused has no least bound but 0
abbrev pub least_unless : Option Reply → ℕ → ℕ
least_unless (Some r) n = 0
least_unless None n = n

abbrev pub work_of : ℕ → Engine → Files → Bool → Command → Work
work_of most e files fault command =
    let w = engine_bounds e files command in
    let r = refusal most e files fault command in
    work w.most_visits (least_unless r w.least_visits) w.most_changes (least_unless r w.least_changes)

-- the counters rose by no more than the bounds, and by no less
pub record IsAtMost (w : Work) (visits now_visits changes now_changes : ℕ) : Type 0 where
  pub few_visits : now_visits ≤ visits + w.most_visits
  pub few_changes : now_changes ≤ changes + w.most_changes

pub record IsAtLeast (w : Work) (visits now_visits changes now_changes : ℕ) : Type 0 where
  pub enough_visits : visits + w.least_visits ≤ now_visits
  pub enough_changes : changes + w.least_changes ≤ now_changes
