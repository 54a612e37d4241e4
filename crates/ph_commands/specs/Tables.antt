-- The trees of the code as tables, of any number of dimensions.
use Rattle.std.specs.Prelude.{◌≡◌, ℕ, ◌%◌, []}
use Rattle.std.specs.List.{AllByRecursion}
use Rattle.ph_specs.specs.declared.Kind.{Kind}
use Rattle.ph_specs.specs.Boxes.{AreBoxes}
use Rattle.ph_specs.specs.declared.Kind.TheVariants.{Points, Boxes}
use Rattle.ph_specs.specs.declared.Which.TheVariants.{A}
use Rattle.ph_specs.specs.Coordinate.{IsPoint}
use Rattle.ph_specs.specs.Named.{Named}
use Rattle.ph_specs.specs.State.{Slot, Engine, new_slot}
use Rattle.ph_specs.specs.Window.{Cursor}
use Rattle.ph_specs.specs.Past.{Past}
use Rattle.ph_tree.specs.Tree.{TreeTable}
use Rattle.ph_window.specs.Page.{IsLast}

-- a table with its past, and its number of dimensions
pub record AnyTable : Type 0 where
  pub dims : ℕ
  pub tree : Past

abbrev pub table_at : ℕ → Past → AnyTable
table_at dims t = record { dims = dims; tree = t }

-- the same of a tree that keeps no edits
abbrev pub bare : TreeTable → Past
bare t = record { table = t.table; width = t.width; max = t.max; depth = 0; past = [] }

abbrev pub tree_at : ℕ → TreeTable → AnyTable
tree_at dims t = table_at dims (bare t)

-- the table of a new tree, of which no edits are kept
abbrev pub empty_table : ℕ → ℕ → ℕ → AnyTable
empty_table dims width max = tree_at dims (record { table = []; width = width; max = max })

-- a slot of a kind with such cursors
abbrev pub slot_of : Kind → AnyTable → Named Cursor → Slot
slot_of kind t cursors =
    record { kind = kind; dims = t.dims; width = t.tree.width; max = t.tree.max; table = t.tree.table; cursors = cursors; depth = t.tree.depth; past = t.tree.past }

-- an engine whose current slot is this one, and whose other slot is new
abbrev pub engine_of : Slot → Engine
engine_of s = record { a = s; b = new_slot; current = A }

-- a cursor that serves in a table: its corners and its last point are points of it
pub record IsCursorIn (t : AnyTable) (c : Cursor) : Type 0 where
  pub lo : IsPoint t.tree.width t.dims c.lo
  pub hi : IsPoint t.tree.width t.dims c.hi
  pub last : IsLast t.tree.width t.dims c.last

-- the points of a table are of the kind, and those of its past too: those of boxes have an even number of dimensions, half of them for the low corner, and each is a box
abbrev pub IsOfKind : Kind → AnyTable → Type 0
IsOfKind Points t = Unit {0}
IsOfKind Boxes t = (t.dims % 2 ≡ 0) × AreBoxes t.tree.table × AllByRecursion AreBoxes t.tree.past

-- a table of the same width, number of dimensions and kind
pub record SameFrame (kind : Kind) (t now : AnyTable) : Type 0 where
  pub width : now.tree.width ≡ t.tree.width
  pub dims : now.dims ≡ t.dims
  pub of_kind : IsOfKind kind t → IsOfKind kind now
