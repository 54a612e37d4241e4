-- What imports and exports do to a table.
use Rattle.std.specs.Prelude.{◌≡◌, ℕ, ◌≤◌, ◌+◌, ◌-◌, Bool, true, false, ◌||◌, nat_lt, nat_le, if◌then◌else◌, List, [], ◌∷◌, length, take, Result, Ok, Err}
use Rattle.ph_specs.specs.Reply.{Reply}
use Rattle.ph_specs.specs.Table.{Row}
use Rattle.ph_specs.specs.Sets.{put_all}
use Rattle.ph_import.specs.Imported.{with_some, with_rows}
use Rattle.ph_script.specs.declared.reply.Reply.{Reply as Told}
use Rattle.ph_script.specs.Meaning.{reply_of}
use Rattle.ph_commands.specs.Tables.{AnyTable, table_at, SameFrame}
use Rattle.ph_csv.specs.Faults.{IsFault}
use Rattle.ph_csv.specs.declared.fault.CsvFault.{CsvFault}
use Rattle.ph_csv.specs.declared.fault.CsvFault.TheVariants as csv
use Rattle.ph_specs.specs.Csv.{csv_rows}
use Rattle.ph_specs.specs.declared.Kind.{Kind}
use Rattle.ph_commands.specs.Working.{import_bounds}
use Rattle.ph_commands.specs.Shelves.{Shelf, Filled, Unfilled, Entered}
use Rattle.ph_io.specs.declared.streams.Failed.{Failed}

-- whether a table has no more rows than come, so that it gets them all or none
abbrev pub is_renewed : List Row → List Row → Bool
is_renewed table rows = nat_le (length table) (length rows)

-- at most so many rows in front, and never all
abbrev pub first_rows : ℕ → List Row → List Row
first_rows n rows = take n (take (length rows - 1) rows)

-- ---- rows that are put

-- the table with rows put into it, and whether it has more than it may have then
abbrev pub table_with : AnyTable → List Row → AnyTable
table_with t rows = table_at t.dims (with_rows t.tree rows)

abbrev pub is_overfull : AnyTable → List Row → Bool
is_overfull t rows = nat_lt t.tree.max (length (put_all t.tree.width t.tree.table rows))

-- the rows of a text for a table, or the reply to its fault
abbrev pub rows_for : AnyTable → Kind → Bool → List ℕ → Result (List Row) Reply
rows_for t kind header text = csv_rows t.tree.width t.dims kind header text

-- what a table becomes by the rows that were read, or by their fault, and the reply
abbrev pub imported_table : AnyTable → Result (List Row) Reply → AnyTable
imported_table t (Ok rows) = if is_overfull t rows then t else table_with t rows
imported_table t (Err fault) = t

abbrev pub imported_reply : AnyTable → Result (List Row) Reply → Reply
imported_reply t (Ok rows) = if is_overfull t rows then Reply.ErrorFull else Reply.Imported (length rows)
imported_reply t (Err fault) = fault

-- the same with the past where there are no rows
abbrev pub table_with_some : AnyTable → List Row → AnyTable
table_with_some t rows = table_at t.dims (with_some t.tree rows)

-- the table with some first rows of those that were read, and not all of them, if it has more rows than these and the import would be done
abbrev pub table_with_first : AnyTable → ℕ → Result (List Row) Reply → AnyTable
table_with_first t part (Ok rows) = if is_overfull t rows || is_renewed t.tree.table rows then t else table_with_some t (first_rows part rows)
table_with_first t part (Err fault) = t

-- the bounds of an import
abbrev pub import_visits : AnyTable → Result (List Row) Reply → ℕ
import_visits t read = (import_bounds t.dims t.tree read).most_visits

abbrev pub import_changes : AnyTable → Result (List Row) Reply → ℕ
import_changes t read = (import_bounds t.dims t.tree read).most_changes

-- the rows were put, or memory was missing for some of them
abbrev pub ImportsOr : {E : Type 0} → AnyTable → Result (List Row) Reply → AnyTable → Result Told E → Type 0
ImportsOr t read now (Ok reply) = (now ≡ imported_table t read) × (reply_of reply ≡ imported_reply t read)
ImportsOr t read now (Err error) = (part : ℕ) × (now ≡ table_with_first t part read)

-- the same with its work, in a table that keeps its width, dimensions and kind
pub record ImportDone {E : Type 0} (kind : Kind) (t : AnyTable) (read : Result (List Row) Reply) (now : AnyTable)
    (visits now_visits changes now_changes : ℕ) (result : Result Told E) : Type 0 where
  pub imports : ImportsOr t read now result
  pub frame : SameFrame kind t now
  pub later : visits ≤ now_visits
  pub few_visits : now_visits ≤ visits + import_visits t read
  pub kept : changes ≤ now_changes
  pub few_changes : now_changes ≤ changes + import_changes t read

-- a reply tells the fault of a text, or memory was missing for its rows
abbrev pub TellsRecord : {E : Type 0} → CsvFault → Result Told E → Type 0
TellsRecord fault (Ok reply) = (answer : Result (List Row) Reply) → IsFault answer fault → answer ≡ Err (reply_of reply)
TellsRecord fault (Err error) = fault ≡ csv.NoMemory

-- ---- rows that are written

-- the bytes were appended to the file that is begun
abbrev pub AppendedOr : Shelf → Shelf → List ℕ → Result Unit Failed → Type 0
AppendedOr before now bytes (Ok _) = Filled before now bytes
AppendedOr before now bytes (Err _) = Unfilled before now

-- the bytes are a file under the name
abbrev pub ExportedOr : Shelf → Shelf → List ℕ → List ℕ → Result Unit Failed → Type 0
ExportedOr before now name bytes (Ok _) = Entered before now name bytes (length bytes)
ExportedOr before now name bytes (Err _) = Unfilled before now
