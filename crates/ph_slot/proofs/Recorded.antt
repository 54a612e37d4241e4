-- What imports and exports do.
use Rattle.std.proofs.Common.{◌≡◌, ◌≤◌, ◌+◌, ℕ, Bool, true, false, List, [], ◌∷◌, length, refl, ap, sym, ◌∙◌}
use Rattle.std.specs.Prelude.{◌||◌, Some, None, nat_lt, if◌then◌else◌, Result, Ok, Err, Option}
use Rattle.ph_io.specs.Shelf.{Stays, Fetches}
use Rattle.ph_specs.specs.Command.{Command}
use Rattle.ph_specs.specs.Csv.{csv_rows}
use Rattle.ph_specs.specs.Engine.{act, unless_refused, import_outcome}
use Rattle.ph_specs.specs.Named.{Named, lookup}
use Rattle.ph_specs.specs.Refusals.{bytes_of, import_rows, put_all_read, read_length, refuse_if, refuse_if_bad}
use Rattle.ph_specs.specs.Reply.{Reply}
use Rattle.ph_specs.specs.State.{Slot, Files, outcome, past_in, with_past}
use Rattle.ph_specs.specs.Table.{Row}
use Rattle.ph_specs.specs.Window.{Cursor}
use Rattle.ph_specs.specs.declared.Kind.{Kind}
use Rattle.ph_script.specs.declared.reply.Reply.{Reply as Told}
use Rattle.ph_script.specs.Meaning.{reply_of}
use Rattle.ph_import.specs.Imported.{with_some}
use Rattle.ph_commands.specs.Recording.{first_rows, is_renewed, import_changes, import_visits, ImportsOr, imported_table, imported_reply, is_overfull}
use Rattle.ph_commands.specs.Recording.{table_with, table_with_some, table_with_first}
use Rattle.ph_slot.specs.Doing.{rows_put, with_first}
use Rattle.ph_slot.specs.Beside.{aside}
use Rattle.ph_slot.specs.Filing.{FiledOr}
use Rattle.ph_commands.specs.Tables.{AnyTable, slot_of, engine_of}
use Rattle.ph_commands.specs.Working.{import_bounds, work_of, IsAtMost}
use Rattle.ph_slot.proofs.Filed.{IsFetch, fetched-act, fetched-filed, fetched-starved, never-early}

-- ---- import

-- a slot with some first rows
some-slot : (kind : Kind) (t : AnyTable) (cursors : Named Cursor) (rows : List Row) →
    slot_of kind (table_with_some t rows) cursors ≡ with_past (slot_of kind t cursors)
    (with_some (past_in (slot_of kind t cursors)) rows)
some-slot kind t cursors [] = refl
some-slot kind t cursors (r ∷ rows) = refl

-- the engine with some first rows is that of the table with them
full-first : (kind : Kind) (t : AnyTable) (cursors : Named Cursor) (part : ℕ) (rows : List Row) →
    engine_of (slot_of kind (table_with_first t part (Ok rows)) cursors) ≡
    with_first (engine_of (slot_of kind t cursors)) part (rows_put (slot_of kind t cursors) (Ok rows))
full-first kind t cursors part rows =
    elim (is_overfull t rows || is_renewed t.tree.table rows)
    as (λ b. engine_of (slot_of kind (if b then t else table_with_some t (first_rows part rows)) cursors) ≡
    with_first (engine_of (slot_of kind t cursors)) part (if b then None else Some rows)) [
      | true ↦ refl
      | false ↦ ap engine_of (some-slot kind t cursors (first_rows part rows))
    ]

some-first : (kind : Kind) (t : AnyTable) (cursors : Named Cursor) (part : ℕ) (read : Result (List Row) Reply) →
    engine_of (slot_of kind (table_with_first t part read) cursors) ≡ with_first (engine_of (slot_of kind t cursors))
    part (rows_put (slot_of kind t cursors) read)
some-first kind t cursors part (Ok rows) = full-first kind t cursors part rows
some-first kind t cursors part (Err fault) = refl

none-put : (s : Slot) (rows : Option (List Row)) → with_first (engine_of s) 0 rows ≡ engine_of s
none-put s (Some rows) = refl
none-put s None = refl

none-first : (s : Slot) (read : Result (List Row) Reply) → with_first (engine_of s) 0 (rows_put s read) ≡ engine_of s
none-first s read = none-put s (rows_put s read)

no-least-visits : (s : Slot) (read : Result (List Row) Reply) → (import_bounds s.dims (past_in s) read).least_visits ≡ 0
no-least-visits s (Ok rows) = refl
no-least-visits s (Err fault) = refl

no-least-changes : (s : Slot) (read : Result (List Row) Reply) → (import_bounds s.dims (past_in s) read).least_changes ≡ 0
no-least-changes s (Ok rows) = refl
no-least-changes s (Err fault) = refl

pub fetch-import : (name : List ℕ) (header : Bool) → IsFetch (Command.Import name header) name
fetch-import name header = record {
  on_slot = refl;
  reads = refl;
  uses = refl;
  early = never-early (Command.Import name header) (λ s. refl) (λ s. refl);
  faulty = λ most files fault. refl;
  takes = λ s. refl;
  none_in = λ s files. none-first s (import_rows s files name header);
  least_visits = λ s files. no-least-visits s (import_rows s files name header);
  least_changes = λ s files. no-least-changes s (import_rows s files name header);
}

-- what an import does with what it has read
by-read : (kind : Kind) (t : AnyTable) (cursors : Named Cursor) (files : Files) (name : List ℕ) (header : Bool)
    (read : Result (List Row) Reply) → import_rows (slot_of kind t cursors) files name header ≡ read →
    let table = put_all_read t.tree.width t.tree.table read in
    unless_refused (refuse_if_bad table (refuse_if (nat_lt t.tree.max (read_length table)) Reply.ErrorFull None))
    (engine_of (slot_of kind t cursors)) files (Command.Import name header) ≡
    outcome (engine_of (slot_of kind (imported_table t read) cursors)) files (imported_reply t read ∷ [])
by-read kind t cursors files name header (Err fault) h = refl
by-read kind t cursors files name header (Ok rows) h =
    elim (is_overfull t rows) as (λ b. unless_refused (refuse_if b Reply.ErrorFull None)
    (engine_of (slot_of kind t cursors)) files (Command.Import name header) ≡
    outcome (engine_of (slot_of kind (if b then t else table_with t rows) cursors)) files
    ((if b then Reply.ErrorFull else Reply.Imported (length rows)) ∷ [])) [
      | true ↦ refl
      | false ↦ ap (import_outcome (engine_of (slot_of kind t cursors)) files) h
    ]

-- the rows of a file are those of its bytes
read-is : (kind : Kind) (t : AnyTable) (cursors : Named Cursor) (files : Files) (name bytes : List ℕ)
    (header : Bool) → lookup name files ≡ Some bytes → import_rows (slot_of kind t cursors) files name header ≡
    csv_rows t.tree.width t.dims kind header bytes
read-is kind t cursors files name bytes header l = ap (λ x. csv_rows t.tree.width t.dims kind header (bytes_of x)) l

import-does : (most : ℕ) (kind : Kind) (t : AnyTable) (cursors : Named Cursor) (files : Files) (name bytes : List ℕ)
    (header : Bool) → length bytes ≤ most → lookup name files ≡ Some bytes →
    let read = csv_rows t.tree.width t.dims kind header bytes in act most (engine_of (slot_of kind t cursors)) files
    false (Command.Import name header) ≡ outcome (engine_of (slot_of kind (imported_table t read) cursors)) files
    (imported_reply t read ∷ [])
import-does most kind t cursors files name bytes header short l =
    let s = slot_of kind t cursors in
    fetched-act (Command.Import name header) name (fetch-import name header) most s files bytes l short
    ∙ by-read kind t cursors files name header (import_rows s files name header) refl
    ∙ ap (λ x. outcome (engine_of (slot_of kind (imported_table t x) cursors)) files (imported_reply t x ∷ [])) (read-is kind t cursors files name bytes header l)

module _ (most : ℕ) (kind : Kind) (t : AnyTable) (cursors : Named Cursor) (name bytes : List ℕ) (header : Bool) (f now_f v now_v c now_c : ℕ) where
  import-most : now_v ≤ v + import_visits t (csv_rows t.tree.width t.dims kind header bytes) →
      now_c ≤ c + import_changes t (csv_rows t.tree.width t.dims kind header bytes) → (files : Files) →
      lookup name files ≡ Some bytes →
      IsAtMost (work_of most (engine_of (slot_of kind t cursors)) files false (Command.Import name header)) v now_v c now_c
  import-most few less files l = rw l (record { few_visits = few; few_changes = less })

  pub imported-filed-or : {E : Type 0} (told now_told : Option Files) (now : AnyTable) (result : Result Told E) →
      Fetches told name most bytes (Ok tt) → length bytes ≤ most → Stays told now_told → now_f ≡ f →
      ImportsOr t (csv_rows t.tree.width t.dims kind header bytes) now result → v ≤ now_v →
      now_v ≤ v + import_visits t (csv_rows t.tree.width t.dims kind header bytes) → c ≤ now_c →
      now_c ≤ c + import_changes t (csv_rows t.tree.width t.dims kind header bytes) →
      FiledOr most (engine_of (slot_of kind t cursors)) (Command.Import name header) (aside told f v c)
      (aside now_told now_f now_v now_c) (engine_of (slot_of kind now cursors)) result
  imported-filed-or told now_told now (Ok reply) g short st e h later few kept less =
      fetched-filed (Command.Import name header) name (fetch-import name header) most (slot_of kind t cursors) bytes f
      now_f v now_v c now_c told now_told (engine_of (slot_of kind now cursors)) (reply_of reply) g st e
      (λ files l. import-does most kind t cursors files name bytes header short l ∙ (λ i. outcome (engine_of (slot_of kind (sym h.0 i) cursors)) files (sym h.1 i ∷ [])))
      (import-most few less) later kept (λ files l rows is. absurd (let no : None ≡ Some rows = is in cc))
  imported-filed-or told now_told now (Err error) g short st e h later few kept less =
      fetched-starved (Command.Import name header) name (fetch-import name header) most (slot_of kind t cursors) bytes
      f now_f v now_v c now_c told now_told (engine_of (slot_of kind now cursors)) h.0 g short st e
      (λ files l.
      ap (λ x. engine_of (slot_of kind x cursors)) h.1
      ∙ ap (λ read. engine_of (slot_of kind (table_with_first t h.0 read) cursors)) (sym (read-is kind t cursors files name bytes header l))
      ∙ some-first kind t cursors h.0 (import_rows (slot_of kind t cursors) files name header))
      (import-most few less)
