-- Rows of a text that are put into a table.
use Rattle.std.proofs.lemmas.List.{take-take}
use Rattle.std.proofs.lemmas.Bool.{cases_lt, le-leb, lt-leb}
use Rattle.std.proofs.Common.{◌≡◌, ◌<◌, ◌≤◌, ◌+◌, ℕ, ◌-◌, inl, inr, lt-ltb, le-ltb, arith, Bool, true, false, List, [], ◌∷◌, length, take, refl, ap, sym, ◌∙◌}
use Rattle.std.specs.Prelude.{◌⊎◌, ◌||◌, if◌then◌else◌, Result, Ok, Err}
use Rattle.ph_csv.specs.Faults.{IsFault}
use Rattle.ph_csv.specs.declared.fault.CsvFault.{CsvFault}
use Rattle.ph_specs.specs.Reply.{Reply}
use Rattle.ph_specs.specs.Sets.{put_all}
use Rattle.ph_specs.specs.Table.{Row}
use Rattle.ph_script.specs.declared.reply.Reply.{Reply as Told}
use Rattle.ph_script.specs.Meaning.{reply_of}
use Rattle.ph_import.specs.Imported.{IsPart}
use Rattle.ph_specs.specs.Past.{Past}
use Rattle.ph_commands.specs.Recording.{first_rows, is_renewed, ImportDone, ImportsOr, import_changes, import_visits, TellsRecord, imported_table, imported_reply, is_overfull, table_with_some}
use Rattle.ph_commands.specs.Tables.{AnyTable, table_at}
use Rattle.ph_commands.proofs.Frames.{rows-frame}
use Rattle.ph_specs.specs.Boxes.{AreBoxes}
use Rattle.ph_specs.specs.declared.Kind.{Kind}
use Rattle.ph_specs.specs.declared.Kind.TheVariants.{Boxes}

-- a text without rows
pub imports-none : {E : Type 0} (t : AnyTable) (read : Result (List Row) Reply) (fault : CsvFault)
    (result : Result Told E) → IsFault read fault → TellsRecord fault result → ImportsOr t read t result
imports-none t read fault (Ok reply) f h = let is : read ≡ Err (reply_of reply) = h read f in (ap (imported_table t) (sym is), ap (imported_reply t) (sym is))
imports-none t (Ok rows) fault (Err error) f h = (
  0,
  elim (is_overfull t rows || is_renewed t.tree.table rows)
      as (λ b. t ≡ (if b then t else table_with_some t (first_rows 0 rows))) [ true ↦ refl | false ↦ refl ],
)
imports-none t (Err fault) by (Err error) f h = (0, refl)

-- memory was missing for some of the rows
part-put : {E : Type 0} (t : AnyTable) (now : Past) (rows : List Row) (error : E) →
    (is_overfull t rows || is_renewed t.tree.table rows) ≡ false → IsPart t.tree now rows →
    ImportsOr {E = E} t (Ok rows) (table_at t.dims now) (Err error)
part-put t now rows error none h =
    let front : first_rows h.part rows ≡ take h.part rows = take-take h.part (length rows - 1) rows (omega (arith, h.few)) in
    (h.part, ap (table_at t.dims) h.state ∙ ap (λ x. table_with_some t x) (sym front) ∙ sym (ap (λ b. if b then t else table_with_some t (first_rows h.part rows)) none))

-- or before the first of them
unput : {E : Type 0} (t : AnyTable) (now : Past) (rows : List Row) (error : E) →
    (is_overfull t rows || is_renewed t.tree.table rows) ≡ true → now ≡ t.tree →
    ImportsOr {E = E} t (Ok rows) (table_at t.dims now) (Err error)
unput t now rows error first same =
    (0, ap (table_at t.dims) same ∙ sym (ap (λ b. if b then t else table_with_some t (first_rows 0 rows)) first))

-- a table has no more rows than come, or some
renewed-or-some : (table rows : List Row) → ((length table ≤ length rows) × (is_renewed table rows ≡ true)) ⊎ ((table ≡ [] → ⊥) × (is_renewed table rows ≡ false))
renewed-or-some table rows =
    elim (cases_lt (length rows) (length table)) [
      | inl h ↦ inr (λ e. absurd (omega (arith, h, ap length e)), lt-leb _ _ h)
      | inr h ↦ inl (h, le-leb _ _ h)
    ]

either-true : (a : Bool) → (a || true) ≡ true
either-true true = refl
either-true false = refl

none-behind : (a b : Bool) → a ≡ false → b ≡ false → (a || b) ≡ false
none-behind a b h k = ap (λ x. x || b) h ∙ k

pub starved-put : {E : Type 0} (t : AnyTable) (now : Past) (rows : List Row) (error : E) →
    (t.tree.max < length (put_all t.tree.width t.tree.table rows) → now ≡ t.tree) →
    (length t.tree.table ≤ length rows → now ≡ t.tree) → ((t.tree.table ≡ [] → ⊥) → IsPart t.tree now rows) →
    ImportsOr {E = E} t (Ok rows) (table_at t.dims now) (Err error)
starved-put t now rows error full whole part =
    elim (renewed-or-some t.tree.table rows) [
      | inl no_more ↦ unput t now rows error (ap (λ b. is_overfull t rows || b) no_more.1 ∙ either-true (is_overfull t rows)) (whole no_more.0)
      | inr some ↦ elim (cases_lt t.tree.max (length (put_all t.tree.width t.tree.table rows))) [
        | inl h ↦ unput t now rows error (ap (λ b. b || is_renewed t.tree.table rows) (lt-ltb _ _ h)) (full h)
        | inr h ↦ part-put t now rows error (none-behind _ _ (le-ltb _ _ h) some.1) (part some.0)
      ]
    ]

-- an import of rows that were read, with its work
pub import-done : {E : Type 0} (kind : Kind) (t now : AnyTable) (read : Result (List Row) Reply) (rows : List Row)
    (v now_v c now_c : ℕ) (result : Result Told E) → read ≡ Ok rows → (kind ≡ Boxes → AreBoxes rows) →
    ImportsOr t (Ok rows) now result → v ≤ now_v → now_v ≤ v + import_visits t (Ok rows) → c ≤ now_c →
    now_c ≤ c + import_changes t (Ok rows) → ImportDone kind t read now v now_v c now_c result
import-done kind t now read rows v now_v c now_c result is boxes imports later few kept less = rw is (record {
  imports = imports;
  frame = rows-frame kind t now rows result boxes imports;
  later = later;
  few_visits = few;
  kept = kept;
  few_changes = less;
})
