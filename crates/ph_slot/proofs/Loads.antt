-- Tables that are read from bytes.
use Rattle.std.proofs.Common.{◌≡◌, ◌≤◌, ◌+◌, arith, ℕ, true, false, List, [], ◌∷◌, length, refl, ap, sym, ◌∙◌}
use Rattle.std.specs.Prelude.{Option, Some, None, option_map, Result, Ok, Err, OnOk, nat_lt, if◌then◌else◌}
use Rattle.std.proofs.lemmas.Bool.{and_parts}
use Rattle.ph_specs.specs.Coordinate.{is_box}
use Rattle.ph_specs.specs.Boxes.{AreBoxes}
use Rattle.ph_specs.specs.Past.{without_past}
use Rattle.ph_specs.specs.KindRows.{rows_fit}
use Rattle.ph_specs.specs.Load.{Fault, load_fault}
use Rattle.ph_specs.specs.Reply.{Reply}
use Rattle.ph_specs.specs.SavedTable.{fault_reply, read_unless, read_snapshot}
use Rattle.ph_specs.specs.Table.{Row}
use Rattle.ph_specs.specs.WorkSets.{all_nodes}
use Rattle.ph_specs.specs.declared.Kind.{Kind}
use Rattle.ph_specs.specs.declared.Kind.TheVariants.{Points, Boxes}
use Rattle.ph_script.specs.declared.reply.Reply.{Reply as Told}
use Rattle.ph_script.specs.Meaning.{reply_of}
use Rattle.ph_snap.specs.Faults.{IsLoadFault}
use Rattle.ph_snap.specs.declared.fault.LoadFault.{LoadFault}
use Rattle.ph_commands.specs.Tables.{SameFrame, AnyTable, table_at, IsOfKind}
use Rattle.ph_slot.specs.Filing.{LoadsOr, TellsFault, loaded_table, read_table, read_reply}

pub boxes-fit : (rows : List Row) → rows_fit Boxes rows ≡ true → AreBoxes rows
boxes-fit [] h = tt
boxes-fit (r ∷ rows) h = let both = and_parts (is_box r.point) (rows_fit Boxes rows) h in (both.0, boxes-fit rows both.1)

rows-of-kind : (kind : Kind) (t : AnyTable) (rows : List Row) → rows_fit kind rows ≡ true → IsOfKind kind t → IsOfKind kind (table_at t.dims (without_past t.tree rows))
rows-of-kind Points t rows h k = tt
rows-of-kind Boxes t rows h k = (k.0, boxes-fit rows h, tt)

pub same-frame-still : (kind : Kind) (t : AnyTable) → SameFrame kind t t
same-frame-still kind t = record { width = refl; dims = refl; of_kind = λ k. k }

-- a table that is put in place of another
pub loaded-frame : (kind : Kind) (t : AnyTable) (rows : List Row) → rows_fit kind rows ≡ true → SameFrame kind t (loaded_table t rows)
loaded-frame kind t rows h =
    elim (nat_lt t.tree.max (length rows)) as (λ b. SameFrame kind t (if b then t else table_at t.dims (without_past t.tree rows))) [
      | true ↦ same-frame-still kind t
      | false ↦ record { width = refl; dims = refl; of_kind = rows-of-kind kind t rows h }
    ]

told-fault : (first : Option Fault) (dims width : ℕ) (bytes : List ℕ) (r : Reply) → option_map fault_reply first ≡ Some r → read_unless first dims width bytes ≡ Err r
told-fault None dims width bytes r h = absurd (let no : None ≡ Some r = h in cc)
told-fault (Some fault) dims width bytes r h = let same : fault_reply fault ≡ r = cc in ap Err same

-- bytes that are none
pub loads-none : {E : Type 0} (kind : Kind) (t : AnyTable) (dims w : ℕ) (bytes : List ℕ) (fault : LoadFault)
    (result : Result Told E) → dims ≡ t.dims → w ≡ t.tree.width → IsLoadFault (load_fault kind dims w bytes) fault →
    TellsFault fault result → LoadsOr kind t bytes t result
loads-none kind t dims w bytes fault (Ok reply) d e f h =
    let read : read_snapshot kind t.dims t.tree.width bytes ≡ Err (reply_of reply) =
    ap (λ k. read_snapshot kind k t.tree.width bytes) (sym d) ∙ ap (λ v. read_snapshot kind dims v bytes)
    (sym e) ∙ told-fault (load_fault kind dims w bytes) dims w bytes (reply_of reply) (h (load_fault kind dims w bytes) f) in
    (ap (read_table t) (sym read), ap (read_reply t.tree.max) (sym read))
loads-none kind t dims w bytes fault (Err error) d e f h = refl

-- the nodes of rows that were read
pub nodes-loaded : (kind : Kind) (t : AnyTable) (dims w : ℕ) (bytes : List ℕ) (read rows : List Row) (c now_c : ℕ) →
    dims ≡ t.dims → w ≡ t.tree.width → read_snapshot kind dims w bytes ≡ Ok read →
    read_snapshot kind t.dims t.tree.width bytes ≡ Ok rows → now_c ≡ c + length (all_nodes w dims read) →
    now_c ≤ c + length (all_nodes t.tree.width t.dims rows)
nodes-loaded kind t dims w bytes read rows c now_c d e r is n =
    let first : Result (List Row) Reply = Ok read in
    let second : Result (List Row) Reply = Ok rows in
    let same : first ≡ second = sym r ∙ ap (λ k. read_snapshot kind k w bytes) d ∙ ap (λ v. read_snapshot kind t.dims v bytes) e ∙ is in
    let rows-same : read ≡ rows = cc in
    omega (
      arith,
      n,
      ap (λ k. length (all_nodes w k read)) d,
      ap (λ v. length (all_nodes v t.dims read)) e,
      ap (λ xs. length (all_nodes t.tree.width t.dims xs)) rows-same,
    )

-- bytes that are none have no rows
pub nodes-none : {E : Type 0} (kind : Kind) (t : AnyTable) (dims w : ℕ) (bytes : List ℕ) (fault : LoadFault)
    (result : Result Told E) (rows : List Row) (c now_c : ℕ) → dims ≡ t.dims → w ≡ t.tree.width →
    IsLoadFault (load_fault kind dims w bytes) fault → TellsFault fault result →
    read_snapshot kind t.dims t.tree.width bytes ≡ Ok rows → OnOk result (now_c ≤ c + length (all_nodes t.tree.width t.dims rows))
nodes-none kind t dims w bytes fault (Err error) rows c now_c d e f h is = tt
nodes-none kind t dims w bytes fault (Ok reply) rows c now_c d e f h is =
    let read : read_snapshot kind t.dims t.tree.width bytes ≡ Err (reply_of reply) =
    ap (λ k. read_snapshot kind k t.tree.width bytes) (sym d) ∙ ap (λ v. read_snapshot kind dims v bytes)
    (sym e) ∙ told-fault (load_fault kind dims w bytes) dims w bytes (reply_of reply) (h (load_fault kind dims w bytes) f) in
    let loaded : Result (List Row) Reply = Ok rows in
    absurd (let no : loaded ≡ Err (reply_of reply) = sym is ∙ read in cc)
