-- Tables that keep their width, dimensions and kind.
use Rattle.std.proofs.Common.{◌≡◌, ℕ, zero, suc, take, true, false, List, [], ◌∷◌, length, refl, ◌-◌}
use Rattle.std.specs.Prelude.{Result, Ok, Err, if◌then◌else◌, ◌||◌}
use Rattle.std.specs.List.{AllByRecursion}
use Rattle.ph_specs.specs.declared.Kind.{Kind}
use Rattle.ph_specs.specs.Boxes.{AreBoxes}
use Rattle.ph_specs.specs.declared.Kind.TheVariants.{Points, Boxes}
use Rattle.ph_specs.specs.Table.{Row, put}
use Rattle.ph_script.specs.declared.reply.Reply.{Reply as Told}
use Rattle.ph_specs.proofs.laws.BoxRows.{boxes-put}
use Rattle.ph_commands.specs.Tables.{SameFrame, AnyTable, IsOfKind}
use Rattle.ph_specs.specs.Sets.{put_all}
use Rattle.ph_commands.specs.Recording.{first_rows, is_renewed, ImportsOr, is_overfull, table_with, table_with_some}

pub of-kind-still : (kind : Kind) (t now : AnyTable) → now.dims ≡ t.dims →
    (kind ≡ Boxes → AreBoxes t.tree.table → AllByRecursion AreBoxes t.tree.past →
    AreBoxes now.tree.table × AllByRecursion AreBoxes now.tree.past) → IsOfKind kind t → IsOfKind kind now
of-kind-still Points t now d b h = h
of-kind-still Boxes t now d b h = let k = b refl h.1 h.2 in (rw d h.0, k.0, k.1)

-- ---- what is made of boxes is boxes

pub boxes-put-all : (w : ℕ) (rows table : List Row) → AreBoxes table → AreBoxes rows → AreBoxes (put_all w table rows)
boxes-put-all w [] table h k = h
boxes-put-all w (r ∷ rows) table h k = boxes-put-all w rows (put w table r.point r.value) (boxes-put w table r.point r.value k.0 h) k.1

-- ---- rows of a kind

boxes-take : (n : ℕ) (rows : List Row) → AreBoxes rows → AreBoxes (take n rows)
boxes-take zero rows h = tt
boxes-take (suc n) [] h = h
boxes-take (suc n) (r ∷ rows) h = (h.0, boxes-take n rows h.1)

frame-with : (kind : Kind) (t : AnyTable) (rows : List Row) → (kind ≡ Boxes → AreBoxes rows) → SameFrame kind t (table_with t rows)
frame-with kind t rows h = record {
  width = refl;
  dims = refl;
  of_kind = of-kind-still kind t (table_with t rows) refl
      (λ e b c. (boxes-put-all t.tree.width rows t.tree.table b (h e), tt));
}

pub frame-still : (kind : Kind) (t : AnyTable) → SameFrame kind t t
frame-still kind t = record { width = refl; dims = refl; of_kind = λ k. k }

frame-some : (kind : Kind) (t : AnyTable) (rows : List Row) → (kind ≡ Boxes → AreBoxes rows) → SameFrame kind t (table_with_some t rows)
frame-some kind t [] h = frame-still kind t
frame-some kind t (r ∷ rows) h = frame-with kind t (r ∷ rows) h

-- an import keeps the frame of a table, where the rows that it reads are of the kind
pub rows-frame : {E : Type 0} (kind : Kind) (t now : AnyTable) (rows : List Row) (result : Result Told E) →
    (kind ≡ Boxes → AreBoxes rows) → ImportsOr t (Ok rows) now result → SameFrame kind t now
rows-frame kind t now rows (Ok reply) b h =
    rw h.0 (elim (is_overfull t rows) as (λ full. SameFrame kind t (if full then t else table_with t rows))
    [ true ↦ frame-still kind t | false ↦ frame-with kind t rows b ])
rows-frame kind t now rows (Err error) b h =
    rw h.1 (elim (is_overfull t rows || is_renewed t.tree.table rows) as (λ full. SameFrame kind t (if full then t else table_with_some t (first_rows h.0 rows))) [
      | true ↦ frame-still kind t
      | false ↦ frame-some kind t (first_rows h.0 rows) (λ e. boxes-take h.0 (take (length rows - 1) rows) (boxes-take (length rows - 1) rows (b e)))
    ])
