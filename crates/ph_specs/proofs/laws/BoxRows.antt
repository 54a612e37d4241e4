-- Rows that are boxes stay so under edits with boxes.
use Rattle.std.proofs.Common.{ℕ, true, false, List, [], ◌∷◌}
use Rattle.std.specs.Prelude.{Option, Some, None, ℤ, if◌then◌else◌}
use Rattle.ph_specs.specs.Boxes.{AreBoxes}
use Rattle.ph_specs.specs.Coordinate.{same_point, IsBox}
use Rattle.ph_specs.specs.Table.{Row, row, put, del, move, move_value, find, has}
use Rattle.ph_specs.specs.ZOrder.{before}

pub boxes-put : (w : ℕ) (rows : List Row) (p : List ℤ) (v : ℕ) → IsBox p → AreBoxes rows → AreBoxes (put w rows p v)
boxes-put w [] p v b h = (b, tt)
boxes-put w (r ∷ rows) p v b h =
    elim (same_point r.point p) as (λ t. AreBoxes (if t then row p v ∷ rows else (if before w p r.point then row p v ∷ r ∷ rows else r ∷ put w rows p v))) [
      | true ↦ (b, h.1)
      | false ↦ elim (before w p r.point) as (λ t. AreBoxes (if t then row p v ∷ r ∷ rows else r ∷ put w rows p v))
          [ true ↦ (b, h) | false ↦ (h.0, boxes-put w rows p v b h.1) ]
    ]

pub boxes-del : (rows : List Row) (p : List ℤ) → AreBoxes rows → AreBoxes (del rows p)
boxes-del [] p h = h
boxes-del (r ∷ rows) p h = elim (same_point r.point p) as (λ t. AreBoxes (if t then rows else r ∷ del rows p)) [ true ↦ h.1 | false ↦ (h.0, boxes-del rows p h.1) ]

boxes-value : (w : ℕ) (rows : List Row) (p q : List ℤ) (v : Option ℕ) → IsBox q → AreBoxes rows → AreBoxes (move_value w rows p q v)
boxes-value w rows p q None b h = h
boxes-value w rows p q (Some v) b h = boxes-put w (del rows p) q v b (boxes-del rows p h)

pub boxes-move : (w : ℕ) (rows : List Row) (p q : List ℤ) → IsBox q → AreBoxes rows → AreBoxes (move w rows p q)
boxes-move w rows p q b h = elim (has rows q)
    as (λ t. AreBoxes (if t then rows else move_value w rows p q (find rows p)))
    [ true ↦ h | false ↦ boxes-value w rows p q (find rows p) b h ]
