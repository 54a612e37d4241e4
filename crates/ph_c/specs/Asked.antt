-- A page of the boxes that a question about a box lists, in arrays of a caller.
use Rattle.std.specs.Prelude.{◌≡◌, ◌≢◌, ◌↔◌, ◌/◌, ◌%◌, ◌++◌, ℕ, List, [], ◌∷◌, ℤ, false, filter}
use Rattle.ph_box.specs.Questions.{low_bound, high_bound}
use Rattle.ph_box.specs.declared.question.Question.{Question}
use Rattle.ph_box.specs.declared.question.Question.TheVariants.{Overlap, Inside, Cover}
use Rattle.ph_specs.specs.Boxes.{AreBoxes, overlapping, inside, covering}
use Rattle.ph_specs.specs.Coordinate.{IsPoint, at_most}
use Rattle.ph_specs.specs.Table.{Row}
use Rattle.ph_specs.specs.Window.{is_after, rest}
use Rattle.ph_c.specs.Trees.{AnyTable}
use Rattle.ph_c.specs.Windows.{IsLastIn, IsListed, Lent, cursor_at, last_of}
use Rattle.ph_c.specs.Answers.{IsOneOf}
use Rattle.ph_c.specs.Answers as code

-- points of so many dimensions can be boxes
abbrev pub HasBoxes : AnyTable → Type 0
HasBoxes t = t.dims % 2 ≡ 0

-- the numbers are a corner of a box
abbrev pub IsCornerIn : AnyTable → List ℤ → Type 0
IsCornerIn t p = IsPoint t.tree.width (t.dims / 2) p

-- the corners of the asked box are corners, and the last point listed is a point, if there is one
abbrev pub AreAsked : AnyTable → List ℤ → List ℤ → List ℤ → Type 0
AreAsked t low high last = IsCornerIn t low × IsCornerIn t high × IsLastIn t last

-- the rows that a question about a box lists
abbrev pub asked_rows : Question → List ℤ → List Row → List Row
asked_rows Overlap asked table = overlapping asked table
asked_rows Inside asked table = inside asked table
asked_rows Cover asked table = covering asked table

-- what is left of the window whose boxes are those
abbrev pub asked_rest : Question → AnyTable → List ℤ → List ℤ → List ℤ → List Row
asked_rest question t low high last =
    rest t.tree.width (cursor_at (low_bound question t.tree.width low high) (high_bound question t.tree.width low high) last) t.tree.table

-- A page of the boxes that a question lists. Where each point of the tree is a box they are those of the definitions, and else the points of
-- the window that has these boxes.
pub record IsAsked (question : Question) (t : AnyTable) (low high last : List ℤ) (before after : Lent) (answer : ℕ) : Type 0 where
  pub known : IsOneOf (code.done ∷ code.no_point ∷ code.reversed ∷ code.no_boxes ∷ []) answer
  pub no_boxes : (answer ≡ code.no_boxes) ↔ (HasBoxes t → ⊥)
  pub no_point : (answer ≡ code.no_point) ↔ (HasBoxes t × (AreAsked t low high last → ⊥))
  pub reversed : (answer ≡ code.reversed) ↔ (HasBoxes t × AreAsked t low high last × (at_most low high ≡ false))
  pub listed : answer ≡ code.done → IsListed t.dims (asked_rest question t low high last) before after
  pub boxes : answer ≡ code.done → AreBoxes t.tree.table →
      asked_rest question t low high last ≡ filter (λ r. is_after t.tree.width (last_of last) r.point) (asked_rows question (low ++ high) t.tree.table)
  pub kept : answer ≢ code.done → after ≡ before
