-- The rows that a question about boxes lists are those of its window.
use Rattle.std.proofs.Common.{◌≡◌, ℕ, List, [], ◌∷◌, true, subst}
use Rattle.std.specs.Prelude.{ℤ, ◌&&◌, Result}
use Rattle.std.specs.List.{list_all, AllByRecursion}
use Rattle.std.proofs.lemmas.Bool.{and_parts}
use Rattle.ph_io.specs.Giving.{Taken}
use Rattle.ph_specs.specs.Boxes.{IsWindowFor, AreBoxes}
use Rattle.ph_specs.specs.Coordinate.{is_point, low_corner, high_corner, IsPoint, IsBox}
use Rattle.ph_specs.specs.Table.{Row, is_rising, is_value, IsTable}
use Rattle.ph_specs.specs.Window.{window}
use Rattle.ph_specs.proofs.laws.Boxes.{window_lists}
use Rattle.ph_box.specs.Questions.{asks, low_bound, high_bound}
use Rattle.ph_box.specs.declared.question.Question.{Question}
use Rattle.ph_commands.specs.Listing.{answered, met, ListsRows, ListsWindow, ListsBoxes}
use Rattle.ph_commands.specs.Tables.{AnyTable}
use Rattle.ph_commands.specs.declared.answer.Answer.{Answer}
use Rattle.ph_commands.specs.declared.answer.Stop.{Stop}

both : (w d : ℕ) (rows : List Row) → list_all (λ r. is_point w d r.point) rows ≡ true → AreBoxes rows → AllByRecursion (λ r. IsPoint w d r.point × IsBox r.point) rows
both w d [] p b = tt
both w d (r ∷ rows) p b =
    let h = and_parts (is_point w d r.point) (list_all (λ s. is_point w d s.point) rows) p in ((h.0, b.0), both w d rows h.1 b.1)

boxes-in : (w d : ℕ) (rows : List Row) → IsTable w d rows → AreBoxes rows → AllByRecursion (λ r. IsPoint w d r.point × IsBox r.point) rows
boxes-in w d rows t b =
    let points = list_all (λ r. is_point w d r.point) rows in
    let values = list_all (λ r. is_value r.value) rows in
    both w d rows (and_parts points values (and_parts (is_rising w rows) (points && values) t).1).0 b

pub lists-boxes : (question : Question) (t : AnyTable) (w : ℕ) (p q low high : List ℤ) (sink now_sink : Taken)
    (v now_v : ℕ) (result : Result Answer Stop) → w ≡ t.tree.width → p ≡ q →
    IsTable t.tree.width t.dims t.tree.table → AreBoxes t.tree.table → low ≡ low_bound question w (low_corner p) (high_corner p) →
    high ≡ high_bound question w (low_corner p) (high_corner p) → IsWindowFor w t.dims (asks question p) low high →
    ListsWindow t low high sink now_sink v now_v result → ListsBoxes question t q sink now_sink v now_v result
lists-boxes question t w p q low high sink now_sink v now_v result e is table boxes from to f listed =
    let rows = t.tree.table in
    let first : List ℤ → ℕ → List ℤ = λ x u. low_bound question u (low_corner x) (high_corner x) in
    let last : List ℤ → ℕ → List ℤ = λ x u. high_bound question u (low_corner x) (high_corner x) in
    let bounded = subst (λ x. ListsRows (window low high rows) (met t (first p w) x) sink now_sink v now_v result) to
    (subst (λ x. ListsRows (window low high rows) (met t x high) sink now_sink v now_v result) from listed) in
    let found = subst (λ rs. ListsRows rs (met t (first p w) (last p w)) sink now_sink v now_v result)
    (window_lists w t.dims (asks question p) low high rows f (rw e (boxes-in t.tree.width t.dims rows table boxes))) bounded in
    let asked = subst (λ x. ListsRows (answered question x rows) (met t (first x w) (last x w)) sink now_sink v now_v result) is found in
    subst (λ u. ListsRows (answered question q rows) (met t (first q u) (last q u)) sink now_sink v now_v result) e asked
