-- The boxes that a question lists are the rows of its window.
use Rattle.std.proofs.Common.{◌≡◌, ℕ, ◌/◌, true, false, List, [], ◌∷◌, ◌++◌, length, refl, sym, ap, ◌∙◌, subst, arith, eqb-true}
use Rattle.std.specs.Prelude.{ℤ, ◌==◌, Option, filter}
use Rattle.std.specs.List.{list_all, AllByRecursion as Each}
use Rattle.std.proofs.lemmas.Bool.{and_parts}
use Rattle.ph_box.specs.Questions.{asks, low_bound, high_bound}
use Rattle.ph_box.specs.declared.question.Question.{Question}
use Rattle.ph_box.specs.declared.question.Question.TheVariants.{Overlap, Inside, Cover}
use Rattle.ph_specs.specs.Boxes.{AreBoxes, IsWindowFor}
use Rattle.ph_specs.specs.Coordinate.{IsPoint, IsBox, at_most, fits, high_corner, low_corner}
use Rattle.ph_specs.specs.Table.{Row, IsTable}
use Rattle.ph_specs.specs.Window.{is_after, rest}
use Rattle.ph_specs.proofs.laws.Boxes.{corners-joined, window_lists}
use Rattle.ph_c.specs.Answers as code
use Rattle.ph_c.specs.Asked.{AreAsked, HasBoxes, IsAsked, asked_rest, asked_rows}
use Rattle.ph_c.specs.Trees.{AnyTable}
use Rattle.ph_c.specs.Windows.{IsListed, Lent, last_of}
use Rattle.ph_c.proofs.Behind.{points-of-table}

both : (w d : ℕ) (rows : List Row) → Each (λ r. IsPoint w d r.point) rows → AreBoxes rows → Each (λ r. IsPoint w d r.point × IsBox r.point) rows
both w d [] p b = tt
both w d (r ∷ rows) p b = ((p.0, b.0), both w d rows p.1 b.1)

-- each question's rows are those that it asks for
asked-filter : (question : Question) (asked : List ℤ) (table : List Row) → filter (λ r. asks question asked r.point) table ≡ asked_rows question asked table
asked-filter Overlap asked table = refl
asked-filter Inside asked table = refl
asked-filter Cover asked table = refl

pub asked-window : (question : Question) (w d : ℕ) (asked low high : List ℤ) (last : Option (List ℤ)) (table : List Row) →
    IsWindowFor w d (asks question asked) low high → IsTable w d table → AreBoxes table →
    rest w (record { lo = low; hi = high; last = last }) table ≡ filter (λ r. is_after w last r.point) (asked_rows question asked table)
asked-window question w d asked low high last table f t b =
    ap (filter (λ r. is_after w last r.point))
    (window_lists w d (asks question asked) low high table f (both w d table (points-of-table w d table t) b) ∙ asked-filter question asked table)

-- ---- a page

-- two points of as many coordinates
pub as-long : (w k : ℕ) (p q : List ℤ) → IsPoint w k p → IsPoint w k q → length p ≡ length q
as-long w k p q h i =
    let long : (r : List ℤ) → IsPoint w k r → length r ≡ k = λ r j. eqb-true (length r) k (and_parts (length r == k) (list_all (fits w) r) j).0 in
    long p h ∙ sym (long q i)

-- a page of the window of a question about the box from `low` to `high`
pub asked-done : (question : Question) (t : AnyTable) (low high last asked from to : List ℤ) (l : Option (List ℤ)) (w : ℕ) (rows : List Row) (before after : Lent) →
    asked ≡ low ++ high → l ≡ last_of last → w ≡ t.tree.width →
    from ≡ low_bound question w (low_corner asked) (high_corner asked) → to ≡ high_bound question w (low_corner asked) (high_corner asked) →
    IsWindowFor w t.dims (asks question asked) from to → rows ≡ rest t.tree.width (record { lo = from; hi = to; last = l }) t.tree.table →
    HasBoxes t → AreAsked t low high last → at_most low high ≡ true → IsTable t.tree.width t.dims t.tree.table → IsListed t.dims rows before after →
    IsAsked question t low high last before after code.done
asked-done question t low high last asked from to l w rows before after is-asked is-last is-w is-from is-to window-is are even points most table listed =
    let corners = corners-joined low high (as-long t.tree.width (t.dims / 2) low high points.0 points.1) in
    let lo : low_corner asked ≡ low = ap low_corner is-asked ∙ corners.0 in
    let hi : high_corner asked ≡ high = ap high_corner is-asked ∙ corners.1 in
    let f : from ≡ low_bound question t.tree.width low high = is-from ∙ (λ i. low_bound question (is-w i) (lo i) (hi i)) in
    let s : to ≡ high_bound question t.tree.width low high = is-to ∙ (λ i. high_bound question (is-w i) (lo i) (hi i)) in
    let same : rows ≡ asked_rest question t low high last = are ∙ (λ i. rest t.tree.width (record { lo = f i; hi = s i; last = is-last i }) t.tree.table) in
    let Listed : List Row → Type 0 = λ rs. IsListed t.dims rs before after in
    let For : List ℤ → Type 0 = λ p. IsWindowFor t.tree.width t.dims (asks question p) from to in
    let Wide : ℕ → Type 0 = λ v. IsWindowFor v t.dims (asks question asked) from to in
    let window-for : IsWindowFor t.tree.width t.dims (asks question (low ++ high)) from to = subst For is-asked (subst Wide is-w window-is) in
    record {
      known = refl;
      no_boxes = (λ e. absurd (omega (arith, e)), λ n. absurd (n even));
      no_point = (λ e. absurd (omega (arith, e)), λ n. absurd (n.1 points));
      reversed = (λ e. absurd (omega (arith, e)), λ n. absurd (let no : true ≡ false = sym most ∙ n.2 in cc));
      listed = λ e. subst Listed same listed;
      boxes = λ e b. sym same ∙ are ∙ asked-window question t.tree.width t.dims (low ++ high) from to l t.tree.table window-for table b ∙
          (λ i. filter (λ r. is_after t.tree.width (is-last i) r.point) (asked_rows question (low ++ high) t.tree.table));
      kept = λ n. absurd (n refl);
    }
