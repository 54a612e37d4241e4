-- The rows of a ball that come after the last one listed.
use Rattle.std.proofs.Common.{◌≡◌, ℕ, true, List, [], ◌∷◌, refl, sym, ap, ◌∙◌, subst, arith}
use Rattle.std.specs.Prelude.{ℤ, Option, Some, None, filter, map, ◌&&◌}
use Rattle.std.specs.List.{AllByRecursion as Each, list_all}
use Rattle.std.specs.Option.{SomeIff}
use Rattle.std.proofs.lemmas.Bool.{and_parts}
use Rattle.ph_specs.specs.Coordinate.{IsPoint, is_point}
use Rattle.ph_specs.specs.Distance.{within}
use Rattle.ph_specs.specs.Table.{Row, IsTable, is_rising, is_value}
use Rattle.ph_specs.specs.Window.{is_after}
use Rattle.ph_specs.proofs.laws.WindowRest.{Each-filter}
use Rattle.ph_window.specs.Page.{IsLast}
use Rattle.ph_table.specs.Hits.{TableHit, hits_of}
use Rattle.ph_c.specs.Answers as code
use Rattle.ph_c.specs.Balls.{AreCenter, IsBall, ball_rest, behind}
use Rattle.ph_c.specs.Trees.{AnyTable}
use Rattle.ph_c.specs.Windows.{IsLastIn, IsListed, Lent, last_of}

-- the rows of hits are those that they were made of
pub behind-hits : (w : ℕ) (last : Option (List ℤ)) (q : List ℤ) (rows : List Row) → behind w last (hits_of q rows) ≡ filter (λ r. is_after w last r.point) rows
behind-hits w last q rows = ap (filter (λ r. is_after w last r.point)) (rows-back rows)
  where
    rows-back : (rows : List Row) → map (λ h. h.row) (hits_of q rows) ≡ rows
    rows-back [] = refl
    rows-back (r ∷ rows) = ap (λ (l : List Row). r ∷ l) (rows-back rows)

-- each hit of a table is at a point
each-point : (w d : ℕ) (rows : List Row) → list_all (λ r. is_point w d r.point) rows ≡ true → Each (λ r. IsPoint w d r.point) rows
each-point w d [] h = tt
each-point w d (r ∷ rows) h =
    let a = and_parts (is_point w d r.point) (list_all (λ s. is_point w d s.point) rows) h in (a.0, each-point w d rows a.1)

pub points-of-table : (w d : ℕ) (rows : List Row) → IsTable w d rows → Each (λ r. IsPoint w d r.point) rows
points-of-table w d rows t =
    let points = list_all (λ r. is_point w d r.point) rows in
    let values = list_all (λ r. is_value r.value) rows in
    each-point w d rows (and_parts points values (and_parts (is_rising w rows) (points && values) t).1).0

points-of-hits : (w d : ℕ) (q : List ℤ) (rows : List Row) → Each (λ r. IsPoint w d r.point) rows → Each (λ h. IsPoint w d h.row.point) (hits_of q rows)
points-of-hits w d q [] h = tt
points-of-hits w d q (r ∷ rows) h = (h.0, points-of-hits w d q rows h.1)

pub points-within : (w d : ℕ) (q : List ℤ) (r : ℕ) (rows : List Row) → IsTable w d rows → Each (λ h. IsPoint w d h.row.point) (hits_of q (within q r rows))
points-within w d q r rows t = points-of-hits w d q (within q r rows) (Each-filter (λ s. IsPoint w d s.point) _ rows (points-of-table w d rows t))

-- ---- facts of one case of an option

pub some-is : {X : Type 0} (o : Option X) (P : Type 0) (v x : X) → SomeIff o P v → o ≡ Some x → P × (x ≡ v)
some-is None P v x h is = let no : None ≡ Some x = is in cc
some-is (Some y) P v x h is = let same : y ≡ x = cc in (h.0, sym same ∙ h.1)

-- numbers that are a last point, if there are some
pub last-known : (t : AnyTable) (w : ℕ) (numbers : List ℤ) (l : Option (List ℤ)) → w ≡ t.tree.width → l ≡ last_of numbers → IsLastIn t numbers → IsLast w t.dims l
last-known t w [] l is-w is h = subst (λ (o : Option (List ℤ)). IsLast w t.dims o) (sym is) tt
last-known t w (c ∷ p) l is-w is h = subst (λ (o : Option (List ℤ)). IsLast w t.dims o) (sym is) (subst (λ (v : ℕ). IsPoint v t.dims (c ∷ p)) (sym is-w) h)

-- ---- a page

-- a page of the rows of a ball that come after the last one listed
pub ball-done : (t : AnyTable) (center q last : List ℤ) (radius w : ℕ) (l : Option (List ℤ)) (hits : List TableHit) (before after : Lent) →
    q ≡ center → l ≡ last_of last → w ≡ t.tree.width → hits ≡ hits_of q (within q radius t.tree.table) → AreCenter t center last →
    IsListed t.dims (behind w l hits) before after → IsBall t center radius last before after code.done
ball-done t center q last radius w l hits before after is-q is-last is-w are inside listed =
    let same : behind w l hits ≡ ball_rest t center radius last =
    (λ i. behind (is-w i) (is-last i) (are i)) ∙ behind-hits t.tree.width (last_of last) q (within q radius t.tree.table)
    ∙ (λ i. filter (λ r. is_after t.tree.width (last_of last) r.point) (within (is-q i) radius t.tree.table)) in
    let Listed : List Row → Type 0 = λ rs. IsListed t.dims rs before after in
    record {
      known = refl;
      no_point = (λ e. absurd (omega (arith, e)), λ n. absurd (n inside));
      listed = λ e. subst Listed same listed;
      kept = λ n. absurd (n refl);
    }
