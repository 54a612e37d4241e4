-- The order of rows that were found is that of the nearest rows of a table.
use Rattle.std.proofs.Common.{◌≡◌, ◌⊎◌, inl, inr, ℕ, suc, ◌+◌, ◌<◌, ◌≤◌, refl, sym, ◌∙◌, ap, subst, arith, Bool, true}
use Rattle.std.proofs.Common.{false, List, [], ◌∷◌, ◌++◌, length, map, get_or, append_assoc, ltb-false}
use Rattle.std.specs.Prelude.{ℤ, nat_lt}
use Rattle.std.specs.Ordering.{ordering_then, is_lt}
use Rattle.std.specs.Cmp.{nat_cmp_is}
use Rattle.std.specs.List.{AllByRecursion as Each}
use Rattle.std.specs.List.Sorted.{IsPermutation, IsSortedBy}
use Rattle.std.specs.BinaryHeap.{IsUpperBound, lt_by_cmp}
use Rattle.std.specs.declared.cmp.Ordering.TheVariants.{Less, Equal}
use Rattle.std.proofs.lemmas.Bool.{ltb-true}
use Rattle.std.proofs.lemmas.List.Sorted.{sorted_far}
use Rattle.std.proofs.lemmas.List.MinMax.{ranks_by}
use Rattle.ph_specs.specs.Coordinate.{coordinate, is_point}
use Rattle.ph_specs.specs.Distance.{distance}
use Rattle.ph_model.specs.Nearness.{is_nearer, IsNearerThan, IsRanked}
use Rattle.ph_specs.specs.Table.{Row}
use Rattle.ph_specs.specs.ZOrder.{before}
use Rattle.ph_specs.proofs.lemmas.Members.{Each-each, Each-parts, Each-in, Each-from_in}
use Rattle.ph_specs.proofs.lemmas.Gathered.{Each-permutation}
use Rattle.ph_model.specs.Lawful.{IsBody}
use Rattle.ph_model.proofs.lemmas.Joined.{offsets-coordinate}
use Rattle.ph_model.proofs.lemmas.Searching.{IsApart, nearer-total, rows-apart}
use Rattle.ph_specs.proofs.laws.Points.{ArePoints}
use Rattle.ph_model.proofs.laws.Nearest.{Rising, nearer-cases}
use Rattle.ph_digits.specs.WordOrder.{words_cmp}
use Rattle.ph_zorder.proofs.Ordered.{words-before}
use Rattle.ph_near.specs.declared.found.Found.{Found}
use Rattle.ph_near.specs.Found.{found_cmp, found_total, row_of, rows_of, IsFound}

-- ---- two rows

module _ {d : ℕ} where
  -- what comes before no row of which one comes before no other
  pub last-chain : (x y z : Found d) → lt_by_cmp found_cmp x y ≡ false → lt_by_cmp found_cmp y z ≡ false → lt_by_cmp found_cmp x z ≡ false
  last-chain = (ranks_by found_total (λ v. v)).chain

  pub last-way : (x y : Found d) → lt_by_cmp found_cmp x y ≡ true → lt_by_cmp found_cmp y x ≡ false
  last-way = (ranks_by found_total (λ v. v)).one_way

  pub last-all : (x y : Found d) (rows : List (Found d)) → lt_by_cmp found_cmp x y ≡ false → IsUpperBound found_cmp y rows → IsUpperBound found_cmp x rows
  last-all x y rows e h = Each-each rows (λ z k. last-chain x y z e k) h

  pub no-farther : (x y : Found d) → lt_by_cmp found_cmp y x ≡ false → x.distance ≤ y.distance
  no-farther x y e = by_test (nat_lt y.distance x.distance) refl
    where
      by_test : (b : Bool) → nat_lt y.distance x.distance ≡ b → x.distance ≤ y.distance
      by_test true f =
          let clash : true ≡ false = ap (λ o. is_lt (ordering_then o (words_cmp y.known x.known)))
          (nat_cmp_is y.distance x.distance Less (ltb-true y.distance x.distance f)) ∙ e in absurd (cc)
      by_test false f = ltb-false y.distance x.distance f

module _ {d : ℕ} where
  at-front : (x : Found d) (xs : List (Found d)) →
      ((k : ℕ) → k < length xs → lt_by_cmp found_cmp (get_or xs k x) x ≡ false) → Each (λ y. lt_by_cmp found_cmp y x ≡ false) xs
  at-front x xs h = by_list xs h
    where
      by_list : (ys : List (Found d)) → ((k : ℕ) → k < length ys → lt_by_cmp found_cmp (get_or ys k x) x ≡ false) → Each (λ y. lt_by_cmp found_cmp y x ≡ false) ys
      by_list [] f = tt
      by_list (y ∷ ys) f = (f 0 (omega arith), by_list ys (λ k l. f (suc k) (omega (arith, l))))

  sorted-front : (x : Found d) (xs : List (Found d)) → IsSortedBy (lt_by_cmp found_cmp) (x ∷ xs) →
      Each (λ y. lt_by_cmp found_cmp y x ≡ false) xs × IsSortedBy (lt_by_cmp found_cmp) xs
  sorted-front x xs s = (
    at-front x xs (λ k l. sorted_far (lt_by_cmp found_cmp) (ranks_by found_total (λ v. v)) (x ∷ xs) s 0 (suc k) x (omega arith) (omega (arith, l))),
    λ k e a b. sorted_far (lt_by_cmp found_cmp) (ranks_by found_total (λ v. v)) (x ∷ xs) s (suc k) (suc (k + 1)) e (omega arith) (omega (arith, b)),
  )

module _ {w d : ℕ} (q : List ℤ) (narrow : w ≤ 62) where
  -- digits stand as the points that they are of
  known-before : (xs ys : List ℕ) → IsBody d w xs → IsBody d w ys →
      before w (map (coordinate w) xs) (map (coordinate w) ys) ≡ true → is_lt (words_cmp xs ys) ≡ true
  known-before xs ys h k b =
      (λ i. is_lt (words_cmp (sym (offsets-coordinate w xs) i) (sym (offsets-coordinate w ys) i)))
      ∙ words-before w d (map (coordinate w) xs) (map (coordinate w) ys) (omega (arith, narrow))
      (subst (IsBody d w) (sym (offsets-coordinate w xs)) h) (subst (IsBody d w) (sym (offsets-coordinate w ys)) k)
      ∙ b

  found-less : (x y : Found d) → IsFound w d q x → IsFound w d q y → is_nearer w q (row_of w x) (row_of w y) ≡ true → lt_by_cmp found_cmp x y ≡ true
  found-less x y h k e = by_case (nearer-cases w q (row_of w x) (row_of w y) e)
    where
      by_case : (distance (map (coordinate w) x.known) q < distance (map (coordinate w) y.known) q) ⊎
          ((distance (map (coordinate w) x.known) q ≡ distance (map (coordinate w) y.known) q) ×
          (before w (map (coordinate w) x.known) (map (coordinate w) y.known) ≡ true)) → lt_by_cmp found_cmp x y ≡ true
      by_case (inl m) =
          let less : x.distance < y.distance = omega (arith, m, h.far, k.far) in
          ap (λ o. is_lt (ordering_then o (words_cmp x.known y.known))) (sym (nat_cmp_is x.distance y.distance Less less))
      by_case (inr m) =
          let same : x.distance ≡ y.distance = h.far ∙ m.0 ∙ sym k.far in
          ap (λ o. is_lt (ordering_then o (words_cmp x.known y.known))) (sym (nat_cmp_is x.distance y.distance Equal same))
          ∙ known-before x.known y.known h.known k.known m.1

  found-nearer : (x y : Found d) → IsFound w d q x → IsFound w d q y → IsApart w (row_of w x) (row_of w y) →
      lt_by_cmp found_cmp y x ≡ false → is_nearer w q (row_of w x) (row_of w y) ≡ true
  found-nearer x y h k a e =
      nearer-total w q (row_of w x) (row_of w y) a (by_test (is_nearer w q (row_of w y) (row_of w x)) refl)
    where
      by_test : (t : Bool) → is_nearer w q (row_of w y) (row_of w x) ≡ t → t ≡ false
      by_test false f = refl
      by_test true f = absurd (let clash : true ≡ false = sym (found-less y x k h f) ∙ e in cc)

  -- ---- rows in their order

  all-nearer : (x : Found d) (ys : List (Found d)) → IsFound w d q x → Each (IsFound w d q) ys →
      Each (IsApart w (row_of w x)) (rows_of w ys) → Each (λ y. lt_by_cmp found_cmp y x ≡ false) ys →
      IsNearerThan w q (row_of w x) (rows_of w ys)
  all-nearer x [] h k a e = tt
  all-nearer x (y ∷ ys) h k a e = (found-nearer x y h k.0 a.0 e.0, all-nearer x ys h k.1 a.1 e.1)

  -- those that stay and those that go out, where the former are in their order
  module _ (table : List Row) (wide : 1 ≤ w) (rises : Rising w table) (points : ArePoints w d table) where
    pub sorted-ranked : (done : List Row) (xs ys : List (Found d)) (rest : List Row) →
        IsPermutation table (done ++ (rows_of w xs ++ (rows_of w ys ++ rest))) → Each (IsFound w d q) xs →
        Each (IsFound w d q) ys → IsSortedBy (lt_by_cmp found_cmp) xs → Each (λ y. IsUpperBound found_cmp y xs) ys
        → IsRanked w q (rows_of w xs) × Each (λ r. IsNearerThan w q r (rows_of w ys)) (rows_of w xs)
    sorted-ranked done [] ys rest p f g s u = (tt, tt)
    sorted-ranked done (x ∷ xs) ys rest p f g s u =
        let r : Row = row_of w x in
        let behind : List Row = rows_of w xs ++ (rows_of w ys ++ rest) in
        let there : ArePoints w d (row_of w x ∷ (rows_of w xs ++ (rows_of w ys ++ rest))) =
        (Each-parts (λ y. is_point w d y.point ≡ true) done (r ∷ behind)
        (Each-permutation (λ y. is_point w d y.point ≡ true) table (done ++ (r ∷ behind)) p points)).1 in
        let apart : Each (IsApart w (row_of w x)) (rows_of w xs ++ (rows_of w ys ++ rest)) =
        Each-from_in (IsApart w r) behind
        (λ y k. rows-apart w d table done behind r y wide rises p k there.0
        (Each-in (λ y. is_point w d y.point ≡ true) y behind there.1 k))
        in
        let first = Each-parts (IsApart w r) (rows_of w xs) (rows_of w ys ++ rest) apart in
        let second = Each-parts (IsApart w r) (rows_of w ys) rest first.1 in
        let front = sorted-front x xs s in
        let more = sorted-ranked (done ++ r ∷ []) xs ys rest
        (subst (IsPermutation table) (sym (append_assoc done (r ∷ []) behind)) p) f.1 g front.1
        (Each-each ys (λ y k. k.1) u) in (
          (all-nearer x xs f.0 f.1 first.0 front.0, more.0),
          (all-nearer x ys f.0 g second.0 (Each-each ys (λ y k. k.0) u), more.1),
        )
