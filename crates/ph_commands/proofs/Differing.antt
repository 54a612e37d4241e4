-- The visits of an inverse, by the tables between which it leads.
use Rattle.std.proofs.Common.{◌≡◌, ◌≤◌, ◌<◌, ◌+◌, ◌-◌, ◌*◌, ℕ, zero, suc, Bool, true, false, List, [], ◌∷◌, length, drop, get_or, refl, ap, sym, ◌∙◌, subst, arith, cond, inl, inr, eq-eqb}
use Rattle.std.specs.Prelude.{◌⊎◌, ℤ, min, not, is_some, if◌then◌else◌, filter, slice_get, unwrap_or, Option, Some, None, IsSome}
use Rattle.std.proofs.lemmas.Bool.{and_parts}
use Rattle.ph_specs.specs.Coordinate.{same_point}
use Rattle.ph_specs.specs.Table.{Row, IsTable, find, put, del, move, move_value}
use Rattle.ph_specs.specs.WorkSets.{path}
use Rattle.ph_specs.specs.Past.{Past, back}
use Rattle.ph_specs.proofs.laws.Put.{either, find-put, same_from_test, test_from_same}
use Rattle.ph_specs.proofs.laws.Del.{find-del}
use Rattle.ph_model.proofs.laws.Paths.{path-few}
use Rattle.ph_undo.specs.Kept.{BackVisits}
use Rattle.ph_undo.specs.Inverses.{undone, undo_visits, IsChange}
use Rattle.ph_undo.specs.declared.inverse.Inverse.{Inverse}
use Rattle.ph_undo.specs.declared.inverse.Inverse.TheVariants.{Remove, Restore, Return}
use Rattle.ph_commands.proofs.Backward.{within-both}
use Rattle.ph_commands.specs.Differing.{same_answer, rows_changed, visits_at, step_visits, back_visits}

-- ---- the first row that a filter leaves

first-passes : {A : Type 0} (q : A → Bool) (xs : List A) (y : A) (ys : List A) → filter q xs ≡ y ∷ ys → q y ≡ true
first-passes q [] y ys e = absurd cc
first-passes q (x ∷ xs) y ys e = by_test (q x) refl e (λ k. first-passes q xs y ys k)
  where
    by_test : (b : Bool) → q x ≡ b → (if b then x ∷ filter q xs else filter q xs) ≡ y ∷ ys → (filter q xs ≡ y ∷ ys → q y ≡ true) → q y ≡ true
    by_test true h e behind = let same : x ≡ y = ap (λ l. get_or l 0 x) e in ap q (sym same) ∙ h
    by_test false h e behind = behind e

-- it stands at its point
first-found : (q : Row → Bool) (xs : List Row) (y : Row) (ys : List Row) → filter q xs ≡ y ∷ ys → find xs y.point ≡ None → ⊥
first-found q [] y ys e n = cc
first-found q (x ∷ xs) y ys e n = by_test (q x) e (λ k. first-found q xs y ys k)
  where
    here : (b : Bool) → (if b then Some x.value else find xs y.point) ≡ None → find xs y.point ≡ None
    here true h = absurd cc
    here false h = h

    by_test : (b : Bool) → (if b then x ∷ filter q xs else filter q xs) ≡ y ∷ ys →
        (filter q xs ≡ y ∷ ys → find xs y.point ≡ None → ⊥) → ⊥
    by_test true e behind =
        let same : x ≡ y = ap (λ l. get_or l 0 x) e in
        let is : same_point x.point y.point ≡ true = test_from_same x.point y.point (ap (λ r. r.point) same) in
        let clash : Some x.value ≡ None = sym (ap (λ b. if b then Some x.value else find xs y.point) is) ∙ n in
        cc
    by_test false e behind = behind e (here (same_point x.point y.point) n)

-- and there is one where a row at a point passes
some-pass : (f : List ℤ → Bool) (xs : List Row) (p : List ℤ) (v : ℕ) → find xs p ≡ Some v → f p ≡ true → filter (λ r. f r.point) xs ≡ [] → ⊥
some-pass f [] p v h k e = cc
some-pass f (x ∷ xs) p v h k e = at_point (same_point x.point p) refl h (λ j l. some-pass f xs p v l k j)
  where
    behind : (b : Bool) → (if b then x ∷ filter (λ r. f r.point) xs else filter (λ r. f r.point) xs) ≡ [] → filter (λ r. f r.point) xs ≡ []
    behind true e = absurd cc
    behind false e = e

    passes : (b : Bool) → b ≡ true → (if b then x ∷ filter (λ r. f r.point) xs else filter (λ r. f r.point) xs) ≡ [] → ⊥
    passes true is e = cc
    passes false is e = cc

    at_point : (b : Bool) → same_point x.point p ≡ b → (if b then Some x.value else find xs p) ≡ Some v →
        (filter (λ r. f r.point) xs ≡ [] → find xs p ≡ Some v → ⊥) → ⊥
    at_point true same h rest = passes (f x.point) (ap f (same_from_test x.point p same) ∙ k) e
    at_point false other h rest = rest (behind (f x.point) e) h

-- ---- tables that differ at one point

turned : (a b : List ℤ) → same_point b a ≡ false → same_point a b ≡ false
turned a b h = elim (either (same_point a b)) [
  | inl is ↦ let clash : true ≡ false = sym (test_from_same b a (sym (same_from_test a b is))) ∙ h in absurd cc
  | inr other ↦ other
]

same-self : (a : Option ℕ) → same_answer a a ≡ true
same-self None = refl
same-self (Some v) = eq-eqb v v refl

answers-differ : (a b : Option ℕ) → not (same_answer a b) ≡ true → a ≡ b → ⊥
answers-differ a b h e = let stays : not (same_answer b b) ≡ true = subst (λ x. not (same_answer x b) ≡ true) e h in
    let clash : false ≡ true = sym (ap not (same-self b)) ∙ stays in cc

-- where the answers differ by one point alone, it is that point
the-point : (p x : List ℤ) (a b c : Option ℕ) → b ≡ cond (same_point p x) c a → (a ≡ b → ⊥) → x ≡ p
the-point p x a b c h n = by_test (same_point p x) refl h
  where
    by_test : (t : Bool) → same_point p x ≡ t → b ≡ cond t c a → x ≡ p
    by_test true is h = sym (same_from_test p x is)
    by_test false is h = absurd (n (sym h))

module _ (w d : ℕ) (t u : List Row) where
  abbrev visits : List ℤ → ℕ
  visits p = length (path w d t p)

  gone-differs : (x : Row) (xs : List Row) → rows_changed t u ≡ x ∷ xs → find t x.point ≡ find u x.point → ⊥
  gone-differs x xs e = answers-differ (find t x.point) (find u x.point)
      (first-passes (λ r. not (same_answer (find t r.point) (find u r.point))) t x xs e)

  come-differs : (y : Row) (ys : List Row) → rows_changed u t ≡ y ∷ ys → find t y.point ≡ find u y.point → ⊥
  come-differs y ys e same = answers-differ (find u y.point) (find t y.point)
      (first-passes (λ r. not (same_answer (find u r.point) (find t r.point))) u y ys e) (sym same)

  -- an edit at one point
  module _ (p : List ℤ) (c : Option ℕ) (differ : (x : List ℤ) → find u x ≡ cond (same_point p x) c (find t x)) where
    gone-at : (x : Row) (xs : List Row) → rows_changed t u ≡ x ∷ xs → x.point ≡ p
    gone-at x xs e = the-point p x.point (find t x.point) (find u x.point) c (differ x.point) (gone-differs x xs e)

    come-at : (y : Row) (ys : List Row) → rows_changed u t ≡ y ∷ ys → y.point ≡ p
    come-at y ys e = the-point p y.point (find t y.point) (find u y.point) c (differ y.point) (come-differs y ys e)

    pub one-point : visits p ≤ w → 2 * visits p - 1 ≤ step_visits w d t u
    one-point few = by_rows (rows_changed t u) (rows_changed u t) refl refl
      where
        by_rows : (xs ys : List Row) → rows_changed t u ≡ xs → rows_changed u t ≡ ys → 2 * visits p - 1 ≤ visits_at w d t xs ys
        by_rows [] [] e k = omega (arith, few)
        by_rows (x ∷ xs) [] e k = let at = ap visits (gone-at x xs e) in omega (arith, at)
        by_rows [] (y ∷ ys) e k = let at = ap visits (come-at y ys k) in omega (arith, at)
        by_rows (x ∷ xs) (y ∷ ys) e k =
            let at = ap visits (gone-at x xs e) in
            let is : same_point x.point y.point ≡ true = test_from_same x.point y.point (gone-at x xs e ∙ sym (come-at y ys k)) in
            subst (λ b. 2 * visits p - 1 ≤ (if b then 2 * visits x.point - 1 else 3 * visits x.point + 2 * visits y.point))
            (sym is) (omega (arith, at))

  -- a move
  module _ (p q : List ℤ) (v : ℕ) (there : find t p ≡ Some v) (free : find t q ≡ None)
      (differ : (x : List ℤ) → find u x ≡ cond (same_point q x) (Some v) (cond (same_point p x) None (find t x))) where
    apart : (x : List ℤ) → same_point q x ≡ true → x ≡ p → ⊥
    apart x is e = let clash : None ≡ Some v = sym free ∙ ap (find t) (same_from_test q x is ∙ e) ∙ there in cc

    other-than : (x : List ℤ) → x ≡ p → same_point q x ≡ false
    other-than x e = elim (either (same_point q x)) [ inl is ↦ absurd (apart x is e) | inr other ↦ other ]

    left-free : find u p ≡ None
    left-free = differ p
        ∙ ap (λ b. cond b (Some v) (cond (same_point p p) None (find t p))) (other-than p refl)
        ∙ ap (λ b. cond b None (find t p)) (test_from_same p p refl)

    now-there : find u q ≡ Some v
    now-there = differ q ∙ ap (λ b. cond b (Some v) (cond (same_point p q) None (find t q))) (test_from_same q q refl)

    the-two : (x : List ℤ) → (find t x ≡ find u x → ⊥) → (x ≡ p) ⊎ (x ≡ q)
    the-two x n = elim (either (same_point q x)) [
      | inl is ↦ inr (sym (same_from_test q x is))
      | inr other ↦ inl (the-point p x (find t x) (find u x) None
          (differ x ∙ ap (λ b. cond b (Some v) (cond (same_point p x) None (find t x))) other) n)
    ]

    gone-from : (x : Row) (xs : List Row) → rows_changed t u ≡ x ∷ xs → x.point ≡ p
    gone-from x xs e = elim (the-two x.point (gone-differs x xs e)) [
      | inl is ↦ is
      | inr other ↦ absurd (first-found (λ r. not (same_answer (find t r.point) (find u r.point))) t x xs e (ap (find t) other ∙ free))
    ]

    come-to : (y : Row) (ys : List Row) → rows_changed u t ≡ y ∷ ys → y.point ≡ q
    come-to y ys e = elim (the-two y.point (come-differs y ys e)) [
      | inl other ↦ absurd (first-found (λ r. not (same_answer (find u r.point) (find t r.point))) u y ys e (ap (find u) other ∙ left-free))
      | inr is ↦ is
    ]

    some-gone : rows_changed t u ≡ [] → ⊥
    some-gone = some-pass (λ x. not (same_answer (find t x) (find u x))) t p v there
        (ap (λ a. not (same_answer a (find u p))) there ∙ ap (λ b. not (same_answer (Some v) b)) left-free)

    some-come : rows_changed u t ≡ [] → ⊥
    some-come = some-pass (λ x. not (same_answer (find u x) (find t x))) u q v now-there
        (ap (λ a. not (same_answer a (find t q))) now-there ∙ ap (λ b. not (same_answer (Some v) b)) free)

    pub two-points : 3 * visits p + 2 * visits q ≤ step_visits w d t u
    two-points = by_rows (rows_changed t u) (rows_changed u t) refl refl
      where
        by_rows : (xs ys : List Row) → rows_changed t u ≡ xs → rows_changed u t ≡ ys → 3 * visits p + 2 * visits q ≤ visits_at w d t xs ys
        by_rows [] ys e k = absurd (some-gone e)
        by_rows (x ∷ xs) [] e k = absurd (some-come k)
        by_rows (x ∷ xs) (y ∷ ys) e k =
            let from = ap visits (gone-from x xs e) in
            let to = ap visits (come-to y ys k) in
            let reversed : same_point y.point x.point ≡ false = ap (λ z. same_point z x.point) (come-to y ys k) ∙ other-than x.point (gone-from x xs e) in
            let is : same_point x.point y.point ≡ false = turned x.point y.point reversed in
            subst (λ b. 3 * visits p + 2 * visits q ≤ (if b then 2 * visits x.point - 1 else 3 * visits x.point + 2 * visits y.point))
            (sym is) (omega (arith, from, to))

-- ---- an inverse

-- what a point has is some value
the-value : (a : Option ℕ) → IsSome a → (v : ℕ) × (a ≡ Some v)
the-value (Some v) h = (v, refl)
the-value None h = absurd cc

moved : (w : ℕ) (t : List Row) (p q : List ℤ) (v : ℕ) → find t p ≡ Some v → find t q ≡ None → move w t p q ≡ put w (del t p) q v
moved w t p q v there free = ap (λ a. if is_some a then t else move_value w t p q (find t p)) free ∙ ap (move_value w t p q) there

-- it visits at most what the tables tell
pub step-few : {D : ℕ} (w : ℕ) (t : List Row) (s : Inverse D) → 1 ≤ w → IsTable w D t → IsChange t s → undo_visits w D t s ≤ step_visits w D t (undone w t s)
step-few {D} w t (Remove p) some whole h =
    one-point w D t (del t p) p None (λ x. find-del w t p x (and_parts _ _ whole).0) (path-few w D t p some whole)
step-few {D} w t (Restore p v) some whole h =
    one-point w D t (put w t p v) p (Some v) (λ x. find-put w t p x v) (path-few w D t p some whole)
step-few {D} w t (Return p q) some whole h =
    let value = the-value (find t p) h.0 in
    let is = moved w t p q value.0 value.1 h.1 in
    two-points w D t (move w t p q) p q value.0 value.1 h.1
    (λ x. ap (λ rs. find rs x) is ∙ find-put w (del t p) q x value.0
    ∙ ap (λ a. cond (same_point q x) (Some value.0) a) (find-del w t p x (and_parts _ _ whole).0))

few-back : (w d : ℕ) (t : List Row) (past : List (List Row)) (v now_v : ℕ) → 1 ≤ w → IsTable w d t → BackVisits d w t past v now_v →
    (before : List Row) (rest : List (List Row)) → past ≡ before ∷ rest → now_v ≤ v + step_visits w d t before
few-back w d t [] v now_v some whole h before rest e = absurd cc
few-back w d t (u ∷ past) v now_v some whole h before rest e =
    let is : u ≡ before = ap (λ l. get_or l 0 u) e in
    let few : undo_visits w d t h.inverse ≤ step_visits w d t (undone w t h.inverse) = step-few w t h.inverse some whole h.change in
    let same : step_visits w d t (undone w t h.inverse) ≡ step_visits w d t before = ap (step_visits w d t) (h.leads ∙ is) in
    omega (arith, h.few, few, same)

-- ---- edits that are taken back one by one

next-one : {A : Type 0} (xs : List A) (i : ℕ) → i < length xs → (y : A) × (ys : List A) × (drop i xs ≡ y ∷ ys)
next-one [] i l = absurd (omega (arith, l))
next-one (x ∷ xs) zero l = (x, xs, refl)
next-one (x ∷ xs) (suc i) l = next-one xs i (omega (arith, l))

way-next : (w d : ℕ) (t other : List Row) (past : List (List Row)) (i : ℕ) (before : List Row) (rest : List (List Row)) →
    drop i past ≡ before ∷ rest →
    back_visits w d t past (suc i) ≡ back_visits w d t past i + step_visits w d (unwrap_or (slice_get (t ∷ past) i) other) before
way-next w d t other [] zero before rest e = absurd cc
way-next w d t other [] (suc i) before rest e = absurd cc
way-next w d t other (u ∷ past) zero before rest e =
    let same = ap (λ l. step_visits w d t (get_or l 0 u)) e in
    omega (arith, same)
way-next w d t other (u ∷ past) (suc i) before rest e =
    let more = way-next w d u other past i before rest e in
    omega (arith, more)

-- one edit more
pub way-back : (d : ℕ) (k now : Past) (i v0 v now_v : ℕ) → now ≡ back k i → i < length k.past → 1 ≤ now.width → IsTable now.width d now.table →
    v ≤ v0 + back_visits k.width d k.table k.past i → BackVisits d now.width now.table now.past v now_v →
    now_v ≤ v0 + back_visits k.width d k.table k.past (i + 1)
way-back d k now i v0 v now_v is l some whole so_far h = subst Goes (sym is) goes some whole h
  where
    Goes : Past → Type 0
    Goes x = 1 ≤ x.width → IsTable x.width d x.table → BackVisits d x.width x.table x.past v now_v →
        now_v ≤ v0 + back_visits k.width d k.table k.past (i + 1)

    goes : Goes (back k i)
    goes some whole h =
        let next = next-one k.past i l in
        let one = few-back k.width d (back k i).table (back k i).past v now_v some whole h next.0 next.1 next.2 in
        let all = way-next k.width d k.table k.table k.past i next.0 next.1 next.2 in
        let more : suc i ≡ i + 1 = omega arith in
        let same = ap (back_visits k.width d k.table k.past) more in
        omega (arith, so_far, one, all, same)

-- fewer edits visit no more
pub way-part : (w d : ℕ) (t : List Row) (past : List (List Row)) (m n : ℕ) → m ≤ n → back_visits w d t past m ≤ back_visits w d t past n
way-part w d t past zero n l = omega arith
way-part w d t [] (suc m) n l = omega arith
way-part w d t (u ∷ past) (suc m) zero l = absurd (omega (arith, l))
way-part w d t (u ∷ past) (suc m) (suc n) l = let more = way-part w d u past m n (omega (arith, l)) in omega (arith, more)

-- nor do they where some of those that were asked for were begun, and not all
pub part-begun : (w d : ℕ) (t : List Row) (past : List (List Row)) (part n v now_v : ℕ) → part < n →
    now_v ≤ v + min (back_visits w d t past (part + 1)) (5 * w * (part + 1)) → now_v ≤ v + min (back_visits w d t past n) (5 * w * n)
part-begun w d t past part n v now_v fewer few =
    let less = way-part w d t past (part + 1) n (omega (arith, fewer)) in
    let left : n ≡ part + 1 + (n - (part + 1)) = omega (arith, fewer) in
    let all : 5 * w * n ≡ 5 * w * (part + 1) + 5 * w * (n - (part + 1)) = ap (λ x. 5 * w * x) left ∙ omega arith in
    within-both v now_v (back_visits w d t past n) (5 * w * n) (omega (arith, less, few)) (omega (arith, few, all))
