-- What the rows before and behind a point tell of its look-up and of a put there.
use Rattle.std.proofs.Common.{◌≡◌, ℕ, zero, suc, ◌<◌, ◌≤◌, Bool, true, false, inl, inr, List, [], ◌∷◌, length, get_or, refl, ap, sym, ◌∙◌, arith, cond}
use Rattle.std.specs.Prelude.{ℤ, None, Some, Ok, Err, slice_get, option_map}
use Rattle.std.specs.List.{list_all}
use Rattle.std.proofs.lemmas.Bool.{and_parts}
use Rattle.ph_specs.specs.Coordinate.{same_point, is_point}
use Rattle.ph_specs.specs.ZOrder.{before}
use Rattle.ph_specs.specs.Table.{Row, find, del, is_rising}
use Rattle.ph_specs.proofs.laws.Order.{same_from_order}
use Rattle.ph_specs.proofs.laws.Put.{either, test_from_same, before-differs, before-not, not_same}
use Rattle.ph_table.specs.Place.{IsCut, IsPlace}
use Rattle.ph_table.proofs.Search.{rising-at}

-- the same of the rows behind the first
tail : (w : ℕ) (r : Row) (rows : List Row) (p : List ℤ) (i : ℕ) → IsCut w (r ∷ rows) p (suc i) → IsCut w rows p i
tail w r rows p i h = record {
  within = omega (arith, h.within);
  earlier = λ k d l. h.earlier (suc k) d (omega arith);
  later = λ k d l m. h.later (suc k) d (omega arith) (omega arith);
}

-- a row stands at the point
pub place-there : (w : ℕ) (rows : List Row) (p : List ℤ) (i : ℕ) (r : Row) → IsCut w rows p i → i < length rows →
    r ≡ get_or rows i r → same_point r.point p ≡ true → IsPlace w rows p (Ok i)
place-there w [] p i r h l e s = absurd (omega arith)
place-there w (q ∷ rows) p zero r h l e s = let t : same_point q.point p ≡ true = rw (← e) s in (omega arith, rw t refl, λ v. rw t refl, rw t refl)
place-there w (q ∷ rows) p (suc i) r h l e s =
    let b : before w q.point p ≡ true = h.earlier 0 q (omega arith) in
    let n : same_point q.point p ≡ false = not_same q.point p (before-differs w q.point p b) in
    let m : before w p q.point ≡ false = before-not w q.point p b in
    let rest : IsPlace w rows p (Ok i) = place-there w rows p i r (tail w q rows p i h) (omega arith) e s in
    (omega arith, rw n rest.1, λ v. rw (n, m) (ap (λ t. q ∷ t) (rest.2 v)), rw n (ap (λ t. q ∷ t) rest.3))

-- nothing is found where no row is at the point
find-none : (rows : List Row) (p : List ℤ) → ((k : ℕ) (d : Row) → k < length rows → same_point (get_or rows k d).point p ≡ false) → find rows p ≡ None
find-none [] p h = refl
find-none (r ∷ rows) p h = rw (h 0 r (omega arith)) (find-none rows p (λ k d l. h (suc k) d (omega arith)))

-- nothing goes where nothing is found
del-none : (rows : List Row) (p : List ℤ) → find rows p ≡ None → del rows p ≡ rows
del-none [] p h = refl
del-none (r ∷ rows) p h = from (same_point r.point p) refl h (del-none rows p)
  where
    from : (t : Bool) → same_point r.point p ≡ t → cond t (Some r.value) (find rows p) ≡ None → (find rows p ≡ None → del rows p ≡ rows) → del (r ∷ rows) p ≡ r ∷ rows
    from true e k rest = cc
    from false e k rest = rw e (ap (λ t. r ∷ t) (rest k))

-- no row is at the point, and none comes before it
front : (w : ℕ) (rows : List Row) (p : List ℤ) → IsCut w rows p 0 → is_rising w rows ≡ true →
    (0 < length rows → (d : Row) → same_point (get_or rows 0 d).point p ≡ false) → find rows p ≡ None
front w [] p h i s = refl
front w (r ∷ rows) p h i s =
    find-none (r ∷ rows) p (λ k d l. apart k d l)
  where
    apart : (k : ℕ) (d : Row) → k < length (r ∷ rows) → same_point (get_or (r ∷ rows) k d).point p ≡ false
    apart zero d l = s (omega arith) d
    apart (suc k) d l =
        let b : before w r.point (get_or rows k d).point ≡ true = rising-at w (r ∷ rows) 0 (suc k) r d i (omega arith) l in
        let n : before w r.point p ≡ false = h.later 0 r (omega arith) (omega arith) in
        not_same (get_or rows k d).point p (λ e. let clash : true ≡ false = sym b ∙ ap (before w r.point) e ∙ n in cc)

-- a new row goes in there
pub place-new : (w dims : ℕ) (rows : List Row) (p : List ℤ) (i : ℕ) → 1 ≤ w → is_point w dims p ≡ true →
    list_all (λ r. is_point w dims r.point) rows ≡ true → is_rising w rows ≡ true → IsCut w rows p i →
    (i < length rows → (d : Row) → same_point (get_or rows i d).point p ≡ false) → IsPlace w rows p (Err i)
place-new w dims [] p i o q a u h s = let e : i ≡ 0 = omega (arith, h.within) in (omega (arith, h.within), refl, λ v. rw e refl, refl)
place-new w dims (r ∷ rows) p zero o q a u h s =
    let n : same_point r.point p ≡ false = s (omega arith) r in
    let later : before w r.point p ≡ false = h.later 0 r (omega arith) (omega arith) in
    let first : before w p r.point ≡ true =
    elim (either (before w p r.point)) [
      | inl comes ↦ comes
      | inr neither ↦
          let clash : true ≡ false = sym (test_from_same r.point p (same_from_order w dims r.point p o (and_parts _ _ a).0 q later neither)) ∙ n in cc
    ] in
    (omega arith, front w (r ∷ rows) p h u s, λ v. rw (n, first) refl, del-none (r ∷ rows) p (front w (r ∷ rows) p h u s))
place-new w dims (r ∷ rows) p (suc i) o q a u h s =
    let b : before w r.point p ≡ true = h.earlier 0 r (omega arith) in
    let n : same_point r.point p ≡ false = not_same r.point p (before-differs w r.point p b) in
    let m : before w p r.point ≡ false = before-not w r.point p b in
    let rest : IsPlace w rows p (Err i) = place-new w dims rows p i o q (and_parts _ _ a).1 (and_parts _ _ u).1 (tail w r rows p i h) (λ l d. s (omega arith) d) in
    (omega arith, rw n rest.1, λ v. rw (n, m) (ap (λ t. r ∷ t) (rest.2 v)), rw n (ap (λ t. r ∷ t) rest.3))

-- a row that is at another point, by any default
pub other-at : (rows : List Row) (p : List ℤ) (i : ℕ) (r d : Row) → i < length rows → r ≡ get_or rows i r →
    same_point r.point p ≡ false → same_point (get_or rows i d).point p ≡ false
other-at [] p i r d l e s = absurd (omega arith)
other-at (q ∷ rows) p zero r d l e s = rw (← e) s
other-at (q ∷ rows) p (suc i) r d l e s = other-at rows p i r d (omega arith) e s

-- the value of a row at a place
pub value-at : (rows : List Row) (i : ℕ) (r : Row) → i < length rows → r ≡ get_or rows i r → option_map (λ s. s.value) (slice_get rows i) ≡ Some r.value
value-at [] i r l e = absurd (omega arith)
value-at (q ∷ rows) zero r l e = rw (← e) refl
value-at (q ∷ rows) (suc i) r l e = value-at rows i r (omega arith) e
