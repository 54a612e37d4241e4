-- Two tables that are combined may be cut at one place of the Z-order.
use Rattle.std.proofs.Common.{◌≡◌, ℕ, Bool, true, false, List, [], ◌∷◌, ◌++◌, filter, inl, inr, refl, sym, ◌∙◌, ap, cond, append_assoc}
use Rattle.std.specs.Prelude.{ℤ, Some, None, is_some, if◌then◌else◌}
use Rattle.std.specs.List.{AllByRecursion as Each}
use Rattle.std.proofs.lemmas.List.Elements.{filter-append}
use Rattle.ph_specs.specs.Coordinate.{same_point}
use Rattle.ph_specs.specs.ZOrder.{before}
use Rattle.ph_specs.specs.Table.{Row, find, has}
use Rattle.ph_specs.proofs.lemmas.Members.{Each-each}
use Rattle.ph_specs.proofs.laws.Order.{before_irrefl, before_trans}
use Rattle.ph_specs.proofs.laws.Put.{either, same_from_test}
use Rattle.ph_model.specs.Combined.{chosen, earlier, later, combined}
pub use Rattle.ph_model.specs.Combined.{AreParted}

-- ---- the order of two points

clash : {A : Type 0} (b : Bool) → b ≡ true → b ≡ false → A
clash b h k = let no : true ≡ false = sym h ∙ k in absurd cc

pub not-back : (w : ℕ) (p q : List ℤ) → before w p q ≡ true → before w q p ≡ false
not-back w p q h =
    elim (either (before w q p)) [
      | inl k ↦ clash (before w p p) (before_trans w p q p h k) (before_irrefl w p)
      | inr k ↦ k
    ]

pub not-same : (w : ℕ) (p q : List ℤ) → before w p q ≡ true → same_point p q ≡ false
not-same w p q h =
    elim (either (same_point p q)) [
      | inl k ↦ clash (before w p p) (ap (before w p) (same_from_test p q k) ∙ h) (before_irrefl w p)
      | inr k ↦ k
    ]

pub not-same-back : (w : ℕ) (p q : List ℤ) → before w p q ≡ true → same_point q p ≡ false
not-same-back w p q h =
    elim (either (same_point q p)) [
      | inl k ↦ clash (before w p p) (ap (before w p) (sym (same_from_test q p k)) ∙ h) (before_irrefl w p)
      | inr k ↦ k
    ]

-- ---- filters

pub filter-all : {X : Type 0} (p : X → Bool) (xs : List X) → Each (λ x. p x ≡ true) xs → filter p xs ≡ xs
filter-all p [] h = refl
filter-all {X = X} p (x ∷ xs) h =
    ap (λ t. cond t (x ∷ filter p xs) (filter p xs)) h.0 ∙ ap {B = List X} (λ t. x ∷ t) (filter-all p xs h.1)

pub filter-none : {X : Type 0} (p : X → Bool) (xs : List X) → Each (λ x. p x ≡ false) xs → filter p xs ≡ []
filter-none p [] h = refl
filter-none p (x ∷ xs) h =
    ap (λ t. cond t (x ∷ filter p xs) (filter p xs)) h.0 ∙ filter-none p xs h.1

pub filter-same : {X : Type 0} (p q : X → Bool) (xs : List X) → Each (λ x. p x ≡ q x) xs → filter p xs ≡ filter q xs
filter-same p q [] h = refl
filter-same p q (x ∷ xs) h =
    ap (λ t. cond t (x ∷ filter p xs) (filter p xs)) h.0 ∙ ap (λ t. cond (q x) (x ∷ t) t) (filter-same p q xs h.1)

pub Each-filter : {X : Type 0} (P : X → Type 0) (p : X → Bool) (xs : List X) → Each P xs → Each P (filter p xs)
Each-filter P p [] h = tt
Each-filter P p (x ∷ xs) h =
    elim (either (p x)) [
      | inl k ↦ rw k (h.0, Each-filter P p xs h.1)
      | inr k ↦ rw k (Each-filter P p xs h.1)
    ]

-- ---- what is found in a part

pub find-front : (us vs : List Row) (p : List ℤ) → find vs p ≡ None → find (us ++ vs) p ≡ find us p
find-front [] vs p h = h
find-front (u ∷ us) vs p h = ap (λ t. if same_point u.point p then Some u.value else t) (find-front us vs p h)

pub find-none : (us : List Row) (p : List ℤ) → Each (λ u. same_point u.point p ≡ false) us → find us p ≡ None
find-none [] p h = refl
find-none (u ∷ us) p h =
    ap (λ t. if t then Some u.value else find us p) h.0 ∙ find-none us p h.1

pub find-back : (us vs : List Row) (p : List ℤ) → Each (λ u. same_point u.point p ≡ false) us → find (us ++ vs) p ≡ find vs p
find-back [] vs p h = refl
find-back (u ∷ us) vs p h =
    ap (λ t. if t then Some u.value else find (us ++ vs) p) h.0 ∙ find-back us vs p h.1

-- ---- two tables that are cut at one place of the Z-order

pub parted-none : (w : ℕ) (xs : List Row) → AreParted w xs []
parted-none w [] = tt
parted-none w (x ∷ xs) = (tt, parted-none w xs)

chosen-append : (keep : Bool) (xs ys : List Row) → chosen keep (xs ++ ys) ≡ chosen keep xs ++ chosen keep ys
chosen-append true xs ys = refl
chosen-append false xs ys = refl

three : (a d b e c f : List Row) → a ≡ d → b ≡ e → c ≡ f → a ++ (b ++ c) ≡ d ++ (e ++ f)
three a d b e c f h k l = ap (λ t. t ++ (b ++ c)) h ∙ ap (λ t. d ++ (t ++ c)) k ∙ ap (λ t. d ++ (e ++ t)) l

append-nothing : (xs ys : List Row) → ys ≡ [] → xs ++ ys ≡ xs
append-nothing [] ys h = h
append-nothing (x ∷ xs) ys h = ap {B = List Row} (λ t. x ∷ t) (append-nothing xs ys h)

module _ (w : ℕ) (left both right : Bool) where
  abbrev joined : List Row → List Row → List Row
  joined a b = combined w left both right a b

  split-none : (ys us vs : List Row) → AreParted w us ys → joined ys (us ++ vs) ≡ chosen right us ++ joined ys vs
  split-none [] us vs k = chosen-append right us vs
  split-none (y ∷ ys) us vs k =
      let first : Each (λ u. before w u.point y.point ≡ true) us = Each-each us (λ u h. h.0) k in
      let e : earlier w y (us ++ vs) ≡ us ++ earlier w y vs = filter-append (λ s. before w s.point y.point) us vs ∙
      ap (λ t. t ++ earlier w y vs) (filter-all (λ s. before w s.point y.point) us first) in
      let f : later w y (us ++ vs) ≡ later w y vs = filter-append (λ s. before w y.point s.point) us vs ∙
      ap (λ t. t ++ later w y vs) (filter-none (λ s. before w y.point s.point) us
      (Each-each us (λ u h. not-back w u.point y.point h) first)) in
      let g : find (us ++ vs) y.point ≡ find vs y.point = find-back us vs y.point (Each-each us (λ u h. not-same w u.point y.point h) first) in
      three (chosen right (earlier w y (us ++ vs))) (chosen right us ++ chosen right (earlier w y vs))
      (chosen (if has (us ++ vs) y.point then both else left) (y ∷ []))
      (chosen (if has vs y.point then both else left) (y ∷ [])) (joined ys (later w y (us ++ vs))) (joined ys (later w y vs))
      (ap (chosen right) e ∙ chosen-append right us (earlier w y vs))
      (ap (λ t. chosen (if is_some t then both else left) (y ∷ [])) g)
      (ap (joined ys) f)
      ∙ append_assoc (chosen right us) (chosen right (earlier w y vs)) (chosen (if has vs y.point then both else left) (y ∷ []) ++ joined ys (later w y vs))

  pub combined-split : (xs ys us vs : List Row) → AreParted w xs vs → AreParted w us ys → joined (xs ++ ys) (us ++ vs) ≡ joined xs us ++ joined ys vs
  combined-split [] ys us vs h k = split-none ys us vs k
  combined-split (x ∷ xs) ys us vs h k =
      let e : earlier w x (us ++ vs) ≡ earlier w x us = filter-append (λ s. before w s.point x.point) us vs ∙
      append-nothing (earlier w x us) (earlier w x vs)
      (filter-none (λ s. before w s.point x.point) vs (Each-each vs (λ v h. not-back w x.point v.point h) h.0)) in
      let f : later w x (us ++ vs) ≡ later w x us ++ vs = filter-append (λ s. before w x.point s.point) us vs ∙
      ap (λ t. later w x us ++ t) (filter-all (λ s. before w x.point s.point) vs h.0) in
      let g : find (us ++ vs) x.point ≡ find us x.point = find-front us vs x.point (find-none vs x.point (Each-each vs (λ v h. not-same-back w x.point v.point h) h.0)) in
      let ih : joined (xs ++ ys) (later w x us ++ vs) ≡ joined xs (later w x us) ++ joined ys vs =
      combined-split xs ys (later w x us) vs h.1
      (Each-filter (λ u. Each (λ y. before w u.point y.point ≡ true) ys) (λ s. before w x.point s.point) us k) in
      three (chosen right (earlier w x (us ++ vs))) (chosen right (earlier w x us))
      (chosen (if has (us ++ vs) x.point then both else left) (x ∷ []))
      (chosen (if has us x.point then both else left) (x ∷ [])) (joined (xs ++ ys) (later w x (us ++ vs)))
      (joined xs (later w x us) ++ joined ys vs)
      (ap (chosen right) e)
      (ap (λ t. chosen (if is_some t then both else left) (x ∷ [])) g)
      (ap (joined (xs ++ ys)) f ∙ ih)
      ∙ sym (append_assoc (chosen right (earlier w x us)) (chosen (if has us x.point then both else left) (x ∷ []) ++ joined xs (later w x us)) (joined ys vs)
      ∙ ap (λ t. chosen right (earlier w x us) ++ t) (append_assoc (chosen (if has us x.point then both else left) (x ∷ [])) (joined xs (later w x us)) (joined ys vs)))

  -- where the second table is empty
  pub combined-left : (xs : List Row) → joined xs [] ≡ chosen left xs
  combined-left [] = empty right left
    where
      empty : (a b : Bool) → chosen a [] ≡ chosen b []
      empty true true = refl
      empty true false = refl
      empty false true = refl
      empty false false = refl
  combined-left (x ∷ xs) = ap (λ t. chosen right [] ++ (chosen left (x ∷ []) ++ t)) (combined-left xs) ∙ by_bools right left
    where
      by_bools : (a b : Bool) → chosen a [] ++ (chosen b (x ∷ []) ++ chosen b xs) ≡ chosen b (x ∷ xs)
      by_bools true true = refl
      by_bools true false = refl
      by_bools false true = refl
      by_bools false false = refl

  -- all rows of one table before all of the other
  pub combined-left-first : (xs vs : List Row) → AreParted w xs vs → joined xs vs ≡ chosen left xs ++ chosen right vs
  combined-left-first xs vs h =
      sym (ap (λ t. joined t vs) (append-nothing xs [] refl)) ∙ combined-split xs [] [] vs h tt ∙ ap (λ t. t ++ chosen right vs) (combined-left xs)

  pub combined-right-first : (xs vs : List Row) → AreParted w vs xs → joined xs vs ≡ chosen right vs ++ chosen left xs
  combined-right-first xs vs h =
      sym (ap (joined xs) (append-nothing vs [] refl)) ∙ combined-split [] xs vs [] tt h ∙ ap (λ t. chosen right vs ++ t) (combined-left xs)

  -- one table around a part of it in which the other one lies
  pub sandwich-left : (p q r ys : List Row) → AreParted w p ys → AreParted w ys r → joined (p ++ (q ++ r)) ys ≡ chosen left p ++ (joined q ys ++ chosen left r)
  sandwich-left p q r ys h k =
      let e : joined (q ++ r) (ys ++ []) ≡ joined q ys ++ joined r [] = combined-split q r ys [] (parted-none w q) k in
      combined-split p (q ++ r) [] ys h tt ∙ ap (λ t. t ++ joined (q ++ r) ys) (combined-left p)
      ∙ ap (λ t. chosen left p ++ t) (sym (ap (joined (q ++ r)) (append-nothing ys [] refl)) ∙ e ∙ ap (λ t. joined q ys ++ t) (combined-left r))

  pub sandwich-right : (p q r xs : List Row) → AreParted w p xs → AreParted w xs r → joined xs (p ++ (q ++ r)) ≡ chosen right p ++ (joined xs q ++ chosen right r)
  sandwich-right p q r xs h k =
      let e : joined (xs ++ []) (q ++ r) ≡ joined xs q ++ chosen right r = combined-split xs [] q r k (parted-none w q) in
      combined-split [] xs p (q ++ r) tt h ∙ ap (λ t. chosen right p ++ t) (sym (ap (λ t. joined t (q ++ r)) (append-nothing xs [] refl)) ∙ e)
