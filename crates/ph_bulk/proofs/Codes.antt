-- Points sorted by the digits of their offsets as one number.
use Rattle.std.proofs.Common.{◌≡◌, ℕ, zero, suc, ◌+◌, ◌*◌, ◌^◌, ◌<◌, ◌≤◌, ◌⊎◌, Bool, true, false, ◌&&◌, cond, List, [], ◌∷◌, length}
use Rattle.std.proofs.Common.{map, filter, get_or, refl, sym, ◌∙◌, ap, subst, arith, inl, inr}
use Rattle.std.specs.Prelude.{ℤ, not, ◌-◌, ◌%◌}
use Rattle.std.specs.Cmp.{IsStrictWeakOrder}
use Rattle.std.specs.Int.{cast_unsigned, w64}
use Rattle.std.specs.List.{AllByRecursion as Each}
use Rattle.std.specs.List.Sorted.{IsPermutation, IsSortedBy, IsStableBy, IsSortedByKey, IsStableByKey, ties}
use Rattle.std.specs.Ordering.{is_lt, nat_cmp, ordering_then}
use Rattle.std.proofs.Math.Nat.{le-mul_of_pos_right, mod-eq_of_lt, mod-lt}
use Rattle.std.proofs.Math.Pow.{pow_mono}
use Rattle.std.proofs.lemmas.Bool.{and_parts, not-true}
use Rattle.std.proofs.lemmas.List.{length-map}
use Rattle.std.proofs.lemmas.List.Elements.{All-from_recursion, recursion_from_All, filter_agree}
use Rattle.std.proofs.lemmas.List.Sorted.{All-permutation}
use Rattle.std.proofs.lemmas.Nat.{pow_pos, pow-add, mul-add-lt}
use Rattle.ph_specs.specs.Coordinate.{half}
use Rattle.ph_specs.specs.Table.{Row}
use Rattle.ph_model.specs.Lawful.{IsBody}
use Rattle.ph_model.specs.PutTree.{body_address}
use Rattle.ph_digits.proofs.Cuts.{address-below}
use Rattle.ph_digits.specs.WordOrder.{words_cmp_below, words_cmp}
use Rattle.ph_digits.proofs.WordOrders.{below-cut, two-digits}
use Rattle.ph_shape.proofs.Fronts.{each-at}
use Rattle.ph_bulk.specs.Order.{any_offset, row_before, code_below, code_of}
use Rattle.ph_bulk.proofs.Orders.{order}

-- ---- codes

pub code-limit : (n : ℕ) (xs : List ℕ) → code_below n xs < 2 ^ (length xs * n)
code-limit zero xs = pow_pos (length xs * 0)
code-limit (suc n) xs =
    let more : length xs * suc n ≡ length xs * n + length xs = omega arith in
    let whole : 2 ^ (length xs * suc n) ≡ 2 ^ (length xs * n) * 2 ^ length xs =
    ap (λ k. 2 ^ k) more ∙ pow-add 2 (length xs * n) (length xs) in
    subst (λ k. code_below (suc n) xs < k) (sym whole)
    (mul-add-lt (body_address n xs) (2 ^ (length xs * n)) (code_below n xs) (2 ^ length xs) (address-below (length xs) n xs refl) (code-limit n xs))

-- one digit more, behind a code of so many dimensions
pub record IsNextDigit (d w place code a : ℕ) (xs ys : List ℕ) : Type 0 where
  pub fits : code * 2 ^ d % 2 ^ 128 + a < 2 ^ 128
  pub next : (code * 2 ^ d % 2 ^ 128 + a) * 2 ^ (d * (place - 1)) + code_below (place - 1) xs ≡ code_below w ys

regroup : (c q a p r : ℕ) → (c * q + a) * p + r ≡ c * (p * q) + (a * p + r)
regroup c q a p r = omega arith

front-below : (t p r s m limit : ℕ) → t * p + r ≡ s → s < m → m ≤ limit → 0 < p → t < limit
front-below t p r s m limit e l h positive = omega (arith, le-mul_of_pos_right {m = p} t positive)

-- the code of the digits from a place on, and of those below it, as one number
code-split : (d w n code : ℕ) (xs : List ℕ) → length xs ≡ d → code * 2 ^ (d * suc n) + code_below (suc n) xs ≡ code_below w xs →
    (code * 2 ^ d + body_address n xs) * 2 ^ (d * n) + code_below n xs ≡ code_below w xs
code-split d w n code xs e h =
    let more : d * suc n ≡ d * n + d = omega arith in
    let wide : 2 ^ (d * n) * 2 ^ d ≡ 2 ^ (d * suc n) = sym (ap (λ k. 2 ^ k) more ∙ pow-add 2 (d * n) d) in
    let long : d ≡ length xs = sym e in
    regroup code (2 ^ d) (body_address n xs) (2 ^ (d * n)) (code_below n xs)
    ∙ (λ i. code * wide i + (body_address n xs * 2 ^ (long i * n) + code_below n xs))
    ∙ h

pub next-digit : (d w place code a : ℕ) (xs ys : List ℕ) → length xs ≡ d → d * w ≤ 128 → xs ≡ ys → 0 < place →
    code * 2 ^ (d * place) + code_below place xs ≡ code_below w ys → a ≡ body_address (place - 1) xs → IsNextDigit d w place code a xs ys
next-digit d w zero code a xs ys e l same some h v = absurd (let no : ⊥ = omega (arith, some) in no)
next-digit d w (suc n) code a xs ys e l same some h v =
    let one : suc n - 1 ≡ n = omega arith in
    let digit : a ≡ body_address n xs = v ∙ ap (λ k. body_address k xs) one in
    let next : (code * 2 ^ d + body_address n xs) * 2 ^ (d * n) + code_below n xs ≡ code_below w xs =
    code-split d w n code xs e (h ∙ ap (code_below w) (sym same)) in
    let small : code * 2 ^ d + body_address n xs < 2 ^ 128 =
    front-below (code * 2 ^ d + body_address n xs) (2 ^ (d * n)) (code_below n xs) (code_below w xs) (2 ^ (d * w)) (2 ^ 128) next
    (subst (λ k. code_below w xs < 2 ^ (k * w)) e (code-limit w xs)) (pow_mono l) (pow_pos (d * n)) in
    let kept : code * 2 ^ d % 2 ^ 128 ≡ code * 2 ^ d = mod-eq_of_lt (no-more (code * 2 ^ d) (body_address n xs) (2 ^ 128) small) in
    record {
      fits = subst (λ k. k < 2 ^ 128) (λ i. sym kept i + sym digit i) small;
      next = (λ i. (kept i + digit i) * 2 ^ (d * one i) + code_below (one i) xs) ∙ next ∙ ap (code_below w) same;
    }
  where
    no-more : (x y limit : ℕ) → x + y < limit → x < limit
    no-more x y limit l = omega arith

-- codes stand as the numbers do by their digits
code-order : (n : ℕ) (xs ys : List ℕ) → length xs ≡ length ys → nat_cmp (code_below n xs) (code_below n ys) ≡ words_cmp_below n xs ys
code-order zero xs ys e = refl
code-order (suc n) xs ys e =
    ap (λ k. nat_cmp (body_address n xs * 2 ^ (k * n) + code_below n xs) (code_below (suc n) ys)) e
    ∙ two-digits (body_address n xs) (body_address n ys) (code_below n xs) (code_below n ys) (2 ^ (length ys * n))
    (subst (λ k. code_below n xs < 2 ^ (k * n)) e (code-limit n xs)) (code-limit n ys)
    ∙ ap (ordering_then (nat_cmp (body_address n xs) (body_address n ys))) (code-order n xs ys e)

-- ---- codes of points

any-small : (w : ℕ) (p : List ℤ) → Each (λ x. x < 2 ^ w) (map (any_offset w) p)
any-small w [] = tt
any-small w (c ∷ p) = (mod-lt (cast_unsigned w64 c + half w) (pow_pos w), any-small w p)

any-body : (w d : ℕ) (p : List ℤ) → length p ≡ d → IsBody d w (map (any_offset w) p)
any-body w d p e = (length-map p (any_offset w) ∙ e, any-small w p)

row-codes : (w d : ℕ) (a b : Row) → w ≤ 62 → length a.point ≡ d → length b.point ≡ d →
    is_lt (nat_cmp (code_of w a.point) (code_of w b.point)) ≡ row_before w a b
unfolding words_cmp
row-codes w d a b l h k =
    let xs = any-body w d a.point h in
    let ys = any-body w d b.point k in
    ap is_lt (code-order w (map (any_offset w) a.point) (map (any_offset w) b.point) (xs.0 ∙ sym ys.0)
    ∙ sym (below-cut 64 w d (map (any_offset w) a.point) (map (any_offset w) b.point) (omega (arith, l)) xs ys))

-- ---- elements that tie

either : (b : Bool) → (b ≡ true) ⊎ (b ≡ false)
either true = inl refl
either false = inr refl

same-tests : (a b : Bool) → (a ≡ false → b ≡ false) → (b ≡ false → a ≡ false) → a ≡ b
same-tests true true f g = refl
same-tests true false f g = g refl
same-tests false true f g = sym (f refl)
same-tests false false f g = refl

each-permuted : {X : Type 0} (P : X → Type 0) (xs ys : List X) → IsPermutation xs ys → Each P xs → Each P ys
each-permuted P xs ys m h = recursion_from_All P ys (All-permutation P xs ys m (All-from_recursion P xs h))

each-from : {X : Type 0} (P Q : X → Type 0) (f : (x : X) → P x → Q x) (xs : List X) → Each P xs → Each Q xs
each-from P Q f [] h = tt
each-from P Q f (x ∷ xs) h = (f x h.0, each-from P Q f xs h.1)

-- tests that agree at each element of a list keep the same of it
filter-each : {X : Type 0} (p q : X → Bool) (xs : List X) → Each (λ x. p x ≡ q x) xs → filter p xs ≡ filter q xs
filter-each p q [] h = refl
filter-each {X} p q (x ∷ xs) h = λ i. cond {A = List X} (h.0 i) (x ∷ filter-each p q xs h.1 i) (filter-each p q xs h.1 i)

filter-none : {X : Type 0} (p : X → Bool) (xs : List X) → Each (λ x. p x ≡ false) xs → filter p xs ≡ []
filter-none p [] h = refl
filter-none {X} p (x ∷ xs) h = ap {B = List X} (λ t. cond t (x ∷ filter p xs) (filter p xs)) h.0 ∙ filter-none p xs h.1

module _ {X : Type 0} (lt : X → X → Bool) (o : IsStrictWeakOrder lt) where
  -- what ties with an element ties with the same elements
  shared : (x r s : X) → ties lt x r ≡ true → ties lt x s ≡ ties lt r s
  shared x r s t =
      let h : lt x r ≡ false = not-true (lt x r) (and_parts (not (lt x r)) (not (lt r x)) t).0 in
      let k : lt r x ≡ false = not-true (lt r x) (and_parts (not (lt x r)) (not (lt r x)) t).1 in
      let front = same-tests (lt x s) (lt r s) (λ e. o.chain r x s k e) (λ e. o.chain x r s h e) in
      let back = same-tests (lt s x) (lt s r) (λ e. o.chain s x r e h) (λ e. o.chain s r x e k) in
      λ i. not (front i) && not (back i)

  tied : (x : X) (P : X → Type 0) (xs : List X) → Each P xs → ((r : X) × (ties lt x r ≡ true) × P r) ⊎ Each (λ r. ties lt x r ≡ false) xs
  tied x P [] h = inr tt
  tied x P (y ∷ xs) h =
      elim (either (ties lt x y)) [
        | inl t ↦ inl (y, t, h.0)
        | inr f ↦ elim (tied x P xs h.1) [
          | inl found ↦ inl found
          | inr none ↦ inr (f, none)
        ]
      ]

  -- what ties with each element keeps its order, so whatever ties with anything does
  stable-all : (xs ys : List X) → IsPermutation xs ys → Each (λ r. filter (ties lt r) ys ≡ filter (ties lt r) xs) xs → IsStableBy lt xs ys
  stable-all xs ys m h x =
      elim (tied x (λ r. filter (ties lt r) ys ≡ filter (ties lt r) xs) xs h) [
        | inl found ↦
            let agree = λ (s : X). shared x found.0 s found.1 in
            filter_agree (ties lt x) (ties lt found.0) agree ys ∙ found.2 ∙ sym (filter_agree (ties lt x) (ties lt found.0) agree xs)
        | inr none ↦
            filter-none (ties lt x) ys (each-permuted (λ r. ties lt x r ≡ false) xs ys m none)
            ∙ sym (filter-none (ties lt x) xs none)
      ]

  -- ---- sorted by keys that stand as the elements do

  module _ (key : X → ℕ) (P : X → Type 0) (agree : (x y : X) → P x → P y → is_lt (nat_cmp (key x) (key y)) ≡ lt x y) where
    tie-keys : (x : X) (xs : List X) → P x → Each P xs →
        filter (ties lt x) xs ≡ filter (ties (λ a b. is_lt (nat_cmp (key a) (key b))) x) xs
    tie-keys x xs p h =
        filter-each (ties lt x) (ties (λ a b. is_lt (nat_cmp (key a) (key b))) x) xs
        (each-from P (λ y. ties lt x y ≡ ties (λ a b. is_lt (nat_cmp (key a) (key b))) x y)
        (λ y q i. not (sym (agree x y p q) i) && not (sym (agree y x q p) i)) xs h)

    pub stable-by-key : (xs ys : List X) → Each P xs → IsPermutation xs ys → IsStableByKey key nat_cmp xs ys → IsStableBy lt xs ys
    stable-by-key xs ys h m st =
        stable-all xs ys m
        (each-from P (λ r. filter (ties lt r) ys ≡ filter (ties lt r) xs)
        (λ r p. tie-keys r ys p (each-permuted P xs ys m h) ∙ st r ∙ sym (tie-keys r xs p h)) xs h)

    pub sorted-by-key : (xs ys : List X) → Each P xs → IsPermutation xs ys → IsSortedByKey key nat_cmp ys → IsSortedBy lt ys
    sorted-by-key xs ys h m up k d l n =
        let all = each-permuted P xs ys m h in
        sym (agree (get_or ys (k + 1) d) (get_or ys k d) (each-at P ys (k + 1) d all n) (each-at P ys k d all (omega (arith, n)))) ∙ up k d l n

-- ---- rows

abbrev HasDims : ℕ → Row → Type 0
HasDims d r = length r.point ≡ d

module _ (w d : ℕ) (limit : w ≤ 62) (rows ys : List Row) (dims : Each (λ r. length r.point ≡ d) rows) (moved : IsPermutation rows ys) where
  pub rows-sorted : IsSortedByKey (λ (r : Row). code_of w r.point) nat_cmp ys → IsSortedBy (row_before w) ys
  rows-sorted up =
      sorted-by-key (row_before w) (order w) (λ (r : Row). code_of w r.point) (HasDims d) (λ a b h k. row-codes w d a b limit h k) rows ys dims moved up

  pub rows-stable : IsStableByKey (λ (r : Row). code_of w r.point) nat_cmp rows ys → IsStableBy (row_before w) rows ys
  rows-stable st =
      stable-by-key (row_before w) (order w) (λ (r : Row). code_of w r.point) (HasDims d) (λ a b h k. row-codes w d a b limit h k) rows ys dims moved st
