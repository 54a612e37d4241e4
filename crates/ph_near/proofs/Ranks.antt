-- Heaps of rows that were found, and of what waits.
use Rattle.std.proofs.Common.{◌≡◌, inl, inr, ℕ, zero, suc, ◌<◌, ◌≤◌, refl, sym, ◌∙◌, ap, subst, arith, Bool}
use Rattle.std.proofs.Common.{true, false, List, [], ◌∷◌, ◌++◌, length, get_or, append-nil, ltb-false}
use Rattle.std.specs.Prelude.{nat_lt, Result, Ok, Err, OnOk}
use Rattle.std.specs.Ordering.{is_lt}
use Rattle.std.specs.Cmp.{nat_cmp_is}
use Rattle.std.specs.List.{AllByRecursion as Each}
use Rattle.std.specs.List.Sorted.{IsPermutation}
use Rattle.std.specs.BinaryHeap.{IsUpperBound, lt_by_cmp}
use Rattle.std.specs.declared.cmp.Ordering.TheVariants.{Less}
use Rattle.std.proofs.lemmas.Bool.{ltb-true}
use Rattle.std.proofs.lemmas.List.Sorted.{IsPermutation-sym, IsPermutation-trans, IsPermutation-cons, IsPermutation-middle, IsPermutation-to_front, length_permutation}
use Rattle.ph_model.specs.Lawful.{IsBody}
use Rattle.ph_specs.proofs.lemmas.Members.{Each-each, In}
use Rattle.ph_specs.proofs.lemmas.Gathered.{Each-permutation}
use Rattle.ph_near.specs.declared.found.Found.{Found}
use Rattle.ph_near.specs.declared.waiting.Waiting.{Waiting}
use Rattle.ph_near.specs.Found.{found_cmp}
use Rattle.ph_near.specs.Ranking.{IsAdded, IsBeyond, IsLimit, IsWanted}
use Rattle.ph_near.specs.Waiting.{waiting_cmp}
use Rattle.ph_near.proofs.FoundOrder.{last-chain, last-way, last-all, no-farther}

-- ---- what waits

pub waiting-first : (x : Waiting) (items : List Waiting) → IsUpperBound waiting_cmp x items → Each (λ i. x.distance ≤ i.distance) items
waiting-first x items h = Each-each items (λ y e. by_test y e (nat_lt y.distance x.distance) refl) h
  where
    by_test : (y : Waiting) → lt_by_cmp waiting_cmp x y ≡ false → (b : Bool) → nat_lt y.distance x.distance ≡ b → x.distance ≤ y.distance
    by_test y e true f =
        let clash : true ≡ false = ap is_lt (nat_cmp_is y.distance x.distance Less (ltb-true y.distance x.distance f)) ∙ e in absurd (cc)
    by_test y e false f = ltb-false y.distance x.distance f

pub waiting-far : (limit : ℕ) (x : Waiting) (items : List Waiting) → limit < x.distance → IsUpperBound waiting_cmp x items → Each (λ i. limit < i.distance) items
waiting-far limit x items l h = Each-each items (λ y k. omega (arith, l, k)) (waiting-first x items h)

pub first-there : {X : Type 0} (x : X) (xs : List X) → 0 < length xs → x ≡ get_or xs 0 x → In x xs
first-there x [] l e = absurd (omega (arith, l))
first-there x (y ∷ ys) l e = inl e

-- ---- rows that are listed

abbrev pub AreKnown : {d : ℕ} → ℕ → List (Found d) → Type 0
AreKnown {d} w fs = Each (λ f. IsBody d w f.known) fs

pub known-at : (d w : ℕ) (fs : List (Found d)) (i : ℕ) (f : Found d) → i < length fs → f ≡ get_or fs i f → AreKnown w fs → IsBody d w f.known
known-at d w fs i f l e h = subst (λ (g : Found d). IsBody d w g.known) (sym e) (at fs i l h)
  where
    at : (xs : List (Found d)) (k : ℕ) → k < length xs → AreKnown w xs → IsBody d w (get_or xs k f).known
    at [] k l h = absurd (omega (arith, l))
    at (x ∷ xs) zero l h = h.0
    at (x ∷ xs) (suc k) l h = at xs k (omega (arith, l)) h.1

-- ---- results

pub on-both : {T E : Type 0} {A B C : Type 0} (r : Result T E) → (A → B → C) → OnOk r A → OnOk r B → OnOk r C
on-both (Ok x) f a b = f a b
on-both (Err e) f a b = a

pub moved-as : {X : Type 0} (xs ys new : List X) → xs ≡ ys → IsPermutation xs new → IsPermutation ys new
moved-as xs ys new e p = subst (λ zs. IsPermutation zs new) e p

-- ---- rows that are ranked

module _ {d : ℕ} where
  pub last-beyond : (n : ℕ) (rows : List (Found d)) (x : Found d) → n ≤ length rows → IsUpperBound found_cmp x rows → (t : ℕ) → x.distance < t → IsBeyond n rows t
  last-beyond n rows x l u t m = record { full = l; nearer = Each-each rows (λ f k. omega (arith, m, no-farther f x k)) u }

  pub last-wanted : (n : ℕ) (rows : List (Found d)) (x : Found d) → 0 < length rows → x ≡ get_or rows 0 x → (t : ℕ) → t ≤ x.distance → IsWanted n rows t
  last-wanted n rows x l e t m = inr (x, first-there x rows l e, m)

  -- of fewer than n rows there is no limit
  pub limit-none : (n : ℕ) (rows : List (Found d)) → length rows < n → IsLimit n rows 340282366920938463463374607431768211455
  limit-none n rows l = record { beyond = λ t a b. absurd (omega (arith, a, b)); wanted = λ t a. inl l }

  -- there is room
  pub added-few : (n : ℕ) (x : Found d) (old new : List (Found d)) → length old < n → IsPermutation (x ∷ old) new → IsAdded n x old new
  added-few n x old new l p = record {
    out = [];
    moved = subst (IsPermutation (x ∷ old)) (sym (append-nil new)) p;
    last = tt;
    full = inl refl;
    few = omega (arith, length_permutation (x ∷ old) new p, l);
    grows = omega (arith, length_permutation (x ∷ old) new p);
    still_last = λ y m u. absurd (omega (arith, m, l));
    still_beyond = λ t b. absurd (omega (arith, b.full, l));
  }

  module _ (n : ℕ) (x last : Found d) {old mid : List (Found d)} (l : n ≤ length old) (m : length old ≤ n)
      (p : IsPermutation old (last ∷ mid)) (u : IsUpperBound found_cmp last old) where
    behind : IsUpperBound found_cmp last (last ∷ mid)
    behind = Each-permutation (λ (z : Found d). lt_by_cmp found_cmp last z ≡ false) old (last ∷ mid) p u

    front : (y : Found d) → IsUpperBound found_cmp y old → IsUpperBound found_cmp y (last ∷ mid)
    front y k = Each-permutation (λ (z : Found d). lt_by_cmp found_cmp y z ≡ false) old (last ∷ mid) p k

    -- it comes before the last one
    pub added-in : {new : List (Found d)} → lt_by_cmp found_cmp x last ≡ true → IsPermutation (x ∷ mid) new → IsAdded n x old new
    added-in {new} e r =
        let longer = length_permutation old (last ∷ mid) p in
        let longest = length_permutation (x ∷ mid) new r in
        record {
          out = last ∷ [];
          moved =
              IsPermutation-trans (x ∷ old) (x ∷ last ∷ mid) (new ++ last ∷ []) (IsPermutation-cons x old (last ∷ mid) p)
              (IsPermutation-trans (x ∷ last ∷ mid) (last ∷ x ∷ mid) (new ++ last ∷ []) (IsPermutation-middle (x ∷ []) last mid)
              (IsPermutation-trans (last ∷ x ∷ mid) (last ∷ new) (new ++ last ∷ []) (IsPermutation-cons last (x ∷ mid) new r)
              (IsPermutation-sym (new ++ last ∷ []) (last ∷ new) (IsPermutation-to_front new last))));
          last = (moved last (last-way x last e) behind.1, tt);
          full = inr (omega (arith, l, longer, longest));
          few = omega (arith, m, longer, longest);
          grows = omega (arith, longer, longest);
          still_last = λ y k v. moved y (last-chain y last x (front y v).0 (last-way x last e)) (front y v).1;
          still_beyond = λ t b.
              let k = Each-permutation (λ (f : Found d). f.distance < t) old (last ∷ mid) p b.nearer in
              record {
                full = omega (arith, l, longer, longest);
                nearer = Each-permutation (λ (f : Found d). f.distance < t) (x ∷ mid) new r (omega (arith, k.0, no-farther x last (last-way x last e)), k.1);
              };
        }
      where
        moved : (y : Found d) → lt_by_cmp found_cmp y x ≡ false → IsUpperBound found_cmp y mid → IsUpperBound found_cmp y new
        moved y f k = Each-permutation (λ (z : Found d). lt_by_cmp found_cmp y z ≡ false) (x ∷ mid) new r (f, k)

    -- or it goes out
    pub added-out : {new : List (Found d)} → lt_by_cmp found_cmp x last ≡ false → IsPermutation (last ∷ mid) new → IsAdded n x old new
    added-out {new} e r =
        let longer = length_permutation old (last ∷ mid) p in
        let longest = length_permutation (last ∷ mid) new r in
        let same : IsPermutation old new = IsPermutation-trans old (last ∷ mid) new p r in
        record {
          out = x ∷ [];
          moved =
              IsPermutation-trans (x ∷ old) (x ∷ new) (new ++ x ∷ []) (IsPermutation-cons x old new (IsPermutation-trans old (last ∷ mid) new p r))
              (IsPermutation-sym (new ++ x ∷ []) (x ∷ new) (IsPermutation-to_front new x));
          last = (Each-permutation (λ (z : Found d). lt_by_cmp found_cmp x z ≡ false) old new same (last-all x last old e u), tt);
          full = inr (omega (arith, l, longer, longest));
          few = omega (arith, m, longer, longest);
          grows = omega (arith, longer, longest);
          still_last = λ y k v. Each-permutation (λ (z : Found d). lt_by_cmp found_cmp y z ≡ false) old new same v;
          still_beyond = λ t b. record { full = omega (arith, l, longer, longest); nearer = Each-permutation (λ (f : Found d). f.distance < t) old new same b.nearer };
        }

-- the rows of another heap that are the same
pub added-at : {d n : ℕ} {x : Found d} {old now new : List (Found d)} → IsAdded n x old now → new ≡ now → IsAdded n x old new
added-at {d} {n} {x} {old} a e = subst (IsAdded n x old) (sym e) a
