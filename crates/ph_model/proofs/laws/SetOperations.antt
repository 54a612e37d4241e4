-- Union, common rows and difference are combined tables.
use Rattle.std.proofs.Common.{◌≡◌, ℕ, ◌≤◌, ◌≤◌, Bool, true, false, List, [], ◌∷◌, ◌++◌, inl, inr, refl, sym, ◌∙◌, ap, cond}
use Rattle.std.specs.Prelude.{not, ℤ, Some, is_some, if◌then◌else◌}
use Rattle.std.specs.List.{AllByRecursion as Each}
use Rattle.std.proofs.lemmas.Bool.{and_parts}
use Rattle.ph_specs.specs.Coordinate.{same_point, is_point}
use Rattle.ph_specs.specs.ZOrder.{before}
use Rattle.ph_specs.specs.Table.{Row, find, has, put, is_rising}
use Rattle.ph_specs.specs.Sets.{put_all, union, common, minus}
use Rattle.ph_specs.proofs.lemmas.Tests.{each-test}
use Rattle.ph_specs.proofs.lemmas.Members.{Each-each}
use Rattle.ph_specs.proofs.laws.Order.{before_irrefl, before_trans, same_from_order}
use Rattle.ph_specs.proofs.laws.Put.{either, same_from_test, test_from_same}
use Rattle.ph_specs.proofs.laws.Sets.{is_rising-filter}
use Rattle.ph_model.specs.Combined.{chosen, earlier, later, combined}
use Rattle.ph_model.proofs.laws.Combined.{AreParted, not-back, not-same, filter-all, filter-none, filter-same, Each-filter}

clash : {A : Type 0} (b : Bool) → b ≡ true → b ≡ false → A
clash b h k = let no : true ≡ false = sym h ∙ k in absurd cc

-- what comes after a row is found among the later ones
find-among_later : (w : ℕ) (x : Row) (b : List Row) (p : List ℤ) → before w x.point p ≡ true → find (later w x b) p ≡ find b p
find-among_later w x [] p h = refl
find-among_later w x (y ∷ b) p h =
    elim (either (before w x.point y.point)) [
      | inl k ↦ ap (λ t. find (cond t (y ∷ later w x b) (later w x b)) p) k ∙ ap (λ t. if same_point y.point p then Some y.value else t) (find-among_later w x b p h)
      | inr k ↦
          ap (λ t. find (cond t (y ∷ later w x b) (later w x b)) p) k ∙ find-among_later w x b p h
          ∙ sym (ap (λ t. if t then Some y.value else find b p) (other k))
    ]
  where
    other : before w x.point y.point ≡ false → same_point y.point p ≡ false
    other k =
        elim (either (same_point y.point p)) [
          | inl e ↦ clash (before w x.point y.point) (ap (before w x.point) (same_from_test y.point p e) ∙ h) k
          | inr e ↦ e
        ]

-- the rows of a table that rises come after the first
rest-after : (w : ℕ) (x : Row) (a : List Row) → is_rising w (x ∷ a) ≡ true → Each (λ s. before w x.point s.point ≡ true) a
rest-after w x a h = each-test (λ s. before w x.point s.point) a (and_parts _ _ h).0

pub common-combined : (w : ℕ) (a b : List Row) → is_rising w a ≡ true → combined w false true false a b ≡ common a b
common-combined w [] b h = refl
common-combined w (x ∷ a) b h =
    let ih : combined w false true false a (later w x b) ≡ common a (later w x b) = common-combined w a (later w x b) (and_parts _ _ h).1 in
    let e : common a (later w x b) ≡ common a b = filter-same (λ r. has (later w x b) r.point) (λ r. has b r.point) a
    (Each-each a (λ s k. ap is_some (find-among_later w x b s.point k)) (rest-after w x a h)) in
    ap (λ t. chosen (if has b x.point then true else false) (x ∷ []) ++ t) (ih ∙ e) ∙ by_bool (has b x.point) (common a b)
  where
    by_bool : (t : Bool) (xs : List Row) → chosen (if t then true else false) (x ∷ []) ++ xs ≡ cond t (x ∷ xs) xs
    by_bool true xs = refl
    by_bool false xs = refl

pub minus-combined : (w : ℕ) (a b : List Row) → is_rising w a ≡ true → combined w true false false a b ≡ minus a b
minus-combined w [] b h = refl
minus-combined w (x ∷ a) b h =
    let ih : combined w true false false a (later w x b) ≡ minus a (later w x b) = minus-combined w a (later w x b) (and_parts _ _ h).1 in
    let e : minus a (later w x b) ≡ minus a b = filter-same (λ r. not (has (later w x b) r.point))
    (λ r. not (has b r.point)) a (Each-each a
    (λ s k. ap (λ t. not (is_some t)) (find-among_later w x b s.point k)) (rest-after w x a h)) in
    ap (λ t. chosen (if has b x.point then false else true) (x ∷ []) ++ t) (ih ∙ e) ∙ by_bool (has b x.point) (minus a b)
  where
    by_bool : (t : Bool) (xs : List Row) → chosen (if t then false else true) (x ∷ []) ++ xs ≡ cond (not t) (x ∷ xs) xs
    by_bool true xs = refl
    by_bool false xs = refl

-- ---- a row that is put stands between the earlier and the later rows

put-between : (w d : ℕ) (x : Row) (b : List Row) → 1 ≤ w → is_point w d x.point ≡ true →
    Each (λ s. is_point w d s.point ≡ true) b → is_rising w b ≡ true →
    put w b x.point x.value ≡ earlier w x b ++ (x ∷ later w x b)
put-between w d x [] l p q h = refl
put-between w d x (y ∷ b) l p q h =
    let after : Each (λ s. before w y.point s.point ≡ true) b = rest-after w y b h in
    elim (either (same_point y.point x.point)) [
      | inl e ↦
          let same : y.point ≡ x.point = same_from_test y.point x.point e in
          let behind : Each (λ s. before w x.point s.point ≡ true) b = Each-each b (λ s k. ap (λ t. before w t s.point) (sym same) ∙ k) after in
          let none : before w y.point x.point ≡ false = ap (λ t. before w t x.point) same ∙ before_irrefl w x.point in
          let back : before w x.point y.point ≡ false = ap (before w x.point) same ∙ before_irrefl w x.point in
          let u : earlier w x (y ∷ b) ≡ [] = filter-none (λ s. before w s.point x.point) (y ∷ b) (none, Each-each b (λ s k. not-back w x.point s.point k) behind) in
          let v : later w x (y ∷ b) ≡ b = ap (λ t. cond t (y ∷ later w x b) (later w x b)) back ∙ filter-all (λ s. before w x.point s.point) b behind in
          ap (λ t. if t then x ∷ b else (if before w x.point y.point then x ∷ y ∷ b else y ∷ put w b x.point x.value)) e
          ∙ sym (ap (λ t. t ++ (x ∷ later w x (y ∷ b))) u ∙ ap {B = List Row} (λ t. x ∷ t) v)
      | inr e ↦ elim (either (before w x.point y.point)) [
        | inl k ↦
            let behind : Each (λ s. before w x.point s.point ≡ true) (y ∷ b) = (k, Each-each b (λ s m. before_trans w x.point y.point s.point k m) after) in
            let u : earlier w x (y ∷ b) ≡ [] = filter-none (λ s. before w s.point x.point) (y ∷ b) (Each-each (y ∷ b) (λ s m. not-back w x.point s.point m) behind) in
            let v : later w x (y ∷ b) ≡ y ∷ b = filter-all (λ s. before w x.point s.point) (y ∷ b) behind in
            ap (λ t. if t then x ∷ b else (if before w x.point y.point then x ∷ y ∷ b else y ∷ put w b x.point x.value)) e
            ∙ ap (λ t. if t then x ∷ y ∷ b else y ∷ put w b x.point x.value) k
            ∙ sym (ap (λ t. t ++ (x ∷ later w x (y ∷ b))) u ∙ ap {B = List Row} (λ t. x ∷ t) v)
        | inr k ↦
            let front : before w y.point x.point ≡ true = comes y q.0 e k in
            let u : earlier w x (y ∷ b) ≡ y ∷ earlier w x b = ap (λ t. cond t (y ∷ earlier w x b) (earlier w x b)) front in
            let v : later w x (y ∷ b) ≡ later w x b = ap (λ t. cond t (y ∷ later w x b) (later w x b)) k in
            ap (λ t. if t then x ∷ b else (if before w x.point y.point then x ∷ y ∷ b else y ∷ put w b x.point x.value)) e
            ∙ ap (λ t. if t then x ∷ y ∷ b else y ∷ put w b x.point x.value) k
            ∙ ap {B = List Row} (λ t. y ∷ t) (put-between w d x b l p q.1 (and_parts _ _ h).1)
            ∙ sym (ap (λ t. t ++ (x ∷ later w x (y ∷ b))) u ∙ ap (λ t. (y ∷ earlier w x b) ++ (x ∷ t)) v)
      ]
    ]
  where
    comes : (y : Row) → is_point w d y.point ≡ true → same_point y.point x.point ≡ false → before w x.point y.point ≡ false → before w y.point x.point ≡ true
    comes y q e k =
        elim (either (before w y.point x.point)) [
          | inl m ↦ m
          | inr m ↦ clash (same_point y.point x.point) (test_from_same y.point x.point (same_from_order w d y.point x.point l q p m k)) e
        ]

-- rows that are put behind all rows of a front leave it
put-behind : (w : ℕ) (us vs : List Row) (x : Row) → Each (λ u. before w u.point x.point ≡ true) us → put w (us ++ vs) x.point x.value ≡ us ++ put w vs x.point x.value
put-behind w [] vs x h = refl
put-behind w (u ∷ us) vs x h =
    ap (λ t. if t then x ∷ (us ++ vs) else
    (if before w x.point u.point then x ∷ u ∷ (us ++ vs) else u ∷ put w (us ++ vs) x.point x.value))
    (not-same w u.point x.point h.0)
    ∙ ap (λ t. if t then x ∷ u ∷ (us ++ vs) else u ∷ put w (us ++ vs) x.point x.value) (not-back w u.point x.point h.0)
    ∙ ap {B = List Row} (λ t. u ∷ t) (put-behind w us vs x h.1)

put_all-behind : (w : ℕ) (us vs a : List Row) → AreParted w us a → put_all w (us ++ vs) a ≡ us ++ put_all w vs a
put_all-behind w us vs [] h = refl
put_all-behind w us vs (x ∷ a) h =
    ap (λ t. put_all w t a) (put-behind w us vs x (Each-each us (λ u k. k.0) h)) ∙ put_all-behind w us (put w vs x.point x.value) a (Each-each us (λ u k. k.1) h)

filter-tests : (w : ℕ) (x : Row) (b : List Row) → Each (λ s. before w s.point x.point ≡ true) (earlier w x b)
filter-tests w x [] = tt
filter-tests w x (y ∷ b) =
    elim (either (before w y.point x.point)) [
      | inl k ↦ rw k (k, filter-tests w x b)
      | inr k ↦ rw k (filter-tests w x b)
    ]

chosen-if : (t : Bool) (rows : List Row) → chosen (if t then true else true) rows ≡ rows
chosen-if true rows = refl
chosen-if false rows = refl

pub union-combined : (w d : ℕ) (a b : List Row) → 1 ≤ w → Each (λ r. is_point w d r.point ≡ true) a →
    is_rising w a ≡ true → Each (λ r. is_point w d r.point ≡ true) b → is_rising w b ≡ true →
    combined w true true true a b ≡ union w a b
union-combined w d [] b l p h q k = refl
union-combined w d (x ∷ a) b l p h q k =
    let after : Each (λ s. before w x.point s.point ≡ true) a = rest-after w x a h in
    let ih : combined w true true true a (later w x b) ≡ put_all w (later w x b) a =
    union-combined w d a (later w x b) l p.1 (and_parts _ _ h).1
    (Each-filter (λ r. is_point w d r.point ≡ true) (λ s. before w x.point s.point) b q)
    (is_rising-filter w (λ s. before w x.point s.point) b k) in
    let front : AreParted w (earlier w x b) a =
    Each-each (earlier w x b) (λ u m. Each-each a (λ s n. before_trans w u.point x.point s.point m n) after)
    (filter-tests w x b) in
    let one : AreParted w (x ∷ []) a = (after, tt) in
    let made : put_all w (put w b x.point x.value) a ≡ earlier w x b ++ (x ∷ put_all w (later w x b) a) =
    ap (λ t. put_all w t a) (put-between w d x b l p.0 q k) ∙ put_all-behind w (earlier w x b) (x ∷ later w x b) a
    front ∙ ap (λ t. earlier w x b ++ t) (put_all-behind w (x ∷ []) (later w x b) a one)
    in
    ap (λ t. earlier w x b ++ (t ++ combined w true true true a (later w x b))) (chosen-if (has b x.point) (x ∷ [])) ∙ ap (λ t. earlier w x b ++ (x ∷ t)) ih ∙ sym made
