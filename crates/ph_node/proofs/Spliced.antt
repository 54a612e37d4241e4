-- Lists with elements from a place on replaced, and the entries of a record so edited.
use Rattle.std.proofs.Common.{◌≡◌, ℕ, zero, suc, ◌+◌, ◌<◌, ◌≤◌, List, [], ◌∷◌, ◌++◌, take, drop, replicate, map, length}
use Rattle.std.proofs.Common.{Bool, true, false, refl, arith, ap, sym, ◌∙◌, get_or, slice_index_or, inl, inr}
use Rattle.std.specs.Prelude.{Option, None, Some, slice_get, if◌then◌else◌}
use Rattle.std.proofs.lemmas.List.{get_or-map, length-map}
use Rattle.std.proofs.lemmas.Option.{get_or_from_slice_get, slice_get-get_or}
use Rattle.ph_specs.specs.Node.{Flat}
use Rattle.ph_specs.specs.Record.{Read, read_point, read_child, read}
use Rattle.ph_model.specs.NodeSize.{points_in}
use Rattle.ph_model.specs.Layout.{read_kept, unvalued}
use Rattle.ph_linear.proofs.Writing.{no_flat}
use Rattle.ph_linear.proofs.Entries.{no_read, split}
use Rattle.ph_bits.specs.Edits.{flats, edited}

-- ---- one list

length-more : {A : Type 0} (less more : ℕ) (x : A) (xs : List A) → less ≤ length xs → length (replicate more x ++ drop less xs) + less ≡ length xs + more
length-more zero zero x xs l = omega arith
length-more (suc less) zero x [] l = absurd (omega (arith, l))
length-more (suc less) zero x (y ∷ ys) l = omega (arith, length-more less zero x ys (omega (arith, l)))
length-more less (suc more) x xs l = omega (arith, length-more less more x xs l)

pub length-edited : {A : Type 0} (place less more : ℕ) (x : A) (xs : List A) → place + less ≤ length xs → length (edited place less more x xs) + less ≡ length xs + more
length-edited zero less more x xs l = length-more less more x xs (omega (arith, l))
length-edited (suc place) less more x [] l = absurd (omega (arith, l))
length-edited (suc place) less more x (y ∷ ys) l = omega (arith, length-edited place less more x ys (omega (arith, l)))

get-more : {A : Type 0} (less more : ℕ) (x : A) (xs : List A) (k : ℕ) (d : A) → k < more → get_or (replicate more x ++ drop less xs) k d ≡ x
get-more less zero x xs k d l = absurd (omega (arith, l))
get-more less (suc more) x xs zero d l = refl
get-more less (suc more) x xs (suc k) d l = get-more less more x xs k d (omega (arith, l))

get-new : {A : Type 0} (place less more : ℕ) (x : A) (xs : List A) (i : ℕ) (d : A) → place ≤ length xs → place ≤ i →
    i < place + more → get_or (edited place less more x xs) i d ≡ x
get-new zero less more x xs i d m l n = get-more less more x xs i d (omega (arith, n))
get-new (suc place) less more x [] i d m l n = absurd (omega (arith, m))
get-new (suc place) less more x (y ∷ ys) zero d m l n = absurd (omega (arith, l))
get-new (suc place) less more x (y ∷ ys) (suc i) d m l n = get-new place less more x ys i d (omega (arith, m)) (omega (arith, l)) (omega (arith, n))

get-front : {A : Type 0} (place less more : ℕ) (x : A) (xs : List A) (k : ℕ) (d : A) → k < place → k < length xs →
    get_or (edited place less more x xs) k d ≡ get_or xs k d
get-front zero less more x xs k d m l = absurd (omega (arith, m))
get-front (suc place) less more x [] k d m l = absurd (omega (arith, l))
get-front (suc place) less more x (y ∷ ys) zero d m l = refl
get-front (suc place) less more x (y ∷ ys) (suc k) d m l = get-front place less more x ys k d (omega (arith, m)) (omega (arith, l))

get-behind : {A : Type 0} (less more : ℕ) (x : A) (xs : List A) (j k : ℕ) (d : A) → j + less ≡ k + more → less ≤ k →
    k < length xs → get_or (replicate more x ++ drop less xs) j d ≡ get_or xs k d
get-behind zero zero x xs j k d e m l = ap (λ t. get_or xs t d) (omega (arith, e))
get-behind (suc less) zero x [] j k d e m l = absurd (omega (arith, l))
get-behind (suc less) zero x (y ∷ ys) j zero d e m l = absurd (omega (arith, m))
get-behind (suc less) zero x (y ∷ ys) j (suc k) d e m l = get-behind less zero x ys j k d (omega (arith, e)) (omega (arith, m)) (omega (arith, l))
get-behind less (suc more) x xs zero k d e m l = absurd (omega (arith, e, m))
get-behind less (suc more) x xs (suc j) k d e m l = get-behind less more x xs j k d (omega (arith, e)) m l

get-back : {A : Type 0} (place less more : ℕ) (x : A) (xs : List A) (j k : ℕ) (d : A) → j + less ≡ k + more →
    place + less ≤ k → k < length xs → get_or (edited place less more x xs) j d ≡ get_or xs k d
get-back zero less more x xs j k d e m l = get-behind less more x xs j k d e (omega (arith, m)) l
get-back (suc place) less more x [] j k d e m l = absurd (omega (arith, l))
get-back (suc place) less more x (y ∷ ys) j zero d e m l = absurd (omega (arith, m))
get-back (suc place) less more x (y ∷ ys) zero (suc k) d e m l = absurd (omega (arith, e, m))
get-back (suc place) less more x (y ∷ ys) (suc j) (suc k) d e m l = get-back place less more x ys j k d (omega (arith, e)) (omega (arith, m)) (omega (arith, l))

-- ---- entries with their values

pub length-flats : (rs : List Read) (vs : List ℕ) → points_in rs ≡ length vs → length (flats rs vs) ≡ length rs
length-flats [] vs h = refl
length-flats (read_point a b ∷ rs) [] h = absurd (omega (arith, h))
length-flats (read_point a b ∷ rs) (v ∷ vs) h = ap suc (length-flats rs vs (omega (arith, h)))
length-flats (read_child a b ∷ rs) vs h = ap suc (length-flats rs vs h)

flats-read : (rs : List Read) (vs : List ℕ) (k : ℕ) → points_in rs ≡ length vs → k < length rs → unvalued (get_or (flats rs vs) k no_flat) ≡ get_or rs k no_read
flats-read [] vs k h l = absurd (omega (arith, l))
flats-read (read_point a b ∷ rs) [] k h l = absurd (omega (arith, h))
flats-read (read_point a b ∷ rs) (v ∷ vs) zero h l = refl
flats-read (read_point a b ∷ rs) (v ∷ vs) (suc k) h l = flats-read rs vs k (omega (arith, h)) (omega (arith, l))
flats-read (read_child a b ∷ rs) vs zero h l = refl
flats-read (read_child a b ∷ rs) vs (suc k) h l = flats-read rs vs k h (omega (arith, l))

flats-value : (rs : List Read) (vs : List ℕ) (k v : ℕ) → points_in rs ≡ length vs → k < length rs →
    (get_or (flats rs vs) k no_flat).value ≡ Some v → (points_in (take k rs) < length vs) ×
    (slice_index_or vs (points_in (take k rs)) 0 ≡ v)
flats-value [] vs k v h l e = absurd (omega (arith, l))
flats-value (read_point a b ∷ rs) [] k v h l e = absurd (omega (arith, h))
flats-value (read_point a b ∷ rs) (w ∷ vs) zero v h l e = (omega arith, cc)
flats-value (read_point a b ∷ rs) (w ∷ vs) (suc k) v h l e =
    let t = flats-value rs vs k v (omega (arith, h)) (omega (arith, l)) e in (omega (arith, t.0), t.1)
flats-value (read_child a b ∷ rs) vs zero v h l e = cc
flats-value (read_child a b ∷ rs) vs (suc k) v h l e = flats-value rs vs k v h (omega (arith, l)) e

-- an entry with a value is read as a point
is-point : (c : Bool) (a : ℕ) (b : List ℕ) (f : Flat) (v : ℕ) → f.value ≡ Some v → unvalued f ≡ read c a b → c ≡ false
is-point false a b f v e u = refl
is-point true a b f v e u =
    let z : read_point f.addr f.body ≡ read_child a b = ap (λ (w : Option ℕ). read_kept w f.addr f.body) (sym e) ∙ u in cc

-- what an entry to be written is read as, and its value
pub new-reads : (c : Bool) (a v : ℕ) (b : List ℕ) → unvalued (record { addr = a; body = b; value = if c then None else Some v }) ≡ read c a b
new-reads true a v b = refl
new-reads false a v b = refl

pub new-value : (c : Bool) (v w : ℕ) → ◌≡◌ {A = Option ℕ} (if c then None else Some v) (Some w) → v ≡ w
new-value true v w e = cc
new-value false v w e = cc

-- ---- the entries of a record

module _ (rs : List Read) (vs : List ℕ) (place less more : ℕ) (x : Flat) (h : points_in rs ≡ length vs) (m : place + less ≤ length rs) where
  abbrev new_list : List Flat
  new_list = edited place less more x (flats rs vs)

  pub many : length (edited place less more x (flats rs vs)) + less ≡ length rs + more
  many = omega (arith, length-edited place less more x (flats rs vs) (omega (arith, m, length-flats rs vs h)), length-flats rs vs h)

  -- an entry that was there
  pub kept : (i k : ℕ) → (place ≤ i → place + more ≤ i) → (i < place → k ≡ i) → (place ≤ i → k + more ≡ i + less) → i < length (edited place less more x (flats rs vs))
      → (k < length rs) × (get_or (edited place less more x (flats rs vs)) i no_flat ≡ get_or (flats rs vs) k no_flat)
  kept i k n f b l =
      elim (split i place) [
        | inl p ↦
            let e : k ≡ i = f p in (
              omega (arith, e, p, m),
              get-front place less more x (flats rs vs) i no_flat p
                  (omega (arith, p, m, length-flats rs vs h)) ∙ ap (λ t. get_or (flats rs vs) t no_flat) (sym e),
            )
        | inr p ↦
            let e : k + more ≡ i + less = b p in
            let q : place + more ≤ i = n p in (
              omega (arith, e, l, many),
              get-back place less more x (flats rs vs) i k no_flat (omega (arith, e))
                  (omega (arith, e, q)) (omega (arith, e, l, many, length-flats rs vs h)),
            )
      ]

  pub read-new : (i : ℕ) (r : Read) → place ≤ i → i < place + more →
      i < length (edited place less more x (flats rs vs)) → unvalued x ≡ r →
      slice_get (map unvalued (edited place less more x (flats rs vs))) i ≡ Some r
  read-new i r p q l u =
      slice_get-get_or (map unvalued new_list) i no_read (omega (arith, length-map new_list unvalued, l))
      ∙ ap Some (get_or-map unvalued new_list i no_flat no_read l
      ∙ ap unvalued (get-new place less more x (flats rs vs) i no_flat (omega (arith, m, length-flats rs vs h)) p q) ∙ u)

  pub read-old : (i k : ℕ) (r : Read) → (place ≤ i → place + more ≤ i) → (i < place → k ≡ i) →
      (place ≤ i → k + more ≡ i + less) → i < length (edited place less more x (flats rs vs)) →
      slice_get rs k ≡ Some r → slice_get (map unvalued (edited place less more x (flats rs vs))) i ≡ Some r
  read-old i k r n f b l e =
      let q : (k < length rs) × (get_or new_list i no_flat ≡ get_or (flats rs vs) k no_flat) = kept i k n f b l in
      slice_get-get_or (map unvalued new_list) i no_read (omega (arith, length-map new_list unvalued, l))
      ∙ ap Some (get_or-map unvalued new_list i no_flat no_read l ∙ ap unvalued q.1 ∙ flats-read rs vs k h q.0 ∙ get_or_from_slice_get rs k r no_read e)

  value-at : (i v : ℕ) → i < length (edited place less more x (flats rs vs)) →
      slice_get (map (λ e. e.value) (edited place less more x (flats rs vs))) i ≡ Some (Some v) →
      (get_or (edited place less more x (flats rs vs)) i no_flat).value ≡ Some v
  value-at i v l g = sym (get_or-map (λ e. e.value) new_list i no_flat None l) ∙ get_or_from_slice_get (map (λ e. e.value) new_list) i (Some v) None g

  pub value-new : (i v : ℕ) → place ≤ i → i < place + more → i < length (edited place less more x (flats rs vs)) →
      slice_get (map (λ e. e.value) (edited place less more x (flats rs vs))) i ≡ Some (Some v) → x.value ≡ Some v
  value-new i v p q l g =
      ap (λ (t : Flat). t.value) (sym (get-new place less more x (flats rs vs) i no_flat (omega (arith, m, length-flats rs vs h)) p q)) ∙ value-at i v l g

  -- where an entry with a value stood, and how it is read
  pub value-old : (i k v a : ℕ) (b : List ℕ) (c : Bool) → (place ≤ i → place + more ≤ i) → (i < place → k ≡ i) →
      (place ≤ i → k + more ≡ i + less) → i < length (edited place less more x (flats rs vs)) →
      slice_get (map (λ e. e.value) (edited place less more x (flats rs vs))) i ≡ Some (Some v)
      → slice_get rs k ≡ Some (read c a b) → (c ≡ false) × (points_in (take k rs) < length vs) × (slice_index_or vs (points_in (take k rs)) 0 ≡ v)
  value-old i k v a b c n f u l g r =
      let q : (k < length rs) × (get_or new_list i no_flat ≡ get_or (flats rs vs) k no_flat) = kept i k n f u l in
      let e : (get_or (flats rs vs) k no_flat).value ≡ Some v = ap (λ (t : Flat). t.value) (sym q.1) ∙ value-at i v l g in
      let t = flats-value rs vs k v h q.0 e in
      (is-point c a b (get_or (flats rs vs) k no_flat) v e (flats-read rs vs k h q.0 ∙ get_or_from_slice_get rs k (read c a b) no_read r), t.0, t.1)
