-- Entries with one edit, in parts, and the columns and values of parts.
use Rattle.std.proofs.Common.{◌≡◌, ℕ, zero, suc, ◌+◌, ◌*◌, ◌≤◌, refl, sym, ◌∙◌, ap, arith, List, [], ◌∷◌, ◌++◌, length, take, drop, replicate}
use Rattle.std.specs.Prelude.{Option, Some, None}
use Rattle.std.specs.List.{AllByRecursion as Each}
use Rattle.std.proofs.lemmas.List.{append_assoc, drop-drop, take-append-drop}
use Rattle.ph_specs.specs.Digits.{digits_of}
use Rattle.ph_specs.specs.Node.{Flat}
use Rattle.ph_model.specs.NodeSize.{points_in}
use Rattle.ph_specs.specs.Pack.{bodies, body_fields, values, value_in_front}
use Rattle.ph_specs.specs.Record.{Read, read_point, read_child}
use Rattle.ph_model.proofs.lemmas.Columns.{digits_of-append}
use Rattle.ph_model.proofs.lemmas.Counted.{spots}
use Rattle.ph_bits.specs.Edits.{edited, flats}
use Rattle.ph_linear.specs.Written.{kind_fields, address_fields, body_list}

-- ---- parts

pub edited-parts : {A : Type 0} (place less more : ℕ) (x : A) (xs : List A) → place ≤ length xs →
    edited place less more x xs ≡ take place xs ++ (replicate more x ++ drop (place + less) xs)
edited-parts zero less more x xs l =
    let e : less ≡ 0 + less = omega arith in ap (λ t. replicate more x ++ drop t xs) e
edited-parts (suc place) less more x [] l = absurd (omega (arith, l))
edited-parts {A = A} (suc place) less more x (y ∷ ys) l =
    let e : suc (place + less) ≡ suc place + less = omega arith in
    ap {B = List A} (λ t. y ∷ t) (edited-parts place less more x ys (omega (arith, l)))
    ∙ ap (λ t. y ∷ take place ys ++ (replicate more x ++ drop t (y ∷ ys))) e

pub whole-parts : {A : Type 0} (place less : ℕ) (xs : List A) → xs ≡ take place xs ++ (take less (drop place xs) ++ drop (place + less) xs)
whole-parts place less xs =
    sym
    (ap (λ t. take place xs ++ (take less (drop place xs) ++ t)) (sym (drop-drop less place xs))
    ∙ ap (λ t. take place xs ++ t) (take-append-drop less (drop place xs))
    ∙ take-append-drop place xs)

-- ---- columns of parts

pub bodies-append : (level : ℕ) (xs ys : List (List ℕ)) → bodies level (xs ++ ys) ≡ bodies level xs ++ bodies level ys
bodies-append level [] ys = refl
bodies-append level (x ∷ xs) ys =
    ap (λ t. body_fields level x ++ t) (bodies-append level xs ys) ∙ sym (append_assoc (body_fields level x) (bodies level xs) (bodies level ys))

pub digits-kinds : (es : List Flat) → digits_of (kind_fields es) ≡ length es * 1
digits-kinds [] = refl
digits-kinds (e ∷ es) = omega (arith, digits-kinds es)

pub digits-addresses : (dims : ℕ) (es : List Flat) → digits_of (address_fields dims es) ≡ length es * dims
digits-addresses dims [] = omega arith
digits-addresses dims (e ∷ es) = omega (arith, digits-addresses dims es)

digits-body : (level : ℕ) (b : List ℕ) → digits_of (body_fields level b) ≡ length b * level
digits-body level [] = omega arith
digits-body level (x ∷ b) = omega (arith, digits-body level b)

pub digits-bodies : (dims level : ℕ) (es : List Flat) → Each (λ (e : Flat). length e.body ≡ dims) es →
    digits_of (bodies level (body_list es)) ≡ length es * (dims * level)
digits-bodies dims level [] h = omega arith
digits-bodies dims level (e ∷ es) h =
    let b : digits_of (body_fields level e.body) ≡ dims * level = digits-body level e.body ∙ ap (λ t. t * level) h.0 in
    omega (arith, digits_of-append (body_fields level e.body) (bodies level (body_list es)), b, digits-bodies dims level es h.1)

pub each-take : {A : Type 0} (P : A → Type 0) (n : ℕ) (xs : List A) → Each P xs → Each P (take n xs)
each-take P zero xs h = tt
each-take P (suc n) [] h = tt
each-take P (suc n) (x ∷ xs) h = (h.0, each-take P n xs h.1)

pub each-drop : (P : Flat → Type 0) (n : ℕ) (xs : List Flat) → Each P xs → Each P (drop n xs)
each-drop P zero xs h = h
each-drop P (suc n) [] h = h
each-drop P (suc n) (x ∷ xs) h = each-drop P n xs h.1

-- ---- values of parts

pub values-append : (xs ys : List Flat) → values (xs ++ ys) ≡ values xs ++ values ys
values-append [] ys = refl
values-append (x ∷ xs) ys = front x.value (values-append xs ys)
  where
    front : (w : Option ℕ) → values (xs ++ ys) ≡ values xs ++ values ys → value_in_front w (values (xs ++ ys)) ≡ value_in_front w (values xs) ++ values ys
    front (Some v) h = ap {B = List ℕ} (λ t. v ∷ t) h
    front None h = h

-- the values of the first entries are the first values, as many as there are points among them
pub values-front : (rs : List Read) (vs : List ℕ) (i : ℕ) → spots rs ≡ length vs → values (take i (flats rs vs)) ≡ take (points_in (take i rs)) vs
values-front rs vs zero h = refl
values-front [] vs (suc i) h = refl
values-front (read_point a b ∷ rs) [] (suc i) h = absurd (omega (arith, h))
values-front (read_point a b ∷ rs) (v ∷ vs) (suc i) h = ap {B = List ℕ} (λ t. v ∷ t) (values-front rs vs i (omega (arith, h)))
values-front (read_child a b ∷ rs) vs (suc i) h = values-front rs vs i h

pub values-back : (rs : List Read) (vs : List ℕ) (i : ℕ) → spots rs ≡ length vs → values (drop i (flats rs vs)) ≡ drop (points_in (take i rs)) vs
values-back [] [] zero h = refl
values-back [] (v ∷ vs) zero h = absurd (omega (arith, h))
values-back (read_point a b ∷ rs) [] zero h = absurd (omega (arith, h))
values-back (read_point a b ∷ rs) (v ∷ vs) zero h = ap {B = List ℕ} (λ t. v ∷ t) (values-back rs vs zero (omega (arith, h)))
values-back (read_child a b ∷ rs) vs zero h = values-back rs vs zero h
values-back [] [] (suc i) h = refl
values-back [] (v ∷ vs) (suc i) h = absurd (omega (arith, h))
values-back (read_point a b ∷ rs) [] (suc i) h = absurd (omega (arith, h))
values-back (read_point a b ∷ rs) (v ∷ vs) (suc i) h = values-back rs vs i (omega (arith, h))
values-back (read_child a b ∷ rs) vs (suc i) h = values-back rs vs i h

pub points-low : (rs : List Read) (i : ℕ) → points_in (take i rs) ≤ spots rs
points-low rs zero = omega arith
points-low [] (suc i) = omega arith
points-low (read_point a b ∷ rs) (suc i) = omega (arith, points-low rs i)
points-low (read_child a b ∷ rs) (suc i) = points-low rs i
