-- The numbers that the kinds and the bodies of the addresses make, a run of addresses without an entry at a time.
use Rattle.std.proofs.Common.{◌≡◌, ℕ, zero, suc, ◌+◌, ◌-◌, ◌*◌, ◌^◌, ◌<◌, ◌≤◌, refl, sym, ◌∙◌, ap, arith, List, [], ◌∷◌, ◌++◌, map, take, replicate}
use Rattle.std.specs.Prelude.{Option, Some, None}
use Rattle.std.specs.List.{AllByRecursion as Each}
use Rattle.std.proofs.lemmas.Nat.{pow_pos, pow-add}
use Rattle.std.proofs.lemmas.List.{map-append}
use Rattle.ph_specs.specs.Node.{Flat}
use Rattle.ph_specs.specs.Digits.{number_after}
use Rattle.ph_specs.specs.Pack.{bodies, body_fields, places, at_address, place_kind, place_body, cube_table}
use Rattle.ph_model.proofs.lemmas.Columns.{number_after-append}
use Rattle.ph_cube.proofs.Standing.{IsAbsent}

-- what stands at an address: its kind as a number
abbrev pub kind_number : Option Flat → ℕ
kind_number o = (place_kind o).number

-- ---- kinds

-- the places of one address more
places-more : (n a : ℕ) (es : List Flat) → places (n + 1) a es ≡ places n a es ++ at_address (a + n) es ∷ []
places-more zero a es = let z : a ≡ a + 0 = omega arith in ap {B = List (Option Flat)} (λ t. at_address t es ∷ []) z
places-more (suc n) a es =
    let k : suc n + 1 ≡ suc (n + 1) = omega arith in
    let z : a + 1 + n ≡ a + suc n = omega arith in
    ap (λ t. places t a es) k
    ∙ ap {B = List (Option Flat)} (λ t. at_address a es ∷ t) (places-more n (a + 1) es)
    ∙ ap {B = List (Option Flat)} (λ t. at_address a es ∷ (places n (a + 1) es ++ at_address t es ∷ [])) z

-- the number that the kinds of the first addresses make behind r
abbrev pub kinds_to : ℕ → ℕ → List Flat → ℕ
kinds_to r n es = number_after r (map place_kind (places n 0 es))

kinds-more : (r n : ℕ) (es : List Flat) → kinds_to r (n + 1) es ≡ kinds_to r n es * 2 ^ 2 + kind_number (at_address n es)
kinds-more r n es =
    let z : 0 + n ≡ n = omega arith in
    ap (λ t. number_after r (map place_kind t)) (places-more n 0 es)
    ∙ ap (number_after r) (map-append place_kind (places n 0 es) (at_address (0 + n) es ∷ []))
    ∙ number_after-append r (map place_kind (places n 0 es)) _
    ∙ by (at_address (0 + n) es) (number_after r (map place_kind (places n 0 es)))
    ∙ ap (λ t. number_after r (map place_kind (places n 0 es)) * 2 ^ 2 + kind_number (at_address t es)) z
  where
    by : (o : Option Flat) (s : ℕ) → number_after s (map place_kind (o ∷ [])) ≡ s * 2 ^ 2 + kind_number o
    by None s = refl
    by (Some e) s = refl

-- zeros for addresses without an entry: k runs of w digits
run-more : (x w k : ℕ) → x * 2 ^ (w * k) * 2 ^ w ≡ x * 2 ^ (w * suc k)
run-more x w k =
    let q : w * k + w ≡ w * suc k = omega arith in
    regroup x (2 ^ (w * k)) (2 ^ w) ∙ ap (λ t. x * t) (sym (pow-add 2 (w * k) w) ∙ ap (λ t. 2 ^ t) q)
  where
    regroup : (x a b : ℕ) → x * a * b ≡ x * (a * b)
    regroup x a b = omega arith

kinds-skip : (r n k : ℕ) (es : List Flat) → IsAbsent es n (n + k) → kinds_to r (n + k) es ≡ kinds_to r n es * 2 ^ (2 * k)
kinds-skip r n zero es h =
    let z : n + 0 ≡ n = omega arith in
    ap (λ t. number_after r (map place_kind (places t 0 es))) z ∙ one (number_after r (map place_kind (places n 0 es)))
  where
    one : (x : ℕ) → x ≡ x * 2 ^ (2 * 0)
    one x = omega arith
kinds-skip r n (suc k) es h =
    let z : n + suc k ≡ n + k + 1 = omega arith in
    ap (λ t. number_after r (map place_kind (places t 0 es))) z
    ∙ kinds-more r (n + k) es
    ∙ ap (λ t. number_after r (map place_kind (places (n + k) 0 es)) * 2 ^ 2 + kind_number t) (h (n + k) (omega arith) (omega arith))
    ∙ zero-kind (number_after r (map place_kind (places (n + k) 0 es)))
    ∙ ap (λ t. t * 2 ^ 2) (kinds-skip r n k es (λ a l m. h a l (omega (arith, m))))
    ∙ run-more (number_after r (map place_kind (places n 0 es))) 2 k
  where
    zero-kind : (x : ℕ) → x * 2 ^ 2 + 0 ≡ x * 2 ^ 2
    zero-kind x = omega arith

pub kinds-run : (r n m : ℕ) (es : List Flat) → n ≤ m → IsAbsent es n m → kinds_to r n es * 2 ^ (2 * (m - n)) ≡ kinds_to r m es
kinds-run r n m es l h =
    let z : n + (m - n) ≡ m = omega (arith, l) in
    sym (kinds-skip r n (m - n) es (λ a b c. h a b (omega (arith, c, z)))) ∙ ap (λ t. number_after r (map place_kind (places t 0 es))) z

-- zeros up to the next entry, and then its kind
pub kinds-next : (r n m k : ℕ) (es : List Flat) → n ≤ m → IsAbsent es n m → k ≡ kind_number (at_address m es) →
    kinds_to r n es * 2 ^ (2 * (m - n)) * 2 ^ 2 + k ≡ kinds_to r (m + 1) es
kinds-next r n m k es l h e =
    ap (λ t. t * 2 ^ 2 + k) (kinds-run r n m es l h)
    ∙ ap (λ t. number_after r (map place_kind (places m 0 es)) * 2 ^ 2 + t) e
    ∙ sym (kinds-more r m es)

-- ---- bodies

-- the number that the bodies of the first addresses make behind r
abbrev pub bodies_to : ℕ → ℕ → ℕ → ℕ → List Flat → ℕ
bodies_to dims level r n es = number_after r (bodies level (map (place_body dims) (places n 0 es)))

bodies-last : (level r : ℕ) (bs : List (List ℕ)) (b : List ℕ) →
    number_after r (bodies level (bs ++ b ∷ [])) ≡ number_after (number_after r (bodies level bs)) (body_fields level b)
bodies-last level r [] b = number_after-append r (body_fields level b) []
bodies-last level r (x ∷ bs) b =
    number_after-append r (body_fields level x) (bodies level (bs ++ b ∷ []))
    ∙ bodies-last level (number_after r (body_fields level x)) bs b
    ∙ ap (λ t. number_after t (body_fields level b)) (sym (number_after-append r (body_fields level x) (bodies level bs)))

bodies-more : (dims level r n : ℕ) (es : List Flat) →
    bodies_to dims level r (n + 1) es ≡ number_after (bodies_to dims level r n es) (body_fields level (place_body dims (at_address n es)))
bodies-more dims level r n es =
    let z : 0 + n ≡ n = omega arith in
    ap (λ t. number_after r (bodies level (map (place_body dims) t))) (places-more n 0 es)
    ∙ ap (λ t. number_after r (bodies level t)) (map-append (place_body dims) (places n 0 es) (at_address (0 + n) es ∷ []))
    ∙ bodies-last level r (map (place_body dims) (places n 0 es)) (place_body dims (at_address (0 + n) es))
    ∙ ap (λ t. number_after (number_after r (bodies level (map (place_body dims) (places n 0 es)))) (body_fields level (place_body dims (at_address t es)))) z

-- a body of zeros
zero-body : (x level dims : ℕ) → number_after x (body_fields level (replicate dims 0)) ≡ x * 2 ^ (level * dims)
zero-body x level zero = let z : 0 ≡ level * 0 = omega arith in one x ∙ ap (λ t. x * 2 ^ t) z
  where
    one : (x : ℕ) → x ≡ x * 2 ^ 0
    one x = omega arith
zero-body x level (suc dims) =
    zero-body (x * 2 ^ level + 0) level dims ∙ turn x (2 ^ level) (2 ^ (level * dims)) ∙ run-more x level dims
  where
    turn : (x a b : ℕ) → (x * a + 0) * b ≡ x * b * a
    turn x a b = omega arith

bodies-skip : (dims level r n k : ℕ) (es : List Flat) → IsAbsent es n (n + k) →
    bodies_to dims level r (n + k) es ≡ bodies_to dims level r n es * 2 ^ (dims * level * k)
bodies-skip dims level r n zero es h =
    let z : n + 0 ≡ n = omega arith in
    let y : 0 ≡ dims * level * 0 = omega arith in
    ap (λ t. number_after r (bodies level (map (place_body dims) (places t 0 es)))) z
    ∙ one (number_after r (bodies level (map (place_body dims) (places n 0 es))))
    ∙ ap (λ t. number_after r (bodies level (map (place_body dims) (places n 0 es))) * 2 ^ t) y
  where
    one : (x : ℕ) → x ≡ x * 2 ^ 0
    one x = omega arith
bodies-skip dims level r n (suc k) es h =
    let z : n + suc k ≡ n + k + 1 = omega arith in
    let w : level * dims ≡ dims * level = omega arith in
    ap (λ t. number_after r (bodies level (map (place_body dims) (places t 0 es)))) z
    ∙ bodies-more dims level r (n + k) es
    ∙ ap (λ t. number_after (number_after r (bodies level (map (place_body dims) (places (n + k) 0 es)))) (body_fields level (place_body dims t)))
    (h (n + k) (omega arith) (omega arith))
    ∙ zero-body (number_after r (bodies level (map (place_body dims) (places (n + k) 0 es)))) level dims
    ∙ ap (λ t. number_after r (bodies level (map (place_body dims) (places (n + k) 0 es))) * 2 ^ t) w
    ∙ ap (λ t. t * 2 ^ (dims * level)) (bodies-skip dims level r n k es (λ a l m. h a l (omega (arith, m))))
    ∙ run-more (number_after r (bodies level (map (place_body dims) (places n 0 es)))) (dims * level) k

pub bodies-run : (dims level r n m : ℕ) (es : List Flat) → n ≤ m → IsAbsent es n m →
    bodies_to dims level r n es * 2 ^ (dims * level * (m - n)) ≡ bodies_to dims level r m es
bodies-run dims level r n m es l h =
    let z : n + (m - n) ≡ m = omega (arith, l) in
    sym (bodies-skip dims level r n (m - n) es (λ a b c. h a b (omega (arith, c, z))))
    ∙ ap (λ t. number_after r (bodies level (map (place_body dims) (places t 0 es)))) z

-- zeros up to the next entry, and then its body
pub bodies-next : (dims level r n m : ℕ) (body : List ℕ) (es : List Flat) → n ≤ m → IsAbsent es n m → place_body dims (at_address m es) ≡ body →
    number_after (bodies_to dims level r n es * 2 ^ (dims * level * (m - n))) (body_fields level body) ≡ bodies_to dims level r (m + 1) es
bodies-next dims level r n m body es l h e =
    ap (λ t. number_after t (body_fields level body)) (bodies-run dims level r n m es l h)
    ∙ ap (λ t. number_after (number_after r (bodies level (map (place_body dims) (places m 0 es)))) (body_fields level t)) (sym e)
    ∙ sym (bodies-more dims level r m es)

-- ---- digits

-- those of bodies up to m, where those up to n were x
pub run-digits : (r x c dims level n m : ℕ) → c ≡ dims → n ≤ m → x ≡ r + n * (dims * level) → x + c * level * (m - n) ≡ r + m * (dims * level)
run-digits r x c dims level n m e l p =
    let z : n + (m - n) ≡ m = omega (arith, l) in
    ap (λ t. x + t * level * (m - n)) e
    ∙ ap (λ t. t + dims * level * (m - n)) p
    ∙ sum r n (dims * level) (m - n)
    ∙ ap (λ t. r + t * (dims * level)) z
  where
    sum : (r n w k : ℕ) → r + n * w + w * k ≡ r + (n + k) * w
    sum r n w k = omega arith

-- ---- zeros

pub zeros-front : (n m : ℕ) → n ≤ m → take {A = ℕ} n (replicate {A = ℕ} m 0) ≡ replicate n 0
zeros-front zero m l = refl
zeros-front (suc n) zero l = elim l [ ]
zeros-front (suc n) (suc m) l = ap {B = List ℕ} (λ t. 0 ∷ t) (zeros-front n m (omega (arith, l)))

pub zeros-fit : (level n : ℕ) → Each (λ v. v < 2 ^ level) (replicate n 0)
zeros-fit level zero = tt
zeros-fit level (suc n) = (pow_pos level, zeros-fit level n)

-- ---- the whole

pub table-number : (dims level x : ℕ) (es : List Flat) →
    number_after (number_after x (map place_kind (places (2 ^ dims) 0 es)))
    (bodies level (map (place_body dims) (places (2 ^ dims) 0 es))) ≡ number_after x (cube_table dims level es)
table-number dims level x es =
    sym (number_after-append x (map place_kind (places (2 ^ dims) 0 es)) (bodies level (map (place_body dims) (places (2 ^ dims) 0 es))))
