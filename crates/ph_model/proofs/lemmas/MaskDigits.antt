-- Masks and addresses by their digits.
use Rattle.std.proofs.Common.{◌≡◌, ℕ, zero, suc, ◌+◌, ◌-◌, ◌*◌, ◌/◌, ◌%◌, ◌^◌, ◌<◌, ◌≤◌, ◌⊎◌, inl, inr, refl, sym, ◌∙◌, ap, arith, List, [], ◌∷◌, length}
use Rattle.std.proofs.Common.{map, max, min, cond, Bool, true, false, leb-true, leb-false, eq-eqb, eqb-true, get_or, drop, bit_and, bit_or}
use Rattle.std.specs.Prelude.{ℤ, nat_le, ◌==◌}
use Rattle.std.specs.List.{AllByRecursion as Each}
use Rattle.std.proofs.lemmas.Nat.{pow_pos, div-add-mod', and_block, or_block}
use Rattle.std.proofs.Math.Nat.{mod-lt, mod-eq_of_lt}
use Rattle.ph_specs.specs.Coordinate.{offset}
use Rattle.ph_specs.specs.ZOrder.{address}
use Rattle.ph_model.specs.Masks.{mask_from, fits_masks}
use Rattle.ph_specs.proofs.lemmas.Places.{pow-next, div-pow-add, digit-in-front}
use Rattle.ph_model.proofs.lemmas.Joined.{offsets, from_place, number_at, address_from-is}
use Rattle.ph_model.proofs.lemmas.Bounds.{Below, lows, highs, zipped, maxes, div-block}
use Rattle.ph_specs.proofs.lemmas.Tests.{and-parts, and-made}

-- ---- numbers by their digits, the most significant first

abbrev pub number_by : ℕ → List ℕ → ℕ
number_by s [] = s
number_by s (d ∷ ds) = number_by (s * 2 + d) ds

abbrev pub IsBits : List ℕ → Type 0
IsBits ds = Each (λ d. d < 2) ds

abbrev pub digits_at : ℕ → List ℕ → List ℕ
digits_at l ys = map (λ y. y / 2 ^ l % 2) ys

pub digits_at-bits : (l : ℕ) (ys : List ℕ) → IsBits (digits_at l ys)
digits_at-bits l [] = tt
digits_at-bits l (y ∷ ys) = (mod-lt (y / 2 ^ l) (omega arith), digits_at-bits l ys)

pub number_at-by : (s l : ℕ) (ys : List ℕ) → number_at s l ys ≡ number_by s (digits_at l ys)
number_at-by s l [] = refl
number_at-by s l (y ∷ ys) = number_at-by (s * 2 + y / 2 ^ l % 2) l ys

pub address-by : (w l : ℕ) (p : List ℤ) → address w p l ≡ number_by 0 (digits_at l (offsets w p))
address-by w l p = address_from-is w 0 l p ∙ number_at-by 0 l (offsets w p)

-- the digits of a number
abbrev pub digit_list : ℕ → ℕ → List ℕ
digit_list h zero = []
digit_list h (suc n) = h / 2 ^ n % 2 ∷ digit_list h n

pub digit_list-long : (h n : ℕ) → length (digit_list h n) ≡ n
digit_list-long h zero = refl
digit_list-long h (suc n) = ap suc (digit_list-long h n)

pub digit_list-bits : (h n : ℕ) → IsBits (digit_list h n)
digit_list-bits h zero = tt
digit_list-bits h (suc n) = (mod-lt (h / 2 ^ n) (omega arith), digit_list-bits h n)

number_by-list : (s h n : ℕ) → number_by s (digit_list h n) ≡ s * 2 ^ n + h % 2 ^ n
number_by-list s h zero =
    let e : h % 1 ≡ 0 = omega (arith, mod-lt h {m = 1} (omega arith)) in omega (arith, e)
number_by-list s h (suc n) =
    let c : n + 1 ≡ suc n = omega arith in
    number_by-list (s * 2 + h / 2 ^ n % 2) h n ∙ digit-in-front s h n ∙ ap (λ t. s * 2 ^ t + h % 2 ^ t) c

pub digits-number : (h n : ℕ) → h < 2 ^ n → number_by 0 (digit_list h n) ≡ h
digits-number h n l =
    let e : number_by 0 (digit_list h n) ≡ 0 * 2 ^ n + h % 2 ^ n = number_by-list 0 h n in
    let f : h % 2 ^ n ≡ h = mod-eq_of_lt l in
    omega (arith, e, f)

-- as many digits of one number are the same digits
pub same-digits : (s t : ℕ) (ds es : List ℕ) → length ds ≡ length es → IsBits ds → IsBits es → number_by s ds ≡ number_by t es → (s ≡ t) × (ds ≡ es)
same-digits s t [] [] n h k e = (e, refl)
same-digits s t [] (y ∷ es) n h k e = absurd (omega (arith, n))
same-digits s t (x ∷ ds) [] n h k e = absurd (omega (arith, n))
same-digits s t (x ∷ ds) (y ∷ es) n h k e =
    let ih : (s * 2 + x ≡ t * 2 + y) × (ds ≡ es) = same-digits (s * 2 + x) (t * 2 + y) ds es (omega (arith, n)) h.1 k.1 e in
    let a : x ≡ y = omega (arith, ih.0, h.0, k.0) in
    (omega (arith, ih.0, a), ap (λ z. z ∷ ds) a ∙ ap {B = List ℕ} (λ z. y ∷ z) ih.1)

-- ---- bitwise or, and

abbrev pub mins : List ℕ → List ℕ → List ℕ
mins xs ys = zipped min xs ys

-- two functions of digits are the same if they are at all four pairs
by-bits : (f g : ℕ → ℕ → ℕ) → f 0 0 ≡ g 0 0 → f 0 1 ≡ g 0 1 → f 1 0 ≡ g 1 0 → f 1 1 ≡ g 1 1 → (d e : ℕ) → d < 2 → e < 2 → f d e ≡ g d e
by-bits f g a b c z zero zero h k = a
by-bits f g a b c z zero (suc zero) h k = b
by-bits f g a b c z zero (suc (suc e)) h k = absurd (omega arith)
by-bits f g a b c z (suc zero) zero h k = c
by-bits f g a b c z (suc zero) (suc zero) h k = z
by-bits f g a b c z (suc zero) (suc (suc e)) h k = absurd (omega arith)
by-bits f g a b c z (suc (suc d)) e h k = absurd (omega arith)

pub or-next : (s t d e : ℕ) → d < 2 → e < 2 → bit_or (s * 2 + d) (t * 2 + e) ≡ bit_or s t * 2 + max d e
or-next s t d e h k =
    let b : bit_or (s * 2 + d) (t * 2 + e) ≡ bit_or s t * 2 + bit_or d e = or_block 1 s t d e h k in
    b ∙ ap (λ z. bit_or s t * 2 + z) (by-bits bit_or max refl refl refl refl d e h k)

pub and-next : (s t d e : ℕ) → d < 2 → e < 2 → bit_and (s * 2 + d) (t * 2 + e) ≡ bit_and s t * 2 + min d e
and-next s t d e h k =
    let b : bit_and (s * 2 + d) (t * 2 + e) ≡ bit_and s t * 2 + bit_and d e = and_block 1 s t d e h k in
    b ∙ ap (λ z. bit_and s t * 2 + z) (by-bits bit_and min refl refl refl refl d e h k)

-- ---- digits pair by pair

zipped-digits : (bit op : ℕ → ℕ → ℕ) → ((s t d e : ℕ) → d < 2 → e < 2 → bit (s * 2 + d) (t * 2 + e) ≡ bit s t * 2 + op d e) →
    (s t : ℕ) (ds es : List ℕ) → length ds ≡ length es → IsBits ds → IsBits es →
    bit (number_by s ds) (number_by t es) ≡ number_by (bit s t) (zipped op ds es)
zipped-digits bit op next s t [] [] n h k = refl
zipped-digits bit op next s t [] (y ∷ es) n h k = absurd (omega (arith, n))
zipped-digits bit op next s t (x ∷ ds) [] n h k = absurd (omega (arith, n))
zipped-digits bit op next s t (x ∷ ds) (y ∷ es) n h k =
    zipped-digits bit op next (s * 2 + x) (t * 2 + y) ds es (omega (arith, n)) h.1 k.1 ∙ ap (λ z. number_by z (zipped op ds es)) (next s t x y h.0 k.0)

zipped-bits : (op : ℕ → ℕ → ℕ) → ((d e : ℕ) → d < 2 → e < 2 → op d e < 2) → (ds es : List ℕ) → IsBits ds → IsBits es → IsBits (zipped op ds es)
zipped-bits op bit [] es h k = tt
zipped-bits op bit (d ∷ ds) [] h k = tt
zipped-bits op bit (d ∷ ds) (e ∷ es) h k = (bit d e h.0 k.0, zipped-bits op bit ds es h.1 k.1)

zipped-long : (op : ℕ → ℕ → ℕ) (ds es : List ℕ) → length ds ≡ length es → length (zipped op ds es) ≡ length ds
zipped-long op [] es n = refl
zipped-long op (d ∷ ds) [] n = absurd (omega (arith, n))
zipped-long op (d ∷ ds) (e ∷ es) n = ap suc (zipped-long op ds es (omega (arith, n)))

-- each digit between those of the masks
abbrev pub Fitting : List ℕ → List ℕ → List ℕ → Type 0
Fitting [] [] [] = Unit {0}
Fitting (d ∷ ds) (l ∷ ls) (u ∷ us) = (l ≤ d) × (d ≤ u) × Fitting ds ls us
Fitting _ _ _ = ⊥

-- what is so of no digits, and with one digit more that is between those of the masks, is so of all such digits
pub fitting-all : (P : List ℕ → List ℕ → List ℕ → Type 0) → P [] [] [] →
    ((d l u : ℕ) (ds ls us : List ℕ) → l ≤ d → d ≤ u → P ds ls us → P (d ∷ ds) (l ∷ ls) (u ∷ us)) →
    (ds ls us : List ℕ) → Fitting ds ls us → P ds ls us
fitting-all P none more [] [] [] h = none
fitting-all P none more [] [] (u ∷ us) h = absurd h
fitting-all P none more [] (l ∷ ls) us h = absurd h
fitting-all P none more (d ∷ ds) [] us h = absurd h
fitting-all P none more (d ∷ ds) (l ∷ ls) [] h = absurd h
fitting-all P none more (d ∷ ds) (l ∷ ls) (u ∷ us) h = more d l u ds ls us h.0 h.1 (fitting-all P none more ds ls us h.2)

fitting-same : (ds ls us : List ℕ) → Fitting ds ls us → (maxes ds ls ≡ ds) × (mins ds us ≡ ds)
fitting-same = fitting-all (λ ds ls us. (maxes ds ls ≡ ds) × (mins ds us ≡ ds)) (refl, refl) more
  where
    more : (d l u : ℕ) (ds ls us : List ℕ) → l ≤ d → d ≤ u → (maxes ds ls ≡ ds) × (mins ds us ≡ ds) →
        (maxes (d ∷ ds) (l ∷ ls) ≡ d ∷ ds) × (mins (d ∷ ds) (u ∷ us) ≡ d ∷ ds)
    more d l u ds ls us low high rest =
        let p : max d l ≡ d = omega (arith, low) in
        let q : min d u ≡ d = omega (arith, high) in (
          ap (λ z. z ∷ maxes ds ls) p ∙ ap {B = List ℕ} (λ z. d ∷ z) rest.0,
          ap (λ z. z ∷ mins ds us) q ∙ ap {B = List ℕ} (λ z. d ∷ z) rest.1,
        )

same-fitting : (ds ls us : List ℕ) → length ds ≡ length ls → length ds ≡ length us → maxes ds ls ≡ ds → mins ds us ≡ ds → Fitting ds ls us
same-fitting [] [] [] n m e f = tt
same-fitting [] [] (u ∷ us) n m e f = absurd (omega (arith, m))
same-fitting [] (l ∷ ls) us n m e f = absurd (omega (arith, n))
same-fitting (d ∷ ds) [] us n m e f = absurd (omega (arith, n))
same-fitting (d ∷ ds) (l ∷ ls) [] n m e f = absurd (omega (arith, m))
same-fitting (d ∷ ds) (l ∷ ls) (u ∷ us) n m e f =
    let a : max d l ≡ d = ap (λ r. get_or r 0 0) e in
    let b : min d u ≡ d = ap (λ r. get_or r 0 0) f in
    (omega (arith, a), omega (arith, b), same-fitting ds ls us (omega (arith, n)) (omega (arith, m)) (ap (drop 1) e) (ap (drop 1) f))

-- a number fits the masks exactly where each of its digits does
pub fitting-fits : (ds ls us : List ℕ) → length ds ≡ length ls → length ds ≡ length us → IsBits ds → IsBits ls →
    IsBits us → Fitting ds ls us → fits_masks (number_by 0 ds) (number_by 0 ls) (number_by 0 us) ≡ true
fitting-fits ds ls us n m h k j f =
    and-made (bit_or (number_by 0 ds) (number_by 0 ls) == number_by 0 ds) (bit_and (number_by 0 ds) (number_by 0 us) == number_by 0 ds)
    (eq-eqb (bit_or (number_by 0 ds) (number_by 0 ls)) (number_by 0 ds)
    (zipped-digits bit_or max or-next 0 0 ds ls n h k ∙ ap (number_by 0) (fitting-same ds ls us f).0))
    (eq-eqb (bit_and (number_by 0 ds) (number_by 0 us)) (number_by 0 ds)
    (zipped-digits bit_and min and-next 0 0 ds us m h j ∙ ap (number_by 0) (fitting-same ds ls us f).1))

pub fits-fitting : (ds ls us : List ℕ) → length ds ≡ length ls → length ds ≡ length us → IsBits ds → IsBits ls →
    IsBits us → fits_masks (number_by 0 ds) (number_by 0 ls) (number_by 0 us) ≡ true → Fitting ds ls us
fits-fitting ds ls us n m h k j f =
    let b : ((bit_or (number_by 0 ds) (number_by 0 ls) == number_by 0 ds) ≡ true) ×
    ((bit_and (number_by 0 ds) (number_by 0 us) == number_by 0 ds) ≡ true) =
    and-parts (bit_or (number_by 0 ds) (number_by 0 ls) == number_by 0 ds)
    (bit_and (number_by 0 ds) (number_by 0 us) == number_by 0 ds) f in
    let e : number_by 0 (maxes ds ls) ≡ number_by 0 ds =
    sym (zipped-digits bit_or max or-next 0 0 ds ls n h k) ∙ eqb-true (bit_or (number_by 0 ds) (number_by 0 ls)) (number_by 0 ds) b.0 in
    let g : number_by 0 (mins ds us) ≡ number_by 0 ds =
    sym (zipped-digits bit_and min and-next 0 0 ds us m h j) ∙ eqb-true (bit_and (number_by 0 ds) (number_by 0 us)) (number_by 0 ds) b.1 in
    same-fitting ds ls us n m (same-digits 0 0 (maxes ds ls) ds (zipped-long max ds ls n) (zipped-bits max (λ d e p q. omega arith) ds ls h k) h e).1
    (same-digits 0 0 (mins ds us) ds (zipped-long min ds us m) (zipped-bits min (λ d e p q. omega arith) ds us h j) h g).1

-- ---- the digits of masks

abbrev pub mark : ℕ → ℕ → ℕ
mark m b = cond (nat_le m b) 1 0

abbrev pub marks : ℕ → List ℕ → List ℕ → List ℕ
marks l (x ∷ xs) (b ∷ bs) = mark (x / 2 ^ (l + 1) * 2 ^ (l + 1) + 2 ^ l) b ∷ marks l xs bs
marks l _ _ = []

pub mark_cases : (m b : ℕ) → ((mark m b ≡ 1) × (m ≤ b)) ⊎ ((mark m b ≡ 0) × (b < m))
mark_cases m b = by_test (nat_le m b) refl
  where
    by_test : (t : Bool) → nat_le m b ≡ t → ((◌≡◌ {A = ℕ} (cond t 1 0) 1) × (m ≤ b)) ⊎ ((◌≡◌ {A = ℕ} (cond t 1 0) 0) × (b < m))
    by_test true e = inl (refl, leb-true m b e)
    by_test false e = inr (refl, leb-false m b e)

pub mask-by : (s w l : ℕ) (cs bs : List ℤ) → mask_from s w l cs bs ≡ number_by s (marks l (offsets w cs) (offsets w bs))
mask-by s w l [] [] = refl
mask-by s w l [] (b ∷ bs) = refl
mask-by s w l (c ∷ cs) [] = refl
mask-by s w l (c ∷ cs) (b ∷ bs) = mask-by (s * 2 + mark (offset w c / 2 ^ (l + 1) * 2 ^ (l + 1) + 2 ^ l) (offset w b)) w l cs bs

pub marks-bits : (l : ℕ) (xs bs : List ℕ) → IsBits (marks l xs bs)
marks-bits l [] bs = tt
marks-bits l (x ∷ xs) [] = tt
marks-bits l (x ∷ xs) (b ∷ bs) = (by_bool (nat_le (x / 2 ^ (l + 1) * 2 ^ (l + 1) + 2 ^ l) b), marks-bits l xs bs)
  where
    by_bool : (t : Bool) → cond t 1 0 < 2
    by_bool true = omega arith
    by_bool false = omega arith

pub marks-long : (l : ℕ) (xs bs : List ℕ) → length xs ≡ length bs → length (marks l xs bs) ≡ length xs
marks-long l [] bs n = refl
marks-long l (x ∷ xs) [] n = absurd (omega (arith, n))
marks-long l (x ∷ xs) (b ∷ bs) n = ap suc (marks-long l xs bs (omega (arith, n)))

-- the digit at the level says in which half of its block a number lies
pub half-of : (l x y : ℕ) → x / 2 ^ (l + 1) ≡ y / 2 ^ (l + 1) →
    ((y / 2 ^ l % 2 ≡ 0) × (y < x / 2 ^ (l + 1) * 2 ^ (l + 1) + 2 ^ l)) ⊎
    ((y / 2 ^ l % 2 ≡ 1) × (x / 2 ^ (l + 1) * 2 ^ (l + 1) + 2 ^ l ≤ y))
half-of l x y e =
    let d : y / 2 ^ (l + 1) ≡ y / 2 ^ l / 2 = div-pow-add y l 1 in
    let f : x / 2 ^ (l + 1) * 2 ^ (l + 1) ≡ y / 2 ^ l / 2 * (2 * 2 ^ l) = ap (λ t. t * 2 ^ (l + 1)) (e ∙ d) ∙ ap (λ t. y / 2 ^ l / 2 * t) (pow-next l) in
    by_digit (y / 2 ^ l) (y / 2 ^ l / 2) (y / 2 ^ l % 2) (2 ^ l) (y % 2 ^ l) (x / 2 ^ (l + 1) * 2 ^ (l + 1))
    (mod-lt (y / 2 ^ l) (omega arith)) (div-add-mod' (y / 2 ^ l) 2) (div-add-mod' y (2 ^ l)) (mod-lt y (pow_pos l)) f
  where
    by_digit : (k q b m r n : ℕ) → b < 2 → q * 2 + b ≡ k → k * m + r ≡ y → r < m → n ≡ q * (2 * m) → ((b ≡ 0) × (y < n + m)) ⊎ ((b ≡ 1) × (n + m ≤ y))
    by_digit k q zero m r n s e f g h =
        let a : k * m ≡ (q * 2 + 0) * m = ap (λ t. t * m) (sym e) in inl (refl, omega (arith, a, f, g, h))
    by_digit k q (suc zero) m r n s e f g h =
        let a : k * m ≡ (q * 2 + 1) * m = ap (λ t. t * m) (sym e) in inr (refl, omega (arith, a, f, g, h))
    by_digit k q (suc (suc b)) m r n s e f g h = absurd (omega arith)

-- the digit of a number between two bounds is between their marks
digit-fits : (l x a b y : ℕ) → x / 2 ^ (l + 1) ≡ y / 2 ^ (l + 1) → a ≤ y → y ≤ b →
    (mark (x / 2 ^ (l + 1) * 2 ^ (l + 1) + 2 ^ l) a ≤ y / 2 ^ l % 2) ×
    (y / 2 ^ l % 2 ≤ mark (x / 2 ^ (l + 1) * 2 ^ (l + 1) + 2 ^ l) b)
digit-fits l x a b y e h k =
    by_cases (x / 2 ^ (l + 1) * 2 ^ (l + 1) + 2 ^ l) (y / 2 ^ l % 2) (half-of l x y e)
    (mark_cases (x / 2 ^ (l + 1) * 2 ^ (l + 1) + 2 ^ l) a) (mark_cases (x / 2 ^ (l + 1) * 2 ^ (l + 1) + 2 ^ l) b)
  where
    by_cases : (m d : ℕ) → ((d ≡ 0) × (y < m)) ⊎ ((d ≡ 1) × (m ≤ y)) →
        ((mark m a ≡ 1) × (m ≤ a)) ⊎ ((mark m a ≡ 0) × (a < m)) →
        ((mark m b ≡ 1) × (m ≤ b)) ⊎ ((mark m b ≡ 0) × (b < m)) → (mark m a ≤ d) × (d ≤ mark m b)
    by_cases m d (inl p) (inl q) s = absurd (omega (arith, p.1, q.1, h))
    by_cases m d (inl p) (inr q) s = (omega (arith, p.0, q.0), omega (arith, p.0))
    by_cases m d (inr p) (inl q) (inl s) = (omega (arith, p.0, q.0), omega (arith, p.0, s.0))
    by_cases m d (inr p) (inr q) (inl s) = (omega (arith, p.0, q.0), omega (arith, p.0, s.0))
    by_cases m d (inr p) q (inr s) = absurd (omega (arith, p.1, s.1, k))

pub digits-fit : (l : ℕ) (xs los bs ys : List ℕ) → from_place (l + 1) xs ≡ from_place (l + 1) ys → Below los ys →
    Below ys bs → Fitting (digits_at l ys) (marks l xs los) (marks l xs bs)
digits-fit l [] [] [] [] e h k = tt
digits-fit l [] [] (b ∷ bs) [] e h k = absurd k
digits-fit l [] (a ∷ los) bs [] e h k = absurd h
digits-fit l [] los bs (y ∷ ys) e h k = absurd (let n : 0 ≡ suc (length (from_place (l + 1) ys)) = ap length e in omega (arith, n))
digits-fit l (x ∷ xs) los bs [] e h k = absurd (let n : suc (length (from_place (l + 1) xs)) ≡ 0 = ap length e in omega (arith, n))
digits-fit l (x ∷ xs) [] bs (y ∷ ys) e h k = absurd h
digits-fit l (x ∷ xs) (a ∷ los) [] (y ∷ ys) e h k = absurd k
digits-fit l (x ∷ xs) (a ∷ los) (b ∷ bs) (y ∷ ys) e h k =
    let q : x / 2 ^ (l + 1) ≡ y / 2 ^ (l + 1) = ap (λ r. get_or r 0 0) e in
    let f : (mark (x / 2 ^ (l + 1) * 2 ^ (l + 1) + 2 ^ l) a ≤ y / 2 ^ l % 2) ×
    (y / 2 ^ l % 2 ≤ mark (x / 2 ^ (l + 1) * 2 ^ (l + 1) + 2 ^ l) b) = digit-fits l x a b y q h.0 k.0 in
    (f.0, f.1, digits-fit l xs los bs ys (ap (drop 1) e) h.1 k.1)

-- ---- where the digits fit, there are numbers with them

abbrev pub start_of : ℕ → ℕ → ℕ → ℕ
start_of l x d = x / 2 ^ (l + 1) * 2 ^ (l + 1) + d * 2 ^ l

abbrev pub chosen : ℕ → List ℕ → List ℕ → List ℕ → List ℕ
chosen l (d ∷ ds) (x ∷ xs) (a ∷ los) = max a (start_of l x d) ∷ chosen l ds xs los
chosen l _ _ _ = []

pub record IsChosen (l d x a b y : ℕ) : Type 0 where
  pub block : y / 2 ^ (l + 1) ≡ x / 2 ^ (l + 1)
  pub digit : y / 2 ^ l % 2 ≡ d
  pub above : a ≤ y
  pub below : y ≤ b

chosen-is : (l d x a b : ℕ) → a ≤ b → a ≤ x / 2 ^ (l + 1) * 2 ^ (l + 1) + (2 ^ (l + 1) - 1) →
    x / 2 ^ (l + 1) * 2 ^ (l + 1) ≤ b → d < 2 → mark (x / 2 ^ (l + 1) * 2 ^ (l + 1) + 2 ^ l) a ≤ d →
    d ≤ mark (x / 2 ^ (l + 1) * 2 ^ (l + 1) + 2 ^ l) b → IsChosen l d x a b (max a (start_of l x d))
chosen-is l zero x a b ab ah lb s f g =
    let n : ℕ = x / 2 ^ (l + 1) * 2 ^ (l + 1) in
    let y : ℕ = max a (start_of l x 0) in
    let p : 2 ^ (l + 1) ≡ 2 * 2 ^ l = pow-next l in
    let o : 0 < 2 ^ l = pow_pos l in
    let am : a < x / 2 ^ (l + 1) * 2 ^ (l + 1) + 2 ^ l = elim (mark_cases (x / 2 ^ (l + 1) * 2 ^ (l + 1) + 2 ^ l) a) [
      | inl c ↦ absurd (omega (arith, c.0, f))
      | inr c ↦ c.1
    ] in
    let q : max a (start_of l x 0) / 2 ^ (l + 1) ≡ x / 2 ^ (l + 1) = div-block (x / 2 ^ (l + 1)) (2 ^ (l + 1)) y (omega arith) (omega (arith, am, p, o)) in
    record {
      block = q;
      digit = elim (half-of l x y (sym q)) [
        | inl c ↦ c.0
        | inr c ↦ absurd (omega (arith, c.1, am, o))
      ];
      above = omega arith;
      below = omega (arith, ab, lb);
    }
chosen-is l (suc zero) x a b ab ah lb s f g =
    let y : ℕ = max a (start_of l x 1) in
    let p : 2 ^ (l + 1) ≡ 2 * 2 ^ l = pow-next l in
    let o : 0 < 2 ^ l = pow_pos l in
    let mb : x / 2 ^ (l + 1) * 2 ^ (l + 1) + 2 ^ l ≤ b = elim (mark_cases (x / 2 ^ (l + 1) * 2 ^ (l + 1) + 2 ^ l) b) [
      | inl c ↦ c.1
      | inr c ↦ absurd (omega (arith, c.0, g))
    ] in
    let q : max a (start_of l x 1) / 2 ^ (l + 1) ≡ x / 2 ^ (l + 1) = div-block (x / 2 ^ (l + 1)) (2 ^ (l + 1)) y (omega arith) (omega (arith, ah, p, o)) in
    record {
      block = q;
      digit = elim (half-of l x y (sym q)) [
        | inl c ↦ absurd (omega (arith, c.1))
        | inr c ↦ c.0
      ];
      above = omega arith;
      below = omega (arith, ab, mb);
    }
chosen-is l (suc (suc d)) x a b ab ah lb s f g = absurd (omega arith)

pub record AreChosen (l : ℕ) (ds xs los bs ys : List ℕ) : Type 0 where
  pub block : from_place (l + 1) xs ≡ from_place (l + 1) ys
  pub digit : digits_at l ys ≡ ds
  pub above : Below los ys
  pub below : Below ys bs

pub chosen-are : (l : ℕ) (ds xs los bs : List ℕ) → IsBits ds → Below los bs → Below los (highs l xs) →
    Below (lows l xs) bs → Fitting ds (marks l xs los) (marks l xs bs) → AreChosen l ds xs los bs (chosen l ds xs los)
chosen-are l [] [] [] [] s ab ah lb f = record { block = refl; digit = refl; above = tt; below = tt }
chosen-are l ds [] [] (b ∷ bs) s ab ah lb f = absurd ab
chosen-are l ds [] (a ∷ los) bs s ab ah lb f = absurd ah
chosen-are l (d ∷ ds) [] [] [] s ab ah lb f = absurd f
chosen-are l ds (x ∷ xs) [] bs s ab ah lb f = absurd ah
chosen-are l ds (x ∷ xs) (a ∷ los) [] s ab ah lb f = absurd lb
chosen-are l [] (x ∷ xs) (a ∷ los) (b ∷ bs) s ab ah lb f = absurd f
chosen-are l (d ∷ ds) (x ∷ xs) (a ∷ los) (b ∷ bs) s ab ah lb f =
    let c : IsChosen l d x a b (max a (start_of l x d)) = chosen-is l d x a b ab.0 ah.0 lb.0 s.0 f.0 f.1 in
    let r : AreChosen l ds xs los bs (chosen l ds xs los) = chosen-are l ds xs los bs s.1 ab.1 ah.1 lb.1 f.2 in
    record {
      block = ap (λ t. t ∷ from_place (l + 1) xs) (sym c.block) ∙ ap {B = List ℕ} (λ t. max a (start_of l x d) / 2 ^ (l + 1) ∷ t) r.block;
      digit = ap (λ t. t ∷ digits_at l (chosen l ds xs los)) c.digit ∙ ap {B = List ℕ} (λ t. d ∷ t) r.digit;
      above = (c.above, r.above);
      below = (c.below, r.below);
    }
