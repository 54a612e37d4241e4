-- The Z-order of numbers: of those that differ at the greatest place the first ones decide.
use Rattle.std.proofs.Common.{◌≡◌, ◌≢◌, ℕ, zero, suc, ◌+◌, ◌-◌, ◌*◌, ◌/◌, ◌%◌, ◌^◌, ◌<◌, ◌≤◌, inl, inr, refl, min, ◌↔◌}
use Rattle.std.proofs.Common.{sym, ◌∙◌, ap, subst, arith, List, [], ◌∷◌, length}
use Rattle.std.specs.declared.cmp.Ordering.{Ordering}
use Rattle.std.specs.declared.cmp.Ordering.TheVariants.{Less, Equal, Greater}
use Rattle.std.specs.Int.{bit_at, bit_not, w64}
use Rattle.std.specs.Int.Bits.{bit_and, bit_xor}
use Rattle.std.specs.Ordering.{nat_cmp, ordering_then}
use Rattle.std.specs.Cmp.{nat_cmp_is}
use Rattle.std.proofs.Math.Nat.{eq-or-lt_of_le, mod-eq_of_lt, mod-lt, mul-le-mul_right}
use Rattle.std.proofs.Math.Pow.{pow_mono}
use Rattle.std.proofs.lemmas.Nat.{leading_top, and_le_l, xor_lt, mod-pow-add, pow_pos}
use Rattle.std.proofs.lemmas.Nat.Bits.{bit_at-lt, bit_at-zero, bit_at_above, bit_at_and, bit_at_not, bit_at_xor}
use Rattle.std.proofs.lemmas.Bool.{cases_lt, cases_eq}
use Rattle.ph_model.specs.Lawful.{IsBody}
use Rattle.ph_model.specs.PutTree.{body_address, body_address_from, digits_from}
use Rattle.ph_model.proofs.lemmas.Joined.{number_at, same_number}
use Rattle.ph_digits.specs.WordOrder.{words_cmp_below, words_cmp, IsHigher}
use Rattle.ph_digits.proofs.Cuts.{none_from}
use Rattle.ph_digits.proofs.Tops.{top-digit}

-- ---- one address

-- behind a smaller number as many digits make a smaller number
address-grows : (s t k : ℕ) (xs ys : List ℕ) → length xs ≡ length ys → s < t → body_address_from s k xs < body_address_from t k ys
address-grows s t k [] [] n h = h
address-grows s t k [] (y ∷ ys) n h = absurd (omega (arith, n))
address-grows s t k (x ∷ xs) [] n h = absurd (omega (arith, n))
address-grows s t k (x ∷ xs) (y ∷ ys) n h =
    address-grows (s * 2 + x / 2 ^ k % 2) (t * 2 + y / 2 ^ k % 2) k xs ys (omega (arith, n)) (next (x / 2 ^ k % 2) (y / 2 ^ k % 2) (bit_at-lt x k))
  where
    next : (a b : ℕ) → a < 2 → s * 2 + a < t * 2 + b
    next a b l = omega (arith, h, l)

grows : (s t k : ℕ) (xs ys : List ℕ) → length xs ≡ length ys → s < t → nat_cmp (body_address_from s k xs) (body_address_from t k ys) ≡ Less
grows s t k xs ys n l = sym (nat_cmp_is (body_address_from s k xs) (body_address_from t k ys) Less (address-grows s t k xs ys n l))

falls : (s t k : ℕ) (xs ys : List ℕ) → length xs ≡ length ys → t < s → nat_cmp (body_address_from s k xs) (body_address_from t k ys) ≡ Greater
falls s t k xs ys n l = sym (nat_cmp_is (body_address_from s k xs) (body_address_from t k ys) Greater (address-grows t s k ys xs (sym n) l))

-- behind one number as many digits stand to others as behind any
same-start : (s t k : ℕ) (xs ys : List ℕ) → length xs ≡ length ys →
    nat_cmp (body_address_from s k xs) (body_address_from s k ys) ≡ nat_cmp (body_address_from t k xs) (body_address_from t k ys)
same-start s t k [] [] n = sym (nat_cmp_is s s Equal refl) ∙ nat_cmp_is t t Equal refl
same-start s t k [] (y ∷ ys) n = absurd (omega (arith, n))
same-start s t k (x ∷ xs) [] n = absurd (omega (arith, n))
same-start s t k (x ∷ xs) (y ∷ ys) n =
    by_digits (bit_at x k) (bit_at y k) (same-start (s * 2 + bit_at x k) (t * 2 + bit_at x k) k xs ys (omega (arith, n)))
  where
    long : length xs ≡ length ys
    long = omega (arith, n)

    by_digits : (a b : ℕ) →
        nat_cmp (body_address_from (s * 2 + a) k xs) (body_address_from (s * 2 + a) k ys)
        ≡ nat_cmp (body_address_from (t * 2 + a) k xs) (body_address_from (t * 2 + a) k ys) →
        nat_cmp (body_address_from (s * 2 + a) k xs) (body_address_from (s * 2 + b) k ys)
        ≡ nat_cmp (body_address_from (t * 2 + a) k xs) (body_address_from (t * 2 + b) k ys)
    by_digits a b behind =
        elim (cases_lt a b) [
          | inl l ↦ grows (s * 2 + a) (s * 2 + b) k xs ys long (omega arith) ∙ sym (grows (t * 2 + a) (t * 2 + b) k xs ys long (omega arith))
          | inr g ↦ elim (cases_eq a b) [
            | inl e ↦
                ap (λ d. nat_cmp (body_address_from (s * 2 + a) k xs) (body_address_from (s * 2 + d) k ys)) (sym e)
                ∙ behind
                ∙ ap (λ d. nat_cmp (body_address_from (t * 2 + a) k xs) (body_address_from (t * 2 + d) k ys)) e
            | inr d ↦
                let l : b < a = omega arith in
                falls (s * 2 + a) (s * 2 + b) k xs ys long (omega arith) ∙ sym (falls (t * 2 + a) (t * 2 + b) k xs ys long (omega arith))
          ]
        ]

-- how the addresses of numbers stand at a place
abbrev at_place : ℕ → List ℕ → List ℕ → Ordering
at_place k xs ys = nat_cmp (body_address k xs) (body_address k ys)

-- the first digits decide, and where they are the same the others do
first-digits : (k x y : ℕ) (xs ys : List ℕ) → length xs ≡ length ys →
    at_place k (x ∷ xs) (y ∷ ys) ≡ ordering_then (nat_cmp (bit_at x k) (bit_at y k)) (at_place k xs ys)
first-digits k x y xs ys n = by_digits (bit_at x k) (bit_at y k)
  where
    by_digits : (a b : ℕ) →
        nat_cmp (body_address_from (0 * 2 + a) k xs) (body_address_from (0 * 2 + b) k ys) ≡ ordering_then (nat_cmp a b) (at_place k xs ys)
    by_digits a b =
        elim (cases_lt a b) [
          | inl l ↦ grows (0 * 2 + a) (0 * 2 + b) k xs ys n (omega arith) ∙ ap (λ o. ordering_then o (at_place k xs ys)) (nat_cmp_is a b Less l)
          | inr g ↦ elim (cases_eq a b) [
            | inl e ↦
                ap (λ d. nat_cmp (body_address_from (0 * 2 + a) k xs) (body_address_from (0 * 2 + d) k ys)) (sym e)
                ∙ same-start (0 * 2 + a) 0 k xs ys n
                ∙ ap (λ o. ordering_then o (at_place k xs ys)) (nat_cmp_is a b Equal e)
            | inr d ↦
                let l : b < a = omega arith in
                falls (0 * 2 + a) (0 * 2 + b) k xs ys n (omega arith) ∙ ap (λ o. ordering_then o (at_place k xs ys)) (nat_cmp_is a b Greater l)
          ]
        ]

-- a digit that is the same may go
without-digit : (k x y : ℕ) (xs ys : List ℕ) → length xs ≡ length ys → bit_at x k ≡ bit_at y k → at_place k (x ∷ xs) (y ∷ ys) ≡ at_place k xs ys
without-digit k x y xs ys n e =
    first-digits k x y xs ys n ∙ ap (λ o. ordering_then o (at_place k xs ys)) (sym (nat_cmp_is (bit_at x k) (bit_at y k) Equal e))

-- digits that differ are not followed by others
apart : (k x y : ℕ) (xs ys : List ℕ) → length xs ≡ length ys → bit_at x k ≢ bit_at y k → at_place k (x ∷ xs) (y ∷ ys) ≡ nat_cmp (bit_at x k) (bit_at y k)
apart k x y xs ys n d = first-digits k x y xs ys n ∙ decided (bit_at x k) (bit_at y k) (at_place k xs ys) d
  where
    decided : (a b : ℕ) (rest : Ordering) → a ≢ b → ordering_then (nat_cmp a b) rest ≡ nat_cmp a b
    decided a b rest d =
        elim (cases_lt a b) [
          | inl h ↦ let e : Less ≡ nat_cmp a b = nat_cmp_is a b Less h in ap (λ o. ordering_then o rest) (sym e) ∙ e
          | inr h ↦ let g : b < a = omega (arith, h, d) in let e : Greater ≡ nat_cmp a b = nat_cmp_is a b Greater g in ap (λ o. ordering_then o rest) (sym e) ∙ e
        ]

not-equal : (a b : ℕ) → a ≢ b → nat_cmp a b ≢ Equal
not-equal a b d e =
    elim (cases_lt a b) [
      | inl h ↦ let clash : Less ≡ Equal = nat_cmp_is a b Less h ∙ e in cc
      | inr h ↦ let g : b < a = omega (arith, h, d) in let clash : Greater ≡ Equal = nat_cmp_is a b Greater g ∙ e in cc
    ]

-- numbers with the same digits from a place on have the same address at each place from it on
address-number : (s k : ℕ) (xs : List ℕ) → body_address_from s k xs ≡ number_at s k xs
address-number s k [] = refl
address-number s k (x ∷ xs) = address-number (s * 2 + x / 2 ^ k % 2) k xs

same-address : (k j : ℕ) (xs ys : List ℕ) → k ≤ j → digits_from k xs ≡ digits_from k ys → body_address j xs ≡ body_address j ys
same-address k j xs ys l e = address-number 0 j xs ∙ same_number 0 k j xs ys l e ∙ sym (address-number 0 j ys)

-- ---- the addresses at all places below one

-- an address that is the same leaves the order to the places below it
next-same : (n : ℕ) (xs ys : List ℕ) → body_address n xs ≡ body_address n ys → words_cmp_below (suc n) xs ys ≡ words_cmp_below n xs ys
next-same n xs ys e =
    ap (λ o. ordering_then o (words_cmp_below n xs ys)) (sym (nat_cmp_is (body_address n xs) (body_address n ys) Equal e))

below-same : (n : ℕ) (xs ys : List ℕ) → xs ≡ ys → words_cmp_below n xs ys ≡ Equal
below-same zero xs ys e = refl
below-same (suc n) xs ys e = next-same n xs ys (ap (body_address n) e) ∙ below-same n xs ys e

-- lists of numbers whose addresses stand alike at each place do
below-alike : (n : ℕ) (us vs xs ys : List ℕ) → ((k : ℕ) → k < n → at_place k us vs ≡ at_place k xs ys) → words_cmp_below n us vs ≡ words_cmp_below n xs ys
below-alike zero us vs xs ys e = refl
below-alike (suc n) us vs xs ys e = λ i. ordering_then (e n (omega arith) i) (below-alike n us vs xs ys (λ k l. e k (omega (arith, l))) i)

-- those whose addresses do from a place on that decides do
below-decided : (n t : ℕ) (us vs xs ys : List ℕ) → t < n → ((k : ℕ) → t ≤ k → at_place k us vs ≡ at_place k xs ys) → at_place t us vs ≢ Equal →
    words_cmp_below n us vs ≡ words_cmp_below n xs ys
below-decided zero t us vs xs ys l e d = absurd (omega (arith, l))
below-decided (suc n) t us vs xs ys l e d =
    elim (cases_lt t n) [
      | inl h ↦ λ i. ordering_then (e n (omega (arith, h)) i) (below-decided n t us vs xs ys h e d i)
      | inr h ↦
          let s : t ≡ n = omega (arith, l, h) in
          first_decides (at_place n us vs) (words_cmp_below n us vs) (words_cmp_below n xs ys) (subst (λ k. at_place k us vs ≢ Equal) s d)
          ∙ ap (λ o. ordering_then o (words_cmp_below n xs ys)) (e n (omega (arith, h, l)))
    ]
  where
    first_decides : (o rest other : Ordering) → o ≢ Equal → ordering_then o rest ≡ ordering_then o other
    first_decides Less rest other d = refl
    first_decides Equal rest other d = absurd (d refl)
    first_decides Greater rest other d = refl

-- places from which on no number has a digit decide nothing
pub below-cut : (n w d : ℕ) (xs ys : List ℕ) → w ≤ n → IsBody d w xs → IsBody d w ys → words_cmp_below n xs ys ≡ words_cmp_below w xs ys
below-cut zero w d xs ys l h k = let z : w ≡ 0 = omega (arith, l) in ap (λ m. words_cmp_below m xs ys) (sym z)
below-cut (suc n) w d xs ys l h k =
    elim (eq-or-lt_of_le l) [
      | inl e ↦ ap (λ m. words_cmp_below m xs ys) (sym e)
      | inr g ↦
          let le : w ≤ n = omega (arith, g) in
          next-same n xs ys (same-address w n xs ys le (none_from d w xs ys h k)) ∙ below-cut n w d xs ys le h k
    ]

-- ---- all places

pub words-same : (xs ys : List ℕ) → xs ≡ ys → Equal ≡ words_cmp xs ys
unfolding words_cmp
words-same xs ys e = sym (below-same 64 xs ys e)

-- ---- the greatest digit 1

-- the place of the greatest digit 1 of a word
record IsTop (a place : ℕ) : Type 0 where
  within : place < 64
  reached : 2 ^ place ≤ a
  above : a < 2 ^ suc place

top-of : (a : ℕ) → 0 < a → a < 2 ^ 64 → (place : ℕ) × IsTop a place
top-of a some small =
    let t = leading_top 64 a some small in (t.0, record { within = omega (arith, t.1); reached = t.2; above = t.3 })

-- a number with a digit 1 at a place is not below it
digit-reaches : (a k : ℕ) → bit_at a k ≡ 1 → 2 ^ k ≤ a
digit-reaches a k e =
    elim (cases_lt a (2 ^ k)) [
      | inl l ↦ absurd (omega (arith, bit_at_above a k k l (omega arith), e))
      | inr g ↦ g
    ]

pow-order : (i j a : ℕ) → 2 ^ i ≤ a → a < 2 ^ suc j → i ≤ j
pow-order i j a l m =
    elim (cases_lt j i) [
      | inl g ↦ absurd (omega (arith, l, m, pow_mono {i = suc j} {j = i} (omega (arith, g))))
      | inr h ↦ h
    ]

pub higher : (a b : ℕ) → a < 2 ^ 64 → b < 2 ^ 64 → (b < bit_and a (bit_not w64 b)) ↔ IsHigher a b
higher a b fits-a fits-b = (found, seen)
  where
    digit : (k : ℕ) → k < 64 → bit_at (bit_and a (bit_not w64 b)) k ≡ min (bit_at a k) (1 - bit_at b k)
    digit k l = bit_at_and a (bit_not w64 b) k ∙ ap (min (bit_at a k)) (bit_at_not w64 b k fits-b l)

    found : b < bit_and a (bit_not w64 b) → IsHigher a b
    found l =
        let less : bit_and a (bit_not w64 b) ≤ a = and_le_l a (bit_not w64 b) in
        let t = top-of (bit_and a (bit_not w64 b)) (omega (arith, l)) (omega (arith, less, fits-a)) in
        let one : bit_at (bit_and a (bit_not w64 b)) t.0 ≡ 1 = top-digit (bit_and a (bit_not w64 b)) t.0 t.1.reached t.1.above in
        let none : bit_at b t.0 ≡ 0 = omega (arith, digit t.0 t.1.within, one) in
        record {
          place = t.0;
          reached = omega (arith, less, t.1.reached);
          above = elim (cases_lt b (2 ^ t.0)) [
            | inl h ↦ h
            | inr g ↦ absurd (omega (arith, none, top-digit b t.0 g (omega (arith, l, t.1.above))))
          ];
        }

    seen : IsHigher a b → b < bit_and a (bit_not w64 b)
    seen h =
        let t = top-of a (omega (arith, h.reached, h.above)) fits-a in
        let low : b < 2 ^ t.0 = omega (arith, h.above, pow_mono {i = h.place} {j = t.0} (pow-order h.place t.0 a h.reached t.1.above)) in
        let one : bit_at a t.0 ≡ 1 = top-digit a t.0 t.1.reached t.1.above in
        let none : bit_at b t.0 ≡ 0 = bit_at_above b t.0 t.0 low (omega arith) in
        omega (arith, low, digit-reaches (bit_and a (bit_not w64 b)) t.0 (omega (arith, digit t.0 t.1.within, one, none)))

-- ---- the words that decide

same-digit : (x y k : ℕ) → bit_at (bit_xor x y) k ≡ 0 → bit_at x k ≡ bit_at y k
same-digit x y k e = omega (arith, bit_at_xor x y k, e, bit_at-lt x k, bit_at-lt y k)

other-digit : (x y k : ℕ) → bit_at (bit_xor x y) k ≡ 1 → bit_at x k ≢ bit_at y k
other-digit x y k e d = let no : ⊥ = omega (arith, bit_at_xor x y k, e, d) in no

same-from : (x y t k : ℕ) → bit_xor x y < 2 ^ t → t ≤ k → bit_at x k ≡ bit_at y k
same-from x y t k l m = same-digit x y k (bit_at_above (bit_xor x y) t k l m)

-- words that differ at a greater place stand for both pairs
pub higher-decides : (s t x y : ℕ) (xs ys : List ℕ) → length xs ≡ length ys → x < 2 ^ 64 → y < 2 ^ 64 →
    IsHigher (bit_xor x y) (bit_xor s t) → words_cmp (s ∷ x ∷ xs) (t ∷ y ∷ ys) ≡ words_cmp (x ∷ xs) (y ∷ ys)
unfolding words_cmp
higher-decides s t x y xs ys n fits-x fits-y h =
    let top = top-of (bit_xor x y) (omega (arith, h.reached, h.above)) (xor_lt 64 x y fits-x fits-y) in
    let low : bit_xor s t < 2 ^ top.0 =
    omega (arith, h.above, pow_mono {i = h.place} {j = top.0} (pow-order h.place top.0 (bit_xor x y) h.reached top.1.above)) in
    let alike : (k : ℕ) → top.0 ≤ k → at_place k (s ∷ x ∷ xs) (t ∷ y ∷ ys) ≡ at_place k (x ∷ xs) (y ∷ ys) =
    λ k l. without-digit k s t (x ∷ xs) (y ∷ ys) (ap suc n) (same-from s t top.0 k low l) in
    let differ : bit_at x top.0 ≢ bit_at y top.0 = other-digit x y top.0 (top-digit (bit_xor x y) top.0 top.1.reached top.1.above) in
    below-decided 64 top.0 (s ∷ x ∷ xs) (t ∷ y ∷ ys) (x ∷ xs) (y ∷ ys) top.1.within alike
    (λ e. not-equal (bit_at x top.0) (bit_at y top.0) differ
    (sym (apart top.0 x y xs ys n differ) ∙ sym (alike top.0 (omega arith)) ∙ e))

-- and else those before them do
pub lower-goes : (s t x y : ℕ) (xs ys : List ℕ) → length xs ≡ length ys → s < 2 ^ 64 → t < 2 ^ 64 → x < 2 ^ 64 → y < 2 ^ 64 →
    (IsHigher (bit_xor x y) (bit_xor s t) → ⊥) → words_cmp (s ∷ x ∷ xs) (t ∷ y ∷ ys) ≡ words_cmp (s ∷ xs) (t ∷ ys)
unfolding words_cmp
lower-goes s t x y xs ys n fits-s fits-t fits-x fits-y h =
    elim (cases_lt 0 (bit_xor x y)) [
      | inl some ↦ by_top some
      | inr none ↦
          let same : bit_xor x y ≡ 0 = omega (arith, none) in
          below-alike 64 (s ∷ x ∷ xs) (t ∷ y ∷ ys) (s ∷ xs) (t ∷ ys)
          (λ k l. behind k (same-digit x y k (ap (λ a. bit_at a k) same ∙ bit_at-zero k)))
    ]
  where
    behind : (k : ℕ) → bit_at x k ≡ bit_at y k → at_place k (s ∷ x ∷ xs) (t ∷ y ∷ ys) ≡ at_place k (s ∷ xs) (t ∷ ys)
    behind k e =
        first-digits k s t (x ∷ xs) (y ∷ ys) (ap suc n)
        ∙ ap (ordering_then (nat_cmp (bit_at s k) (bit_at t k))) (without-digit k x y xs ys n e)
        ∙ sym (first-digits k s t xs ys n)

    by_top : 0 < bit_xor x y → words_cmp_below 64 (s ∷ x ∷ xs) (t ∷ y ∷ ys) ≡ words_cmp_below 64 (s ∷ xs) (t ∷ ys)
    by_top some =
        let top = top-of (bit_xor x y) some (xor_lt 64 x y fits-x fits-y) in
        let no_less : 2 ^ top.0 ≤ bit_xor s t = elim (cases_lt (bit_xor s t) (2 ^ top.0)) [
          | inl l ↦ absurd (h (record { place = top.0; reached = top.1.reached; above = l }))
          | inr g ↦ g
        ] in
        let last = top-of (bit_xor s t) (omega (arith, no_less, pow_pos top.0)) (xor_lt 64 s t fits-s fits-t) in
        let below : bit_xor x y < 2 ^ suc last.0 =
        omega (arith, top.1.above, pow_mono {i = suc top.0} {j = suc last.0} (omega (arith, pow-order top.0 last.0 (bit_xor s t) no_less last.1.above))) in
        let differ : bit_at s last.0 ≢ bit_at t last.0 = other-digit s t last.0 (top-digit (bit_xor s t) last.0 last.1.reached last.1.above) in
        below-decided 64 last.0 (s ∷ x ∷ xs) (t ∷ y ∷ ys) (s ∷ xs) (t ∷ ys) last.1.within
        (λ k l. elim (cases_eq last.0 k) [
          | inl e ↦
              subst (λ j. at_place j (s ∷ x ∷ xs) (t ∷ y ∷ ys) ≡ at_place j (s ∷ xs) (t ∷ ys)) e
              (apart last.0 s t (x ∷ xs) (y ∷ ys) (ap suc n) differ ∙ sym (apart last.0 s t xs ys n differ))
          | inr d ↦ behind k (same-from x y (suc last.0) k below (omega (arith, l, d)))
        ])
        (λ e. not-equal (bit_at s last.0) (bit_at t last.0) differ (sym (apart last.0 s t (x ∷ xs) (y ∷ ys) (ap suc n) differ) ∙ e))

-- before the first words there is nothing to decide
pub words-begin : (xs ys : List ℕ) → length xs ≡ length ys → words_cmp (0 ∷ xs) (0 ∷ ys) ≡ words_cmp xs ys
unfolding words_cmp
words-begin xs ys n = below-alike 64 (0 ∷ xs) (0 ∷ ys) xs ys (λ k l. without-digit k 0 0 xs ys n refl)

-- of two numbers in two digits the first digits decide, and else the second ones
pub two-digits : (a b c d p : ℕ) → c < p → d < p → nat_cmp (a * p + c) (b * p + d) ≡ ordering_then (nat_cmp a b) (nat_cmp c d)
two-digits a b c d p l m =
    elim (cases_lt a b) [
      | inl lt ↦
          let wide : (a + 1) * p ≤ b * p = mul-le-mul_right p (omega arith) in
          sym (nat_cmp_is (a * p + c) (b * p + d) Less (omega (arith, wide))) ∙ ap (λ o. ordering_then o (nat_cmp c d)) (nat_cmp_is a b Less lt)
      | inr ge ↦ elim (cases_eq a b) [
        | inl e ↦
            ap (λ k. nat_cmp (k * p + c) (b * p + d)) e ∙ same-front (b * p) c d
            ∙ ap (λ o. ordering_then o (nat_cmp c d)) (nat_cmp_is a b Equal e)
        | inr ne ↦
            let gt : b < a = omega arith in
            let wide : (b + 1) * p ≤ a * p = mul-le-mul_right p (omega arith) in
            sym (nat_cmp_is (a * p + c) (b * p + d) Greater (omega (arith, wide))) ∙ ap (λ o. ordering_then o (nat_cmp c d)) (nat_cmp_is a b Greater gt)
      ]
    ]
  where
    same-front : (k c d : ℕ) → nat_cmp (k + c) (k + d) ≡ nat_cmp c d
    same-front k c d =
        elim (cases_lt c d) [
          | inl lt ↦ sym (nat_cmp_is (k + c) (k + d) Less (omega arith)) ∙ nat_cmp_is c d Less lt
          | inr ge ↦ elim (cases_eq c d) [
            | inl e ↦ sym (nat_cmp_is (k + c) (k + d) Equal (omega arith)) ∙ nat_cmp_is c d Equal e
            | inr ne ↦
                let gt : d < c = omega arith in
                sym (nat_cmp_is (k + c) (k + d) Greater (omega arith)) ∙ nat_cmp_is c d Greater gt
          ]
        ]

-- behind the last ones the words that decide are compared as numbers
below-one : (n s t : ℕ) → words_cmp_below n (s ∷ []) (t ∷ []) ≡ nat_cmp (s % 2 ^ n) (t % 2 ^ n)
below-one zero s t =
    let e : s % 1 ≡ t % 1 = omega (arith, mod-lt s {m = 1} (omega arith), mod-lt t {m = 1} (omega arith)) in nat_cmp_is (s % 1) (t % 1) Equal e
below-one (suc n) s t =
    (λ i. ordering_then (nat_cmp (alone (bit_at s n) i) (alone (bit_at t n) i)) (below-one n s t i))
    ∙ sym (two-digits (bit_at s n) (bit_at t n) (s % 2 ^ n) (t % 2 ^ n) (2 ^ n) (mod-lt s (pow_pos n)) (mod-lt t (pow_pos n)))
    ∙ (λ i. nat_cmp (sym (split s) i) (sym (split t) i))
  where
    alone : (a : ℕ) → 0 * 2 + a ≡ a
    alone a = omega arith

    split : (a : ℕ) → a % 2 ^ suc n ≡ bit_at a n * 2 ^ n + a % 2 ^ n
    split a = let more : suc n ≡ 1 + n = omega arith in ap (λ k. a % 2 ^ k) more ∙ mod-pow-add a 1 n

pub words-end : (s t : ℕ) (us vs : List ℕ) → length us ≡ 0 → length vs ≡ 0 → s < 2 ^ 64 → t < 2 ^ 64 → nat_cmp s t ≡ words_cmp (s ∷ us) (t ∷ vs)
unfolding words_cmp
words-end s t [] [] n k l m = sym (below-one 64 s t ∙ (λ i. nat_cmp (mod-eq_of_lt l i) (mod-eq_of_lt m i)))
words-end s t [] (v ∷ vs) n k l m = absurd (omega (arith, k))
words-end s t (u ∷ us) vs n k l m = absurd (omega (arith, n))
