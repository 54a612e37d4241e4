-- The next address that fits the masks, computed with whole words, is the least one.
use Rattle.std.proofs.Common.{◌≡◌, ℕ, zero, suc, ◌+◌, ◌-◌, ◌*◌, ◌/◌, ◌%◌, ◌^◌, ◌<◌, ◌≤◌, refl, sym, ◌∙◌, ap}
use Rattle.std.proofs.Common.{subst, arith, max, min, true, eq-eqb, eqb-true, bit_and, bit_or}
use Rattle.std.specs.Prelude.{◌==◌}
use Rattle.std.proofs.lemmas.Nat.{div-add-mod'}
use Rattle.std.proofs.Math.Nat.{mod-lt}
use Rattle.ph_model.specs.Masks.{fits_masks, next_address, IsNext}
use Rattle.ph_specs.proofs.lemmas.Places.{pow-next}
use Rattle.ph_model.proofs.lemmas.MaskDigits.{or-next, and-next}
use Rattle.ph_specs.proofs.lemmas.Tests.{and-parts, and-made}

-- ---- the last digit of numbers that fit

pub record Fits (h l u : ℕ) : Type 0 where
  pub over : bit_or h l ≡ h
  pub under : bit_and h u ≡ h

pub fits : (h l u : ℕ) → fits_masks h l u ≡ true → Fits h l u
fits h l u f =
    let b : ((bit_or h l == h) ≡ true) × ((bit_and h u == h) ≡ true) = and-parts (bit_or h l == h) (bit_and h u == h) f in
    record { over = eqb-true (bit_or h l) h b.0; under = eqb-true (bit_and h u) h b.1 }

pub fit-test : (h l u : ℕ) → Fits h l u → fits_masks h l u ≡ true
fit-test h l u f =
    and-made (bit_or h l == h) (bit_and h u == h) (eq-eqb (bit_or h l) h f.over) (eq-eqb (bit_and h u) h f.under)

pub record FitsNext (h l u a b c : ℕ) : Type 0 where
  pub rest : Fits h l u
  pub low : b ≤ a
  pub high : a ≤ c

pub fits-next : (h l u a b c : ℕ) → a < 2 → b < 2 → c < 2 → Fits (h * 2 + a) (l * 2 + b) (u * 2 + c) → FitsNext h l u a b c
fits-next h l u a b c p q r f =
    let x : bit_or h l * 2 + max a b ≡ h * 2 + a = sym (or-next h l a b p q) ∙ f.over in
    let y : bit_and h u * 2 + min a c ≡ h * 2 + a = sym (and-next h u a c p r) ∙ f.under in
    record { rest = record { over = omega (arith, x, p, q); under = omega (arith, y, p, r) }; low = omega (arith, x, p, q); high = omega (arith, y, p, r) }

pub next-fits : (h l u a b c : ℕ) → a < 2 → b < 2 → c < 2 → FitsNext h l u a b c → Fits (h * 2 + a) (l * 2 + b) (u * 2 + c)
next-fits h l u a b c p q r f =
    let x : bit_or h l ≡ h = f.rest.over in
    let y : bit_and h u ≡ h = f.rest.under in
    let m : max a b ≡ a = omega (arith, f.low) in
    let n : min a c ≡ a = omega (arith, f.high) in
    record {
      over = or-next h l a b p q ∙ ap (λ t. t * 2 + max a b) x ∙ ap (λ t. h * 2 + t) m;
      under = and-next h u a c p r ∙ ap (λ t. t * 2 + min a c) y ∙ ap (λ t. h * 2 + t) n;
    }

-- ---- the digits that the upper mask has not, and what is left of them

pub not-next : (n u c : ℕ) → c < 2 → u < 2 ^ n → 2 ^ suc n - 1 - (u * 2 + c) ≡ (2 ^ n - 1 - u) * 2 + (1 - c)
not-next n u c p k =
    let e : 2 ^ suc n ≡ 2 * 2 ^ n = ap (λ t. 2 ^ t) (let s : suc n ≡ n + 1 = omega arith in s) ∙ pow-next n in
    omega (arith, e, p, k)

pub filled-next : (n h u a c : ℕ) → a < 2 → c < 2 → u < 2 ^ n → bit_or (h * 2 + a) (2 ^ suc n - 1 - (u * 2 + c)) ≡ bit_or h (2 ^ n - 1 - u) * 2 + max a (1 - c)
filled-next n h u a c p r k =
    ap (λ t. bit_or (h * 2 + a) t) (not-next n u c r k) ∙ or-next h (2 ^ n - 1 - u) a (1 - c) p (omega (arith, r))

pub half-small : (n x : ℕ) → x < 2 ^ suc n → x / 2 < 2 ^ n
half-small n x h =
    let e : 2 ^ suc n ≡ 2 * 2 ^ n = ap (λ t. 2 ^ t) (let s : suc n ≡ n + 1 = omega arith in s) ∙ pow-next n in
    omega (arith, e, h)

pub back : (x : ℕ) → x / 2 * 2 + x % 2 ≡ x
back x = div-add-mod' x 2

pub bit : (x : ℕ) → x % 2 < 2
bit x = mod-lt x (omega arith)

-- without the carry the digits of the address stay
pub masked : (n h u : ℕ) → h < 2 ^ n → u < 2 ^ n → bit_and h u ≡ h → bit_and (bit_or h (2 ^ n - 1 - u)) u ≡ h
masked zero zero zero p q e = refl
masked zero zero (suc u) p q e = absurd (omega (arith, q))
masked zero (suc h) u p q e = absurd (omega (arith, p))
masked (suc n) h u p q e =
    subst (λ x. bit_and (bit_or x (2 ^ suc n - 1 - u)) u ≡ x) (back h)
    (subst (λ y. bit_and (bit_or (h / 2 * 2 + h % 2) (2 ^ suc n - 1 - y)) y ≡ h / 2 * 2 + h % 2) (back u)
    (step (h / 2) (u / 2) (h % 2) (u % 2) (bit h) (bit u) (half-small n u q) g.0
    (masked n (h / 2) (u / 2) (half-small n h p) (half-small n u q) g.1)))
  where
    parts : (h u a c : ℕ) → a < 2 → c < 2 → bit_and (h * 2 + a) (u * 2 + c) ≡ h * 2 + a → (a ≤ c) × (bit_and h u ≡ h)
    parts h u a c p r e =
        let y : bit_and h u * 2 + min a c ≡ h * 2 + a = sym (and-next h u a c p r) ∙ e in
        (omega (arith, y, p, r), omega (arith, y, p, r))

    g : (h % 2 ≤ u % 2) × (bit_and (h / 2) (u / 2) ≡ h / 2)
    g = parts (h / 2) (u / 2) (h % 2) (u % 2) (bit h) (bit u) (ap (λ x. bit_and x (u / 2 * 2 + u % 2)) (back h) ∙ ap (λ y. bit_and h y) (back u) ∙ e ∙ sym (back h))

    step : (h u a c : ℕ) → a < 2 → c < 2 → u < 2 ^ n → a ≤ c → bit_and (bit_or h (2 ^ n - 1 - u)) u ≡ h →
        bit_and (bit_or (h * 2 + a) (2 ^ suc n - 1 - (u * 2 + c))) (u * 2 + c) ≡ h * 2 + a
    step h u a c p r k l ih =
        let m : min (max a (1 - c)) c ≡ a = omega (arith, p, r, l) in
        ap (λ t. bit_and t (u * 2 + c)) (filled-next n h u a c p r k) ∙ and-next (bit_or h (2 ^ n - 1 - u)) u
        (max a (1 - c)) c (omega (arith, p, r)) r ∙ ap (λ t. t * 2 + min (max a (1 - c)) c) ih ∙ ap (λ t. h * 2 + t) m

-- behind a digit 1 the carry goes on
pub carried-front : (x l u b c : ℕ) → b < 2 → c < 2 → bit_or (bit_and (x * 2 + 1 + 1) (u * 2 + c)) (l * 2 + b) ≡ bit_or (bit_and (x + 1) u) l * 2 + b
carried-front x l u b c q r =
    let s : x * 2 + 1 + 1 ≡ (x + 1) * 2 + 0 = omega arith in
    let z : min 0 c ≡ 0 = omega arith in
    let y : max 0 b ≡ b = omega arith in
    ap (λ t. bit_or (bit_and t (u * 2 + c)) (l * 2 + b)) s
    ∙ ap (λ t. bit_or t (l * 2 + b)) (and-next (x + 1) u 0 c (omega arith) r ∙ ap (λ t. bit_and (x + 1) u * 2 + t) z)
    ∙ or-next (bit_and (x + 1) u) l 0 b (omega arith) q
    ∙ ap (λ t. bit_or (bit_and (x + 1) u) l * 2 + t) y

-- where the last digit is the greatest one that fits, the carry goes on
next-carried : (n h l u a b c : ℕ) → a < 2 → b < 2 → c < 2 → u < 2 ^ n → max a (1 - c) ≡ 1 →
    next_address (suc n) (h * 2 + a) (l * 2 + b) (u * 2 + c) ≡ next_address n h l u * 2 + b
next-carried n h l u a b c p q r k m =
    let x : ℕ = bit_or h (2 ^ n - 1 - u) in
    let s : bit_or (h * 2 + a) (2 ^ suc n - 1 - (u * 2 + c)) ≡ x * 2 + 1 = omega (arith, filled-next n h u a c p r k, m) in
    ap (λ t. bit_or (bit_and (t + 1) (u * 2 + c)) (l * 2 + b)) s ∙ carried-front x l u b c q r

-- else the last digit becomes 1
next-same : (n h l u b : ℕ) → b < 2 → h < 2 ^ n → u < 2 ^ n → Fits h l u → next_address (suc n) (h * 2 + 0) (l * 2 + b) (u * 2 + 1) ≡ h * 2 + 1
next-same n h l u b q j k f =
    let x : ℕ = bit_or h (2 ^ n - 1 - u) in
    let s : bit_or (h * 2 + 0) (2 ^ suc n - 1 - (u * 2 + 1)) + 1 ≡ bit_or h (2 ^ n - 1 - u) * 2 + 1 =
    omega (arith, filled-next n h u 0 1 (omega arith) (omega arith) k) in
    let y : max 1 b ≡ 1 = omega (arith, q) in
    ap (λ t. bit_or (bit_and t (u * 2 + 1)) (l * 2 + b)) s
    ∙ ap (λ t. bit_or t (l * 2 + b)) (and-next x u 1 1 (omega arith) (omega arith) ∙ ap (λ t. t * 2 + 1) (masked n h u j k f.under))
    ∙ or-next h l 1 b (omega arith) q
    ∙ ap (λ t. t * 2 + max 1 b) f.over ∙ ap (λ t. h * 2 + t) y

-- ---- the law

is-same : (h l u b : ℕ) → b < 2 → Fits h l u → IsNext (h * 2 + 0) (l * 2 + b) (u * 2 + 1) (h * 2 + 1)
is-same h l u b q f =
    record {
      later = omega arith;
      fitting = fit-test (h * 2 + 1) (l * 2 + b) (u * 2 + 1)
          (next-fits h l u 1 b 1 (omega arith) q (omega arith) (record { rest = f; low = omega (arith, q); high = omega arith }));
      least = λ j l' e. omega (arith, l');
    }

is-carried : (h l u a b c k : ℕ) → a < 2 → b < 2 → c < 2 → a ≡ c → b ≤ a → IsNext h l u k → IsNext (h * 2 + a) (l * 2 + b) (u * 2 + c) (k * 2 + b)
is-carried h l u a b c k p q r e g i =
    record {
      later = omega (arith, i.later, p);
      fitting = fit-test (k * 2 + b) (l * 2 + b) (u * 2 + c)
          (next-fits k l u b b c q q r (record { rest = fits k l u i.fitting; low = omega arith; high = omega (arith, e, g) }));
      least = λ j m f. subst (λ t. k * 2 + b ≤ t) (back j)
          (by_parts (j / 2) (j % 2) (bit j) (subst (λ t. h * 2 + a < t) (sym (back j)) m)
          (subst (λ t. fits_masks t (l * 2 + b) (u * 2 + c) ≡ true) (sym (back j)) f));
    }
  where
    by_parts : (j x : ℕ) → x < 2 → h * 2 + a < j * 2 + x → fits_masks (j * 2 + x) (l * 2 + b) (u * 2 + c) ≡ true → k * 2 + b ≤ j * 2 + x
    by_parts j x s m f =
        let n : FitsNext j l u x b c = fits-next j l u x b c s q r (fits (j * 2 + x) (l * 2 + b) (u * 2 + c) f) in
        let y : h < j = omega (arith, m, n.high, e) in
        let z : k ≤ j = i.least j y (fit-test j l u n.rest) in
        omega (arith, z, n.low)

step : (n h l u a b c : ℕ) → a < 2 → b < 2 → c < 2 → h < 2 ^ n → u < 2 ^ n →
    fits_masks (h * 2 + a) (l * 2 + b) (u * 2 + c) ≡ true → (h * 2 + a ≡ u * 2 + c → ⊥) →
    (fits_masks h l u ≡ true → (h ≡ u → ⊥) → IsNext h l u (next_address n h l u)) →
    IsNext (h * 2 + a) (l * 2 + b) (u * 2 + c) (next_address (suc n) (h * 2 + a) (l * 2 + b) (u * 2 + c))
step n h l u a b c p q r hs us f ne ih =
    by_digits a c p r (fits-next h l u a b c p q r (fits (h * 2 + a) (l * 2 + b) (u * 2 + c) f)) ne
  where
    carried : (a c : ℕ) → a < 2 → c < 2 → a ≡ c → FitsNext h l u a b c → (h * 2 + a ≡ u * 2 + c → ⊥) →
        IsNext (h * 2 + a) (l * 2 + b) (u * 2 + c) (next_address (suc n) (h * 2 + a) (l * 2 + b) (u * 2 + c))
    carried a c p r e g ne =
        subst (IsNext (h * 2 + a) (l * 2 + b) (u * 2 + c))
        (sym (next-carried n h l u a b c p q r us (omega (arith, e, p))))
        (is-carried h l u a b c (next_address n h l u) p q r e g.low
        (ih (fit-test h l u g.rest) (λ s. ne (omega (arith, s, e)))))

    by_digits : (a c : ℕ) → a < 2 → c < 2 → FitsNext h l u a b c → (h * 2 + a ≡ u * 2 + c → ⊥) →
        IsNext (h * 2 + a) (l * 2 + b) (u * 2 + c) (next_address (suc n) (h * 2 + a) (l * 2 + b) (u * 2 + c))
    by_digits zero zero p r g ne = carried 0 0 p r refl g ne
    by_digits zero (suc zero) p r g ne =
        subst (IsNext (h * 2 + 0) (l * 2 + b) (u * 2 + 1)) (sym (next-same n h l u b q hs us g.rest)) (is-same h l u b q g.rest)
    by_digits (suc zero) zero p r g ne = absurd (omega (arith, g.high))
    by_digits (suc zero) (suc zero) p r g ne = carried 1 1 p r refl g ne
    by_digits (suc (suc a)) c p r g ne = absurd (omega (arith, p))
    by_digits a (suc (suc c)) p r g ne = absurd (omega (arith, r))
