-- The next address that fits behind any number is the least one, and is None exactly where there is none.
use Rattle.std.proofs.Common.{◌≡◌, ℕ, zero, suc, ◌+◌, ◌*◌, ◌/◌, ◌%◌, ◌^◌, ◌<◌, ◌≤◌, refl, sym, ◌∙◌, ap, subst, arith}
use Rattle.std.proofs.Common.{min, Bool, true, false, ◌&&◌, eq-eqb, eqb-true, bit_and, ltb-true, ltb-false}
use Rattle.std.specs.Prelude.{nat_lt, ◌==◌, Option, Some, None, if◌then◌else◌}
use Rattle.ph_model.specs.Masks.{fits_masks, next_fitting, then_last, IsNext, IsNextOf}
use Rattle.ph_model.proofs.lemmas.MaskDigits.{and-next}
use Rattle.ph_model.proofs.laws.NextAddress.{Fits, fits, fit-test, FitsNext, fits-next, next-fits, half-small, back, bit}
use Rattle.ph_model.proofs.laws.MaskBounds.{fits-between}
use Rattle.ph_specs.proofs.lemmas.Tests.{and-parts, and-made}

rising : (h l u b : ℕ) → b < 2 → Fits h l u → IsNext (h * 2 + 0) (l * 2 + b) (u * 2 + 1) (h * 2 + 0 + 1)
rising h l u b q f =
    let e : h * 2 + 0 + 1 ≡ h * 2 + 1 = omega arith in
    subst (IsNext (h * 2 + 0) (l * 2 + b) (u * 2 + 1)) (sym e) (record {
      later = omega arith;
      fitting = fit-test (h * 2 + 1) (l * 2 + b) (u * 2 + 1)
          (next-fits h l u 1 b 1 (omega arith) q (omega arith) (record { rest = f; low = omega (arith, q); high = omega arith }));
      least = λ j l' e. omega (arith, l');
    })

-- a greater address that fits is greater in front of the last digit, where this cannot rise
ahead : (h l u a b c j : ℕ) → a < 2 → b < 2 → c < 2 → (fits_masks h l u && (a == 0 && c == 1)) ≡ false →
    h * 2 + a < j → fits_masks j (l * 2 + b) (u * 2 + c) ≡ true → (h < j / 2) × (fits_masks (j / 2) l u ≡ true) × (b ≤ j % 2)
ahead h l u a b c j p q r e m f =
    by_parts (j / 2) (j % 2) (bit j) (subst (λ t. h * 2 + a < t) (sym (back j)) m) (subst (λ t. fits_masks t (l * 2 + b) (u * 2 + c) ≡ true) (sym (back j)) f)
  where
    stuck : (a c x : ℕ) → a < x → x < 2 → x ≤ c → c < 2 → (a == 0 && c == 1) ≡ true
    stuck a c x k s t r = and-made (a == 0) (c == 1) (eq-eqb a 0 (omega (arith, k, s))) (eq-eqb c 1 (omega (arith, k, t, r)))

    by_parts : (j x : ℕ) → x < 2 → h * 2 + a < j * 2 + x → fits_masks (j * 2 + x) (l * 2 + b) (u * 2 + c) ≡ true → (h < j) × (fits_masks j l u ≡ true) × (b ≤ x)
    by_parts j x s m f = by_less (nat_lt h j) refl
      where
        n : FitsNext j l u x b c
        n = fits-next j l u x b c s q r (fits (j * 2 + x) (l * 2 + b) (u * 2 + c) f)

        by_less : (t : Bool) → nat_lt h j ≡ t → (h < j) × (fits_masks j l u ≡ true) × (b ≤ x)
        by_less true k = (ltb-true h j k, fit-test j l u n.rest, n.low)
        by_less false k =
            let g : j ≤ h = ltb-false h j k in
            let same : j ≡ h = omega (arith, g, m, p, s) in
            let up : a < x = omega (arith, m, same) in
            let y : (fits_masks h l u && (a == 0 && c == 1)) ≡ true = and-made (fits_masks h l u) (a == 0 && c == 1)
            (subst (λ t. fits_masks t l u ≡ true) same (fit-test j l u n.rest)) (stuck a c x up s n.high r) in
            absurd (let no : false ≡ true = sym e ∙ y in cc)

going-on : (h l u a b c : ℕ) (o : Option ℕ) → a < 2 → b < 2 → c < 2 → b ≤ c →
    (fits_masks h l u && (a == 0 && c == 1)) ≡ false → IsNextOf h l u o →
    IsNextOf (h * 2 + a) (l * 2 + b) (u * 2 + c) (then_last b o)
going-on h l u a b c None p q r s e i =
    λ j m f. let x : (h < j / 2) × (fits_masks (j / 2) l u ≡ true) × (b ≤ j % 2) = ahead h l u a b c j p q r e m f in
    i (j / 2) x.0 x.1
going-on h l u a b c (Some k) p q r s e i =
    record {
      later = let z : h < k = i.later in omega (arith, z, p);
      fitting = fit-test (k * 2 + b) (l * 2 + b) (u * 2 + c) (next-fits k l u b b c q q r (record { rest = fits k l u i.fitting; low = omega arith; high = s }));
      least = λ j m f. least j (ahead h l u a b c j p q r e m f);
    }
  where
    least : (j : ℕ) → (h < j / 2) × (fits_masks (j / 2) l u ≡ true) × (b ≤ j % 2) → k * 2 + b ≤ j
    least j x =
        let z : k ≤ j / 2 = i.least (j / 2) x.0 x.1 in omega (arith, z, x.2, back j)

step : (h l u a b c : ℕ) (o : Option ℕ) → a < 2 → b < 2 → c < 2 → b ≤ c → IsNextOf h l u o → (t : Bool) →
    (fits_masks h l u && (a == 0 && c == 1)) ≡ t →
    IsNextOf (h * 2 + a) (l * 2 + b) (u * 2 + c) (if t then Some (h * 2 + a + 1) else then_last b o)
step h l u a b c o p q r s i false e = going-on h l u a b c o p q r s e i
step h l u a b c o p q r s i true e =
    let x : (fits_masks h l u ≡ true) × ((a == 0 && c == 1) ≡ true) = and-parts (fits_masks h l u) (a == 0 && c == 1) e in
    let y : ((a == 0) ≡ true) × ((c == 1) ≡ true) = and-parts (a == 0) (c == 1) x.1 in
    let ea : 0 ≡ a = sym (eqb-true a 0 y.0) in
    let ec : 1 ≡ c = sym (eqb-true c 1 y.1) in
    subst (λ z. IsNext (h * 2 + z) (l * 2 + b) (u * 2 + c) (h * 2 + z + 1)) ea
    (subst (λ z. IsNext (h * 2 + 0) (l * 2 + b) (u * 2 + z) (h * 2 + 0 + 1)) ec (rising h l u b q (fits h l u x.0)))

lower-digits : (l u : ℕ) → bit_and l u ≡ l → (bit_and (l / 2) (u / 2) ≡ l / 2) × (l % 2 ≤ u % 2)
lower-digits l u e =
    let f : bit_and (l / 2 * 2 + l % 2) (u / 2 * 2 + u % 2) ≡ l / 2 * 2 + l % 2 =
    ap (λ x. bit_and x (u / 2 * 2 + u % 2)) (back l) ∙ ap (bit_and l) (back u) ∙ e ∙ sym (back l) in
    let g : bit_and (l / 2) (u / 2) * 2 + min (l % 2) (u % 2) ≡ l / 2 * 2 + l % 2 = sym (and-next (l / 2) (u / 2) (l % 2) (u % 2) (bit l) (bit u)) ∙ f in
    (omega (arith, g, bit l, bit u), omega (arith, g, bit l, bit u))

-- ---- the laws

-- the least address above any number that fits, and None exactly where there is none
pub next_fitting-least : (dims h l u : ℕ) → l < 2 ^ dims → u < 2 ^ dims → bit_and l u ≡ l → IsNextOf h l u (next_fitting dims h l u)
next_fitting-least zero h l u p q e =
    λ j m f. let b : (l ≤ j) × (j ≤ u) = fits-between j l u f in omega (arith, b.1, q, m)
next_fitting-least (suc n) h l u p q e =
    let d : (bit_and (l / 2) (u / 2) ≡ l / 2) × (l % 2 ≤ u % 2) = lower-digits l u e in
    let o : Option ℕ = next_fitting n (h / 2) (l / 2) (u / 2) in
    let t : Bool = fits_masks (h / 2) (l / 2) (u / 2) && (h % 2 == 0 && u % 2 == 1) in
    let s : IsNextOf (h / 2 * 2 + h % 2) (l / 2 * 2 + l % 2) (u / 2 * 2 + u % 2)
    (if t then Some (h / 2 * 2 + h % 2 + 1) else then_last (l % 2) o) = step (h / 2) (l / 2) (u / 2) (h % 2)
    (l % 2) (u % 2) o (bit h) (bit l) (bit u) d.1
    (next_fitting-least n (h / 2) (l / 2) (u / 2) (half-small n l p) (half-small n u q) d.0) t refl in
    subst (λ z. IsNextOf h l z (if t then Some (h + 1) else then_last (l % 2) o)) (back u)
    (subst (λ y. IsNextOf h y (u / 2 * 2 + u % 2) (if t then Some (h + 1) else then_last (l % 2) o)) (back l)
    (subst (λ x. IsNextOf x (l / 2 * 2 + l % 2) (u / 2 * 2 + u % 2) (if t then Some (x + 1) else then_last (l % 2) o)) (back h) s))
