-- The step to the next address that fits, with the digits filled in below the highest one that does not fit.
use Rattle.std.proofs.Common.{◌≡◌, ◌≢◌, ℕ, zero, suc, ◌+◌, ◌-◌, ◌*◌, ◌/◌, ◌%◌, ◌^◌, ◌<◌, ◌≤◌, refl, sym, ◌∙◌, ap, subst, arith, max}
use Rattle.std.proofs.Common.{min, Bool, true, false, cond, ◌&&◌, inl, inr, eq-eqb, eqb-true, ne_eqb, bit_and, bit_or}
use Rattle.std.specs.Prelude.{◌==◌, Option, Some, None, if◌then◌else◌}
use Rattle.std.proofs.lemmas.Nat.{pow_pos, leading_top, or_lt, and_le_r}
use Rattle.std.specs.Int.Count.{count_leading_zeros}
use Rattle.std.specs.Int.Bits.{or_zero_r}
use Rattle.ph_model.specs.Masks.{fits_masks, next_fitting, then_last, IsNext, IsNextOf}
use Rattle.ph_specs.proofs.lemmas.Places.{pow-next}
use Rattle.ph_model.proofs.lemmas.MaskDigits.{or-next, and-next}
use Rattle.ph_specs.proofs.lemmas.Tests.{and-parts}
use Rattle.ph_model.proofs.laws.NextAddress.{Fits, fits, fit-test, FitsNext, fits-next, next-fits, half-small, back, bit, masked, not-next, filled-next}
use Rattle.ph_model.proofs.laws.NextAddress.{carried-front}
use Rattle.ph_model.proofs.laws.NextFitting.{next_fitting-least}
use Rattle.std.proofs.Math.Pow.{pow_mono}
use Rattle.std.proofs.Math.Nat.{mod-eq_of_lt}
use Rattle.std.specs.Option.{SomeIff}
use Rattle.ph_zorder.specs.Fill.{IsFill}

-- a 1 at each place below the highest digit of a number of so many digits
abbrev pub filled : ℕ → ℕ → ℕ
filled zero c = 0
filled (suc n) c = cond (c / 2 == 0) 0 (filled n (c / 2) * 2 + 1)

-- the digits of an address that do not fit the masks
abbrev pub blocked : ℕ → ℕ → ℕ → ℕ → ℕ
blocked n h l u = bit_or (bit_and h (2 ^ n - 1 - u)) (bit_and l (2 ^ n - 1 - h))

abbrev pub full : ℕ → ℕ → ℕ → ℕ → ℕ
full n h l u = bit_or (bit_or h (2 ^ n - 1 - u)) (filled n (blocked n h l u))

-- ---- the fill of a word

filled-zero : (n : ℕ) → filled n 0 ≡ 0
filled-zero zero = refl
filled-zero (suc n) = refl

filled-top : (n c t : ℕ) → c < 2 ^ n → 2 ^ t ≤ c → c < 2 ^ (t + 1) → filled n c ≡ 2 ^ t - 1
filled-top zero c t l g h = absurd (omega (arith, l, g, pow_pos t))
filled-top (suc n) c zero l g h =
    let z : c / 2 ≡ 0 = omega (arith, h, back c) in
    ap (λ b. cond b 0 (filled n (c / 2) * 2 + 1)) (eq-eqb (c / 2) 0 z)
filled-top (suc n) c (suc t) l g h =
    let p : 2 ^ suc t ≡ 2 * 2 ^ t = ap (λ k. 2 ^ k) (let s : suc t ≡ t + 1 = omega arith in s) ∙ pow-next t in
    let q : 2 ^ (suc t + 1) ≡ 2 * 2 ^ suc t = pow-next (suc t) in
    let r : 2 ^ (t + 1) ≡ 2 * 2 ^ t = pow-next t in
    let o : 0 < 2 ^ t = pow_pos t in
    let low : 2 ^ t ≤ c / 2 = omega (arith, g, p, back c, bit c) in
    let high : c / 2 < 2 ^ (t + 1) = omega (arith, h, p, q, r, back c) in
    let nz : c / 2 ≡ 0 → ⊥ = λ e. omega (arith, e, low, o) in
    let ih : filled n (c / 2) ≡ 2 ^ t - 1 = filled-top n (c / 2) t (half-small n c l) low high in
    ap (λ b. cond b 0 (filled n (c / 2) * 2 + 1)) (ne_eqb (c / 2) 0 nz) ∙ (let e : filled n (c / 2) * 2 + 1 ≡ 2 ^ suc t - 1 = omega (arith, ih, p, o) in e)

pub fill-is : (n c f : ℕ) → c < 2 ^ n → IsFill c f → f ≡ filled n c
fill-is n c f l (inl x) = x.1 ∙ sym (ap (filled n) x.0 ∙ filled-zero n)
fill-is n c f l (inr x) = x.3 ∙ sym (filled-top n c x.0 l x.1 x.2)

-- ---- digits that do not fit

without-next : (n h u a c : ℕ) → a < 2 → c < 2 → u < 2 ^ n → bit_and (h * 2 + a) (2 ^ suc n - 1 - (u * 2 + c)) ≡ bit_and h (2 ^ n - 1 - u) * 2 + min a (1 - c)
without-next n h u a c p r k =
    ap (λ t. bit_and (h * 2 + a) t) (not-next n u c r k) ∙ and-next h (2 ^ n - 1 - u) a (1 - c) p (omega (arith, r))

abbrev stop : ℕ → ℕ → ℕ → ℕ
stop a b c = max (min a (1 - c)) (min b (1 - a))

blocked-next : (n h l u a b c : ℕ) → a < 2 → b < 2 → c < 2 → h < 2 ^ n → u < 2 ^ n →
    blocked (suc n) (h * 2 + a) (l * 2 + b) (u * 2 + c) ≡ blocked n h l u * 2 + stop a b c
blocked-next n h l u a b c p q r i k =
    ap (λ t. bit_or t (bit_and (l * 2 + b) (2 ^ suc n - 1 - (h * 2 + a)))) (without-next n h u a c p r k)
    ∙ ap (λ t. bit_or (bit_and h (2 ^ n - 1 - u) * 2 + min a (1 - c)) t) (without-next n l h b a q p i)
    ∙ or-next (bit_and h (2 ^ n - 1 - u)) (bit_and l (2 ^ n - 1 - h)) (min a (1 - c)) (min b (1 - a)) (omega (arith, p)) (omega (arith, q))

stop-none : (a b c : ℕ) → a < 2 → b < 2 → c < 2 → b ≤ a → a ≤ c → stop a b c ≡ 0
stop-none a b c p q r x y = omega (arith, p, q, r, x, y)

stop-fits : (a b c : ℕ) → a < 2 → b < 2 → c < 2 → stop a b c ≡ 0 → (b ≤ a) × (a ≤ c)
stop-fits a b c p q r e = (omega (arith, p, q, r, e), omega (arith, p, q, r, e))

-- an address of halves by what is behind a digit
module _ (P : ℕ → ℕ → ℕ → Type 0) where
  by_halves : (h l u : ℕ) → P (h / 2 * 2 + h % 2) (l / 2 * 2 + l % 2) (u / 2 * 2 + u % 2) → P h l u
  by_halves h l u x =
      subst (λ t. P t l u) (back h) (subst (λ t. P (h / 2 * 2 + h % 2) t u) (back l) (subst (λ t. P (h / 2 * 2 + h % 2) (l / 2 * 2 + l % 2) t) (back u) x))

blocked-none : (n h l u : ℕ) → h < 2 ^ n → l < 2 ^ n → u < 2 ^ n → fits_masks h l u ≡ true → blocked n h l u ≡ 0
blocked-none zero zero zero zero p q r f = refl
blocked-none zero (suc h) l u p q r f = absurd (omega (arith, p))
blocked-none zero zero (suc l) u p q r f = absurd (omega (arith, q))
blocked-none zero zero zero (suc u) p q r f = absurd (omega (arith, r))
blocked-none (suc n) h l u p q r f =
    by_halves (λ h l u. fits_masks h l u ≡ true → blocked (suc n) h l u ≡ 0) h l u
    (λ g. step (blocked-none n (h / 2) (l / 2) (u / 2) (half-small n h p) (half-small n l q) (half-small n u r))
    (fits-next (h / 2) (l / 2) (u / 2) (h % 2) (l % 2) (u % 2) (bit h) (bit l) (bit u) (fits _ _ _ g)))
    f
  where
    step : (fits_masks (h / 2) (l / 2) (u / 2) ≡ true → blocked n (h / 2) (l / 2) (u / 2) ≡ 0) →
        FitsNext (h / 2) (l / 2) (u / 2) (h % 2) (l % 2) (u % 2) →
        blocked (suc n) (h / 2 * 2 + h % 2) (l / 2 * 2 + l % 2) (u / 2 * 2 + u % 2) ≡ 0
    step k x =
        let e : blocked (suc n) (h / 2 * 2 + h % 2) (l / 2 * 2 + l % 2) (u / 2 * 2 + u % 2) ≡
        blocked n (h / 2) (l / 2) (u / 2) * 2 + stop (h % 2) (l % 2) (u % 2) = blocked-next n (h / 2) (l / 2)
        (u / 2) (h % 2) (l % 2) (u % 2) (bit h) (bit l) (bit u) (half-small n h p) (half-small n u r) in
        let ih : blocked n (h / 2) (l / 2) (u / 2) ≡ 0 = k (fit-test (h / 2) (l / 2) (u / 2) x.rest) in
        let s : stop (h % 2) (l % 2) (u % 2) ≡ 0 = stop-none (h % 2) (l % 2) (u % 2) (bit h) (bit l) (bit u) x.low x.high in
        let g : blocked n (h / 2) (l / 2) (u / 2) * 2 + stop (h % 2) (l % 2) (u % 2) ≡ 0 = omega (arith, ih, s) in
        e ∙ g

none-blocked : (n h l u : ℕ) → h < 2 ^ n → l < 2 ^ n → u < 2 ^ n → blocked n h l u ≡ 0 → Fits h l u
none-blocked zero zero zero zero p q r f = record { over = refl; under = refl }
none-blocked zero (suc h) l u p q r f = absurd (omega (arith, p))
none-blocked zero zero (suc l) u p q r f = absurd (omega (arith, q))
none-blocked zero zero zero (suc u) p q r f = absurd (omega (arith, r))
none-blocked (suc n) h l u p q r f =
    by_halves (λ h l u. blocked (suc n) h l u ≡ 0 → Fits h l u) h l u
    (step (none-blocked n (h / 2) (l / 2) (u / 2) (half-small n h p) (half-small n l q) (half-small n u r))) f
  where
    step : (blocked n (h / 2) (l / 2) (u / 2) ≡ 0 → Fits (h / 2) (l / 2) (u / 2)) →
        blocked (suc n) (h / 2 * 2 + h % 2) (l / 2 * 2 + l % 2) (u / 2 * 2 + u % 2) ≡ 0 →
        Fits (h / 2 * 2 + h % 2) (l / 2 * 2 + l % 2) (u / 2 * 2 + u % 2)
    step k g =
        let e : blocked (suc n) (h / 2 * 2 + h % 2) (l / 2 * 2 + l % 2) (u / 2 * 2 + u % 2) ≡
        blocked n (h / 2) (l / 2) (u / 2) * 2 + stop (h % 2) (l % 2) (u % 2) = blocked-next n (h / 2) (l / 2)
        (u / 2) (h % 2) (l % 2) (u % 2) (bit h) (bit l) (bit u) (half-small n h p) (half-small n u r) in
        let z : blocked n (h / 2) (l / 2) (u / 2) ≡ 0 = both (blocked n (h / 2) (l / 2) (u / 2)) (stop (h % 2) (l % 2) (u % 2)) (sym e ∙ g) in
        let s : stop (h % 2) (l % 2) (u % 2) ≡ 0 = other (blocked n (h / 2) (l / 2) (u / 2)) (stop (h % 2) (l % 2) (u % 2)) (sym e ∙ g) in
        let o : (l % 2 ≤ h % 2) × (h % 2 ≤ u % 2) = stop-fits (h % 2) (l % 2) (u % 2) (bit h) (bit l) (bit u) s in
        next-fits (h / 2) (l / 2) (u / 2) (h % 2) (l % 2) (u % 2) (bit h) (bit l) (bit u) (record { rest = k z; low = o.0; high = o.1 })
      where
        both : (x y : ℕ) → x * 2 + y ≡ 0 → x ≡ 0
        both x y e = omega (arith, e)

        other : (x y : ℕ) → x * 2 + y ≡ 0 → y ≡ 0
        other x y e = omega (arith, e)

-- ---- the step

-- what a full word gives: it is raised by 1, its digits that the upper mask has not go, and those of the lower mask come
abbrev pub raised : ℕ → ℕ → ℕ → ℕ
raised x l u = bit_or (bit_and (x + 1) u) l

or-zero : (x : ℕ) → bit_or x 0 ≡ x
or-zero x = or_zero_r x

-- the last digit is full: the digits in front of it are raised
raised-front : (x l u b c : ℕ) → b < 2 → c < 2 → raised (x * 2 + 1) (l * 2 + b) (u * 2 + c) ≡ raised x l u * 2 + b
raised-front x l u b c q r = carried-front x l u b c q r

-- the last digit rises
raised-last : (n h l u b : ℕ) → b < 2 → h < 2 ^ n → u < 2 ^ n → Fits h l u → raised (bit_or h (2 ^ n - 1 - u) * 2 + 0) (l * 2 + b) (u * 2 + 1) ≡ h * 2 + 1
raised-last n h l u b q i k f =
    let x : ℕ = bit_or h (2 ^ n - 1 - u) in
    let s : bit_or h (2 ^ n - 1 - u) * 2 + 0 + 1 ≡ bit_or h (2 ^ n - 1 - u) * 2 + 1 = omega arith in
    let y : max 1 b ≡ 1 = omega (arith, q) in
    ap (λ t. bit_or (bit_and t (u * 2 + 1)) (l * 2 + b)) s
    ∙ ap (λ t. bit_or t (l * 2 + b)) (and-next x u 1 1 (omega arith) (omega arith) ∙ ap (λ t. t * 2 + 1) (masked n h u i k f.under))
    ∙ or-next h l 1 b (omega arith) q
    ∙ ap (λ t. t * 2 + max 1 b) f.over ∙ ap (λ t. h * 2 + t) y

-- what the full word of an address is, and what it gives
pub record IsStep (n h l u : ℕ) (x : ℕ) (answer : Option ℕ) : Type 0 where
  pub within : x < 2 ^ n
  pub found : x + 1 < 2 ^ n → answer ≡ Some (raised x l u)
  pub none : x + 1 ≡ 2 ^ n → answer ≡ None

filled-last : (n c d : ℕ) → d < 2 → filled (suc n) (c * 2 + d) ≡ cond (c == 0) 0 (filled n c * 2 + 1)
filled-last n c d l =
    let e : (c * 2 + d) / 2 ≡ c = omega (arith, l, back (c * 2 + d), bit (c * 2 + d)) in
    ap (λ t. cond (t == 0) 0 (filled n t * 2 + 1)) e

full-fits : (n h l u : ℕ) → blocked n h l u ≡ 0 → full n h l u ≡ bit_or h (2 ^ n - 1 - u)
full-fits n h l u e = ap (λ t. bit_or (bit_or h (2 ^ n - 1 - u)) t) (ap (filled n) e ∙ filled-zero n) ∙ or-zero (bit_or h (2 ^ n - 1 - u))

full-next : (n h l u a b c : ℕ) → a < 2 → b < 2 → c < 2 → h < 2 ^ n → u < 2 ^ n →
    full (suc n) (h * 2 + a) (l * 2 + b) (u * 2 + c) ≡ bit_or (bit_or h (2 ^ n - 1 - u) * 2 + max a (1 - c))
    (cond (blocked n h l u == 0) 0 (filled n (blocked n h l u) * 2 + 1))
full-next n h l u a b c p q r i k =
    let s : stop a b c < 2 = omega (arith, p, q, r) in
    ap (λ t. bit_or t (filled (suc n) (blocked (suc n) (h * 2 + a) (l * 2 + b) (u * 2 + c)))) (filled-next n h u a c p r k)
    ∙ ap (λ t. bit_or (bit_or h (2 ^ n - 1 - u) * 2 + max a (1 - c)) t)
    (ap (filled (suc n)) (blocked-next n h l u a b c p q r i k) ∙ filled-last n (blocked n h l u) (stop a b c) s)

full-open : (n h l u a b c : ℕ) → a < 2 → b < 2 → c < 2 → h < 2 ^ n → u < 2 ^ n → blocked n h l u ≡ 0 →
    full (suc n) (h * 2 + a) (l * 2 + b) (u * 2 + c) ≡ bit_or h (2 ^ n - 1 - u) * 2 + max a (1 - c)
full-open n h l u a b c p q r i k e =
    full-next n h l u a b c p q r i k
    ∙ ap (λ t. bit_or (bit_or h (2 ^ n - 1 - u) * 2 + max a (1 - c)) (cond t 0 (filled n (blocked n h l u) * 2 + 1))) (eq-eqb (blocked n h l u) 0 e)
    ∙ or-zero (bit_or h (2 ^ n - 1 - u) * 2 + max a (1 - c))

full-shut : (n h l u a b c : ℕ) → a < 2 → b < 2 → c < 2 → h < 2 ^ n → u < 2 ^ n → (blocked n h l u ≡ 0 → ⊥) →
    full (suc n) (h * 2 + a) (l * 2 + b) (u * 2 + c) ≡ full n h l u * 2 + 1
full-shut n h l u a b c p q r i k e =
    let m : max a (1 - c) < 2 = omega (arith, p) in
    let o : max (max a (1 - c)) 1 ≡ 1 = omega (arith, p) in
    full-next n h l u a b c p q r i k
    ∙ ap (λ t. bit_or (bit_or h (2 ^ n - 1 - u) * 2 + max a (1 - c)) (cond t 0 (filled n (blocked n h l u) * 2 + 1))) (ne_eqb (blocked n h l u) 0 e)
    ∙ or-next (bit_or h (2 ^ n - 1 - u)) (filled n (blocked n h l u)) (max a (1 - c)) 1 m (omega arith)
    ∙ ap (λ t. bit_or (bit_or h (2 ^ n - 1 - u)) (filled n (blocked n h l u)) * 2 + t) o

-- ---- the answer

none-last : (b : ℕ) (o : Option ℕ) → o ≡ None → then_last b o ≡ None
none-last b o e = ap (then_last b) e

some-last : (b k : ℕ) (o : Option ℕ) → o ≡ Some k → then_last b o ≡ Some (k * 2 + b)
some-last b k o e = ap (then_last b) e

front : (n h l u b c x : ℕ) (o : Option ℕ) → b < 2 → c < 2 → IsStep n h l u x o → IsStep (suc n) (h * 2) (l * 2 + b) (u * 2 + c) (x * 2 + 1) (then_last b o)
front n h l u b c x o q r i =
    let e : 2 ^ suc n ≡ 2 * 2 ^ n = ap (λ t. 2 ^ t) (let s : suc n ≡ n + 1 = omega arith in s) ∙ pow-next n in
    record {
      within = omega (arith, e, i.within);
      found = λ k. some-last b (raised x l u) o (i.found (omega (arith, k, e))) ∙ ap {B = Option ℕ} (λ t. Some t) (sym (raised-front x l u b c q r));
      none = λ k. none-last b o (i.none (omega (arith, k, e)));
    }

-- a last digit that rises
rises : (n h l u b : ℕ) → b < 2 → h < 2 ^ n → l < 2 ^ n → u < 2 ^ n → Fits h l u → (x : ℕ) →
    x ≡ bit_or h (2 ^ n - 1 - u) * 2 + 0 → bit_or h (2 ^ n - 1 - u) < 2 ^ n →
    IsStep (suc n) (h * 2 + 0) (l * 2 + b) (u * 2 + 1) x (Some (h * 2 + 0 + 1))
rises n h l u b q i j k f x e s =
    let p : 2 ^ suc n ≡ 2 * 2 ^ n = ap (λ t. 2 ^ t) (let s : suc n ≡ n + 1 = omega arith in s) ∙ pow-next n in
    let g : raised x (l * 2 + b) (u * 2 + 1) ≡ h * 2 + 1 = ap (λ t. raised t (l * 2 + b) (u * 2 + 1)) e ∙ raised-last n h l u b q i k f in
    let g' : raised x (l * 2 + b) (u * 2 + 1) ≡ h * 2 + 0 + 1 = omega (arith, g) in
    record {
      within = omega (arith, e, s, p);
      found = λ m. ap {B = Option ℕ} (λ t. Some t) (sym g');
      none = λ m. absurd (omega (arith, m, e, p));
    }

step_of : (n h l u a b c x : ℕ) (o : Option ℕ) → a < 2 → b < 2 → c < 2 → h < 2 ^ n → l < 2 ^ n → u < 2 ^ n → x ≡ full n h l u → IsStep n h l u x o
    → (t : Bool) → (fits_masks h l u && (a == 0 && c == 1)) ≡ t →
    IsStep (suc n) (h * 2 + a) (l * 2 + b) (u * 2 + c) (full (suc n) (h * 2 + a) (l * 2 + b) (u * 2 + c))
    (if t then Some (h * 2 + a + 1) else then_last b o)
step_of n h l u a b c x o p q r i j k e s true g =
    let y : (fits_masks h l u ≡ true) × ((a == 0 && c == 1) ≡ true) = and-parts (fits_masks h l u) (a == 0 && c == 1) g in
    let z : ((a == 0) ≡ true) × ((c == 1) ≡ true) = and-parts (a == 0) (c == 1) y.1 in
    let ea : 0 ≡ a = sym (eqb-true a 0 z.0) in
    let ec : 1 ≡ c = sym (eqb-true c 1 z.1) in
    let none : blocked n h l u ≡ 0 = blocked-none n h l u i j k y.0 in
    let w : full (suc n) (h * 2 + 0) (l * 2 + b) (u * 2 + 1) ≡ bit_or h (2 ^ n - 1 - u) * 2 + max 0 (1 - 1) =
    full-open n h l u 0 b 1 (omega arith) q (omega arith) i k none in
    let v : full (suc n) (h * 2 + 0) (l * 2 + b) (u * 2 + 1) ≡ bit_or h (2 ^ n - 1 - u) * 2 + 0 = omega (arith, w) in
    let m : full n h l u ≡ bit_or h (2 ^ n - 1 - u) = full-fits n h l u none in
    subst (λ a. IsStep (suc n) (h * 2 + a) (l * 2 + b) (u * 2 + c) (full (suc n) (h * 2 + a) (l * 2 + b) (u * 2 + c)) (Some (h * 2 + a + 1))) ea
    (subst (λ c. IsStep (suc n) (h * 2 + 0) (l * 2 + b) (u * 2 + c) (full (suc n) (h * 2 + 0) (l * 2 + b) (u * 2 + c)) (Some (h * 2 + 0 + 1))) ec
    (rises n h l u b q i j k (fits h l u y.0) (full (suc n) (h * 2 + 0) (l * 2 + b) (u * 2 + 1)) v (omega (arith, m, e, s.within))))
step_of n h l u a b c x o p q r i j k e s false g =
    carried (full-odd (blocked n h l u == 0) refl)
  where
    stuck : (a c : ℕ) → a < 2 → c < 2 → (a == 0 && c == 1) ≡ false → max a (1 - c) ≡ 1
    stuck zero zero p r g = refl
    stuck zero (suc zero) p r g = cc
    stuck zero (suc (suc c)) p r g = absurd (omega (arith, r))
    stuck (suc zero) c p r g = omega arith
    stuck (suc (suc a)) c p r g = absurd (omega (arith, p))

    full-odd : (t : Bool) → (blocked n h l u == 0) ≡ t → full (suc n) (h * 2 + a) (l * 2 + b) (u * 2 + c) ≡ x * 2 + 1
    full-odd true d =
        let none : blocked n h l u ≡ 0 = eqb-true (blocked n h l u) 0 d in
        let f : fits_masks h l u ≡ true = fit-test h l u (none-blocked n h l u i j k none) in
        let st : max a (1 - c) ≡ 1 = stuck a c p r (sym (ap (λ t. t && (a == 0 && c == 1)) f) ∙ g) in
        let w : full (suc n) (h * 2 + a) (l * 2 + b) (u * 2 + c) ≡ bit_or h (2 ^ n - 1 - u) * 2 + max a (1 - c) = full-open n h l u a b c p q r i k none in
        omega (arith, w, st, e, full-fits n h l u none)
    full-odd false d =
        let w : full (suc n) (h * 2 + a) (l * 2 + b) (u * 2 + c) ≡ full n h l u * 2 + 1 =
        full-shut n h l u a b c p q r i k (λ z. let no : true ≡ false = sym (eq-eqb (blocked n h l u) 0 z) ∙ d in cc) in
        omega (arith, w, e)

    carried : full (suc n) (h * 2 + a) (l * 2 + b) (u * 2 + c) ≡ x * 2 + 1 →
        IsStep (suc n) (h * 2 + a) (l * 2 + b) (u * 2 + c) (full (suc n) (h * 2 + a) (l * 2 + b) (u * 2 + c)) (then_last b o)
    carried w =
        let d : IsStep (suc n) (h * 2) (l * 2 + b) (u * 2 + c) (x * 2 + 1) (then_last b o) = front n h l u b c x o q r s in
        subst (λ y. IsStep (suc n) (h * 2 + a) (l * 2 + b) (u * 2 + c) y (then_last b o)) (sym w) (record { within = d.within; found = d.found; none = d.none })

-- the step by whole words is the next address that fits
pub full-step : (n h l u : ℕ) → h < 2 ^ n → l < 2 ^ n → u < 2 ^ n → IsStep n h l u (full n h l u) (next_fitting n h l u)
full-step zero zero zero zero p q r = record { within = omega arith; found = λ e. absurd (omega (arith, e)); none = λ e. refl }
full-step zero (suc h) l u p q r = absurd (omega (arith, p))
full-step zero zero (suc l) u p q r = absurd (omega (arith, q))
full-step zero zero zero (suc u) p q r = absurd (omega (arith, r))
full-step (suc n) h l u p q r =
    let t : Bool = fits_masks (h / 2) (l / 2) (u / 2) && (h % 2 == 0 && u % 2 == 1) in
    let o : Option ℕ = next_fitting n (h / 2) (l / 2) (u / 2) in
    let s : IsStep (suc n) (h / 2 * 2 + h % 2) (l / 2 * 2 + l % 2) (u / 2 * 2 + u % 2)
    (full (suc n) (h / 2 * 2 + h % 2) (l / 2 * 2 + l % 2) (u / 2 * 2 + u % 2))
    (if t then Some (h / 2 * 2 + h % 2 + 1) else then_last (l % 2) o) =
    step_of n (h / 2) (l / 2) (u / 2) (h % 2) (l % 2) (u % 2) (full n (h / 2) (l / 2) (u / 2)) o (bit h) (bit l)
    (bit u) (half-small n h p) (half-small n l q) (half-small n u r) refl
    (full-step n (h / 2) (l / 2) (u / 2) (half-small n h p) (half-small n l q) (half-small n u r)) t refl in
    subst (λ z. IsStep (suc n) h l z (full (suc n) h l z) (if t then Some (h + 1) else then_last (l % 2) o)) (back u)
    (subst (λ y. IsStep (suc n) h y (u / 2 * 2 + u % 2) (full (suc n) h y (u / 2 * 2 + u % 2)) (if t then Some (h + 1) else then_last (l % 2) o)) (back l)
    (subst (λ x. IsStep (suc n) x (l / 2 * 2 + l % 2) (u / 2 * 2 + u % 2)
    (full (suc n) x (l / 2 * 2 + l % 2) (u / 2 * 2 + u % 2)) (if t then Some (x + 1) else then_last (l % 2) o)) (back h) s))

-- what the word gives, as the least address that fits
pub next-found : (n h l u fill : ℕ) → h < 2 ^ n → l < 2 ^ n → u < 2 ^ n → bit_and l u ≡ l →
    fill ≡ filled n (blocked n h l u) → bit_or (bit_or h (2 ^ n - 1 - u)) fill + 1 < 2 ^ n →
    IsNextOf h l u (Some (raised (bit_or (bit_or h (2 ^ n - 1 - u)) fill) l u))
next-found n h l u fill p q r m e k =
    let s : IsStep n h l u (full n h l u) (next_fitting n h l u) = full-step n h l u p q r in
    let f : full n h l u ≡ bit_or (bit_or h (2 ^ n - 1 - u)) fill = ap (bit_or (bit_or h (2 ^ n - 1 - u))) (sym e) in
    let g : full n h l u + 1 < 2 ^ n = omega (arith, f, k) in
    subst (IsNextOf h l u) (s.found g ∙ ap {B = Option ℕ} (λ x. Some (raised x l u)) f) (next_fitting-least n h l u q r m)

pub next-none : (n h l u fill : ℕ) → h < 2 ^ n → l < 2 ^ n → u < 2 ^ n → bit_and l u ≡ l →
    fill ≡ filled n (blocked n h l u) → 2 ^ n ≤ bit_or (bit_or h (2 ^ n - 1 - u)) fill + 1 → IsNextOf h l u None
next-none n h l u fill p q r m e k =
    let s : IsStep n h l u (full n h l u) (next_fitting n h l u) = full-step n h l u p q r in
    let f : full n h l u ≡ bit_or (bit_or h (2 ^ n - 1 - u)) fill = ap (bit_or (bit_or h (2 ^ n - 1 - u))) (sym e) in
    let w : full n h l u < 2 ^ n = s.within in
    let g : full n h l u + 1 ≡ 2 ^ n = omega (arith, f, k, w) in
    subst (IsNextOf h l u) (s.none g) (next_fitting-least n h l u q r m)

pub fill-of : (c t f : ℕ) → c ≢ 0 → c < 2 ^ 32 → t ≡ 31 - count_leading_zeros 32 c → f ≡ 2 ^ t - 1 → IsFill c f
fill-of c t f n l e g =
    let top = leading_top 32 c (omega (arith, n)) l in
    let at : t ≡ top.0 = omega (arith, e, top.1) in
    inr (top.0, top.2, subst (λ k. c < 2 ^ k) (let s : suc top.0 ≡ top.0 + 1 = omega arith in s) top.3, g ∙ ap (λ k. 2 ^ k - 1) at)

pub blocked-small : (n h l u : ℕ) → blocked n h l u < 2 ^ n
blocked-small n h l u =
    or_lt n (bit_and h (2 ^ n - 1 - u)) (bit_and l (2 ^ n - 1 - h))
    (omega (arith, and_le_r h (2 ^ n - 1 - u), pow_pos n)) (omega (arith, and_le_r l (2 ^ n - 1 - h), pow_pos n))

-- the answer of the sum that is taken
pub some-found : (n h l u fill : ℕ) (o : Option ℕ) (x : ℕ) → h < 2 ^ n → l < 2 ^ n → u < 2 ^ n → bit_and l u ≡ l →
    IsFill (blocked n h l u) fill →
    SomeIff o (bit_or (bit_or h (2 ^ n - 1 - u)) fill + 1 < 2 ^ n) (bit_or (bit_or h (2 ^ n - 1 - u)) fill + 1) →
    o ≡ Some x → IsNext h l u (bit_or (bit_and x u) l)
some-found n h l u fill None x p q r m f s e = absurd (let no : ◌≡◌ {A = Option ℕ} None (Some x) = e in cc)
some-found n h l u fill (Some y) x p q r m f s e =
    let same : y ≡ x = cc in
    let i : IsNextOf h l u (Some (raised (bit_or (bit_or h (2 ^ n - 1 - u)) fill) l u)) =
    next-found n h l u fill p q r m (fill-is n (blocked n h l u) fill (blocked-small n h l u) f) s.0 in
    subst (λ z. IsNext h l u (bit_or (bit_and z u) l)) (sym s.1 ∙ same) i

pub none-found : (n h l u fill : ℕ) (o : Option ℕ) → h < 2 ^ n → l < 2 ^ n → u < 2 ^ n → bit_and l u ≡ l →
    IsFill (blocked n h l u) fill →
    SomeIff o (bit_or (bit_or h (2 ^ n - 1 - u)) fill + 1 < 2 ^ n) (bit_or (bit_or h (2 ^ n - 1 - u)) fill + 1) →
    o ≡ None → IsNextOf h l u None
none-found n h l u fill (Some y) p q r m f s e = absurd (let no : ◌≡◌ {A = Option ℕ} (Some y) None = e in cc)
none-found n h l u fill None p q r m f s e =
    next-none n h l u fill p q r m (fill-is n (blocked n h l u) fill (blocked-small n h l u) f) (not-less (bit_or (bit_or h (2 ^ n - 1 - u)) fill + 1) (2 ^ n) s)
  where
    not-less : (x y : ℕ) → (x < y → ⊥) → y ≤ x
    not-less x y f = grind (arith, f)

pub fill-top : (c : ℕ) → c ≢ 0 → c < 2 ^ 32 → IsFill c (1 * 2 ^ (31 - count_leading_zeros 32 c) % 4294967296 - 1)
fill-top c n l =
    let t : ℕ = 31 - count_leading_zeros 32 c in
    fill-of c t (1 * 2 ^ t % 4294967296 - 1) n l refl (ap (λ k. k - 1) (small-power t (omega arith)))
  where
    small-power : (t : ℕ) → t ≤ 31 → 1 * 2 ^ t % 4294967296 ≡ 2 ^ t
    small-power t l =
        let s : 2 ^ t < 4294967296 = omega (arith, pow_mono {i = t} {j = 31} l) in
        let m : (1 * 2 ^ t) % 4294967296 ≡ 1 * 2 ^ t = mod-eq_of_lt (omega (arith, s)) in
        omega (arith, m)
