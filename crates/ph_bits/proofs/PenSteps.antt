-- One field more: in the word that is kept, or over its end.
use Rattle.std.proofs.Common.{◌≡◌, ℕ, suc, ◌+◌, ◌-◌, ◌*◌, ◌/◌, ◌%◌, ◌^◌, ◌<◌, ◌≤◌, sym, ◌∙◌, ap, subst, arith, List, [], ◌∷◌, ◌++◌, length, length-append, bit_and}
use Rattle.std.proofs.lemmas.Nat.{pow-add, shl_whole, shr_split, shr_below, and_mask}
use Rattle.std.proofs.Math.Nat.{mul-le-mul_left, mod-eq_of_lt, pow-le-pow_right}
use Rattle.ph_bits.specs.Fields.{number_in}
use Rattle.ph_model.proofs.laws.WordDigits.{number-append}

-- a word more
pub number-push : (ws : List ℕ) (x : ℕ) → number_in (ws ++ x ∷ []) ≡ number_in ws * 2 ^ 64 + x
number-push ws x = number-append ws (x ∷ []) ∙ omega arith

pub length-push : (ws : List ℕ) (x : ℕ) → length (ws ++ x ∷ []) ≡ length ws + 1
length-push ws x = length-append ws (x ∷ [])

-- ---- numbers

pub power_fits : (j : ℕ) → j < 64 → 2 ^ j < 2 ^ 64
power_fits j l = let q : j ≤ 63 = omega (arith, l) in let o : 0 < 2 = omega arith in let m : 2 ^ j ≤ 2 ^ 63 = pow-le-pow_right o q in omega (arith, m)

below : (k v J W : ℕ) → k < J → v < W → k * W + v < J * W
below k v J W a b = let m : W * suc k ≤ W * J = mul-le-mul_left W a in omega (arith, b, m)

pub shifted : (k room w : ℕ) → k < 2 ^ (64 - room) → room ≤ 64 → w ≤ room → k * 2 ^ w % 2 ^ 64 ≡ k * 2 ^ w
shifted k room w a l m = shl_whole k (64 - room) w 64 a (omega (arith, l, m))

-- the digits kept, and v behind them
pub kept_more : (k room w v : ℕ) → k < 2 ^ (64 - room) → room ≤ 64 → w ≤ room → v < 2 ^ w → k * 2 ^ w % 2 ^ 64 + v < 2 ^ (64 - (room - w))
kept_more k room w v a l m b =
    let e : 64 - (room - w) ≡ 64 - room + w = omega (arith, l, m) in
    let p : 2 ^ (64 - (room - w)) ≡ 2 ^ (64 - room) * 2 ^ w = ap (λ t. 2 ^ t) e ∙ pow-add 2 (64 - room) w in
    let s : k * 2 ^ w % 2 ^ 64 + v ≡ k * 2 ^ w + v = ap (λ t. t + v) (shifted k room w a l m) in
    subst (λ t. k * 2 ^ w % 2 ^ 64 + v < t) (sym p) (subst (λ t. t < 2 ^ (64 - room) * 2 ^ w) (sym s) (below k v (2 ^ (64 - room)) (2 ^ w) a b))

pub fits_more : (k room w v : ℕ) → k < 2 ^ (64 - room) → room ≤ 64 → w < room → v < 2 ^ w → k * 2 ^ w % 2 ^ 64 + v < 2 ^ 64
fits_more k room w v a l m b =
    let c : k * 2 ^ w % 2 ^ 64 + v < 2 ^ (64 - (room - w)) = kept_more k room w v a l (omega (arith, m)) b in
    let p : 2 ^ (64 - (room - w)) < 2 ^ 64 = power_fits (64 - (room - w)) (omega (arith, l, m)) in
    omega (arith, c, p)

pub number_more : (n k room w v : ℕ) → k < 2 ^ (64 - room) → room ≤ 64 → w ≤ room →
    n * 2 ^ (64 - (room - w)) + (k * 2 ^ w % 2 ^ 64 + v) ≡ (n * 2 ^ (64 - room) + k) * 2 ^ w + v
number_more n k room w v a l m =
    let e : 64 - (room - w) ≡ 64 - room + w = omega (arith, l, m) in
    let p : n * 2 ^ (64 - (room - w)) ≡ n * (2 ^ (64 - room) * 2 ^ w) = ap (λ t. n * 2 ^ t) e ∙ ap (λ t. n * t) (pow-add 2 (64 - room) w) in
    omega (arith, p, shifted k room w a l m)

-- the word that becomes full
high : (v room w : ℕ) → room ≤ w → v < 2 ^ w → v / 2 ^ (w - room) < 2 ^ room
high v room w l a = let e : w ≡ room + (w - room) = omega (arith, l) in shr_below v room (w - room) (subst (λ t. v < 2 ^ t) e a)

pub fits_full : (k room w v : ℕ) → k < 2 ^ (64 - room) → room ≤ 64 → room ≤ w → v < 2 ^ w → k * 2 ^ room % 2 ^ 64 + v / 2 ^ (w - room) < 2 ^ 64
fits_full k room w v a l m b =
    let h : v / 2 ^ (w - room) < 2 ^ room = high v room w m b in
    let e : 64 - (room - room) ≡ 64 = omega arith in
    subst (λ t. k * 2 ^ room % 2 ^ 64 + v / 2 ^ (w - room) < 2 ^ t) e (kept_more k room room (v / 2 ^ (w - room)) a l (omega arith) h)

pub masked : (v low : ℕ) → low < 64 → bit_and v (1 * 2 ^ low % 2 ^ 64 - 1) ≡ v % 2 ^ low
masked v low l =
    let p : 2 ^ low < 2 ^ 64 = power_fits low l in
    let o : 1 * 2 ^ low ≡ 2 ^ low = omega arith in
    let e : 1 * 2 ^ low % 2 ^ 64 ≡ 2 ^ low = ap (λ t. t % 2 ^ 64) o ∙ mod-eq_of_lt p in
    ap (λ t. bit_and v (t - 1)) e ∙ and_mask v low

pub number_full : (n k room w v : ℕ) → k < 2 ^ (64 - room) → room ≤ 64 → 1 ≤ room → room ≤ w → w ≤ 64
    → (n * 2 ^ 64 + (k * 2 ^ room % 2 ^ 64 + v / 2 ^ (w - room))) * 2 ^ (64 - (64 - (w - room))) + bit_and v
    (1 * 2 ^ (w - room) % 2 ^ 64 - 1) ≡ (n * 2 ^ (64 - room) + k) * 2 ^ w + v
number_full n k room w v a l o m q =
    let low : ℕ = w - room in
    let e : 64 - (64 - (w - room)) ≡ w - room = omega (arith, q) in
    let f : w ≡ room + (w - room) = omega (arith, m) in
    let g : 64 ≡ 64 - room + room = omega (arith, l) in
    ap (λ t. (n * 2 ^ 64 + (k * 2 ^ room % 2 ^ 64 + v / 2 ^ low)) * 2 ^ t + bit_and v (1 * 2 ^ low % 2 ^ 64 - 1)) e
    ∙ ap (λ t. (n * 2 ^ 64 + (t + v / 2 ^ low)) * 2 ^ low + bit_and v (1 * 2 ^ low % 2 ^ 64 - 1)) (shifted k room room a l (omega arith))
    ∙ ap (λ t. (n * 2 ^ 64 + (k * 2 ^ room + v / 2 ^ low)) * 2 ^ low + t) (masked v low (omega (arith, o, q)))
    ∙ ap (λ t. (n * t + (k * 2 ^ room + v / 2 ^ low)) * 2 ^ low + v % 2 ^ low) (ap (λ t. 2 ^ t) g ∙ pow-add 2 (64 - room) room)
    ∙ sum n k v (2 ^ (64 - room)) (2 ^ room) (2 ^ low) (v / 2 ^ low) (v % 2 ^ low) (shr_split v low)
    ∙ ap (λ t. (n * 2 ^ (64 - room) + k) * t + v) (sym (ap (λ t. 2 ^ t) f ∙ pow-add 2 room low))
  where
    sum : (n k v A R L h r : ℕ) → h * L + r ≡ v → (n * (A * R) + (k * R + h)) * L + r ≡ (n * A + k) * (R * L) + v
    sum n k v A R L h r e = omega (arith, e)

-- the last word
pub number_end : (n k room d place : ℕ) → k < 2 ^ (64 - room) → room ≤ 64 → d ≡ 64 * place + (64 - room) →
    n * 2 ^ 64 + k * 2 ^ room % 2 ^ 64 ≡ (n * 2 ^ (64 - room) + k) * 2 ^ (64 * (place + 1) - d)
number_end n k room d place a l e =
    let f : 64 * (place + 1) - d ≡ room = omega (arith, l, e) in
    let g : 64 ≡ 64 - room + room = omega (arith, l) in
    ap (λ t. n * 2 ^ 64 + t) (shifted k room room a l (omega arith))
    ∙ ap (λ t. n * t + k * 2 ^ room) (ap (λ t. 2 ^ t) g ∙ pow-add 2 (64 - room) room)
    ∙ sum n k (2 ^ (64 - room)) (2 ^ room)
    ∙ ap (λ t. (n * 2 ^ (64 - room) + k) * 2 ^ t) (sym f)
  where
    sum : (n k A R : ℕ) → n * (A * R) + k * R ≡ (n * A + k) * R
    sum n k A R = omega arith

-- ---- zeros

-- a word of zeros more
pub number-zeros : (n m i : ℕ) → m ≡ n * 2 ^ (64 * i) → m * 2 ^ 64 + 0 ≡ n * 2 ^ (64 * (i + 1))
number-zeros n m i e =
    let q : 64 * i + 64 ≡ 64 * (i + 1) = omega arith in
    ap (λ t. t * 2 ^ 64 + 0) e ∙ turn n (2 ^ (64 * i)) (2 ^ 64) ∙ ap (λ t. n * t) (sym (pow-add 2 (64 * i) 64) ∙ ap (λ t. 2 ^ t) q)
  where
    turn : (n a b : ℕ) → n * a * b + 0 ≡ n * (a * b)
    turn n a b = omega arith

-- a pen at the beginning of a word
pub number-begun : (n k room : ℕ) → room ≡ 64 → k < 2 ^ (64 - room) → n * 2 ^ (64 - room) + k ≡ n
number-begun n k room e l =
    let z : 64 - room ≡ 0 = omega (arith, e) in
    let m : k < 2 ^ 0 = subst (λ t. k < 2 ^ t) z l in
    ap (λ t. n * 2 ^ t + k) z ∙ omega (arith, m)

-- zeros in three runs
pub zeros-runs : (n first whole last all : ℕ) → first + whole + last ≡ all → n * 2 ^ first * 2 ^ whole * 2 ^ last ≡ n * 2 ^ all
zeros-runs n first whole last all e =
    turn n (2 ^ first) (2 ^ whole) (2 ^ last)
    ∙ ap (λ t. n * (t * 2 ^ last)) (sym (pow-add 2 first whole))
    ∙ ap (λ t. n * t) (sym (pow-add 2 (first + whole) last))
    ∙ ap (λ t. n * 2 ^ t) e
  where
    turn : (n a b c : ℕ) → n * a * b * c ≡ n * (a * b * c)
    turn n a b c = omega arith
