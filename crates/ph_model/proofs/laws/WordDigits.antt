-- Digits of a list of words, by the words that they lie in.
use Rattle.std.proofs.Common.{◌≡◌, ℕ, zero, suc, ◌+◌, ◌-◌, ◌*◌, ◌/◌, ◌%◌, ◌^◌, ◌<◌, ◌≤◌, sym, ◌∙◌, ap, subst, arith}
use Rattle.std.proofs.Common.{List, [], ◌∷◌, ◌++◌, length, length-append, map, slice_index_or, Fits, w64}
use Rattle.std.specs.List.{AllByRecursion as Each}
use Rattle.std.proofs.lemmas.Nat.{div-mul-add, pow-add, mod-pow-add, pow_pos, shr-shr, field_of, shr_high, mod_low, shr_below, mod_below}
use Rattle.std.proofs.Math.Nat.{mul-add-div_right, mul-add-mod_self_right}
use Rattle.std.proofs.Math.Pow.{mod-mod-pow}
use Rattle.ph_specs.specs.Digits.{field, number_of, digits_of}
use Rattle.ph_model.specs.Digits.{digits_at}
use Rattle.ph_specs.proofs.lemmas.Numbers.{number_after-start, number_of-small}
use Rattle.ph_specs.proofs.laws.ReadBack.{digits-words, fit-words}

-- the number that words make
abbrev number_in : List ℕ → ℕ
number_in words = number_of (map (field 64) words)

-- ---- numbers

-- digits far in front do not matter
pub high_gone : (a x e w m : ℕ) → (a * 2 ^ (m + w + e) + x) / 2 ^ e % 2 ^ w ≡ x / 2 ^ e % 2 ^ w
high_gone a x e w m =
    let p : 2 ^ (m + w + e) ≡ 2 ^ m * 2 ^ w * 2 ^ e = pow-add 2 (m + w) e ∙ ap (λ t. t * 2 ^ e) (pow-add 2 m w) in
    let q : a * 2 ^ (m + w + e) ≡ a * (2 ^ m * 2 ^ w * 2 ^ e) = ap (λ t. a * t) p in
    let f : a * 2 ^ (m + w + e) + x ≡ (a * 2 ^ m * 2 ^ w) * 2 ^ e + x = omega (arith, q) in
    ap (λ t. t / 2 ^ e % 2 ^ w) f ∙ ap (λ t. t % 2 ^ w) (mul-add-div_right (pow_pos e) (a * 2 ^ m * 2 ^ w) x) ∙ mul-add-mod_self_right (a * 2 ^ m) (2 ^ w) (x / 2 ^ e)

-- digits behind do not matter
pub low_gone : (a x j k : ℕ) → x < 2 ^ j → (a * 2 ^ j + x) / 2 ^ (j + k) ≡ a / 2 ^ k
low_gone a x j k l = sym (shr-shr (a * 2 ^ j + x) j k) ∙ ap (λ t. t / 2 ^ k) (div-mul-add a (2 ^ j) x l)

-- the last low + room digits that begin in x and end in y
across : (x y low k room : ℕ) → y < 2 ^ (low + k) → (x * 2 ^ (low + k) + y) / 2 ^ k % 2 ^ (room + low) ≡ (x % 2 ^ room) * 2 ^ low + y / 2 ^ k
across x y low k room l =
    let q : x * 2 ^ (low + k) ≡ x * (2 ^ low * 2 ^ k) = ap (λ t. x * t) (pow-add 2 low k) in
    let f : x * 2 ^ (low + k) + y ≡ (x * 2 ^ low) * 2 ^ k + y = omega (arith, q) in
    let g : (x * 2 ^ (low + k) + y) / 2 ^ k ≡ x * 2 ^ low + y / 2 ^ k = ap (λ t. t / 2 ^ k) f ∙ mul-add-div_right (pow_pos k) (x * 2 ^ low) y in
    let s : y / 2 ^ k < 2 ^ low = shr_below y low k l in
    ap (λ t. t % 2 ^ (room + low)) g ∙ mod-pow-add (x * 2 ^ low + y / 2 ^ k) room low
    ∙ ap (λ t. (t % 2 ^ room) * 2 ^ low + (x * 2 ^ low + y / 2 ^ k) % 2 ^ low) (shr_high x low (y / 2 ^ k) s)
    ∙ ap (λ t. (x % 2 ^ room) * 2 ^ low + t) (mod_low x low (y / 2 ^ k) s)

-- ---- lists of words

-- what a contract knows of the words of a slice
pub each-fits : (ws : List ℕ) → ((i : ℕ) → Fits w64 (slice_index_or ws i 0)) → Each (λ x. x < 2 ^ 64) ws
each-fits [] h = tt
each-fits (x ∷ ws) h = ((h 0).fits, each-fits ws (λ i. h (suc i)))

-- a word in front
pub number-front : (x : ℕ) (ws : List ℕ) → number_in (x ∷ ws) ≡ x * 2 ^ (64 * length ws) + number_in ws
number-front x ws =
    let z : 0 * 2 ^ 64 + x ≡ x = omega arith in
    number_after-start (0 * 2 ^ 64 + x) (map (field 64) ws) ∙
    ap (λ t. t * 2 ^ digits_of (map (field 64) ws) + number_in ws) z ∙ ap (λ t. x * 2 ^ t + number_in ws) (digits-words 64 ws)

pub number-small : (ws : List ℕ) → Each (λ x. x < 2 ^ 64) ws → number_in ws < 2 ^ (64 * length ws)
number-small ws h = subst (λ t. number_in ws < 2 ^ t) (digits-words 64 ws) (number_of-small (map (field 64) ws) (fit-words 64 ws h))

pub number-append : (xs ys : List ℕ) → number_in (xs ++ ys) ≡ number_in xs * 2 ^ (64 * length ys) + number_in ys
number-append [] ys = omega arith
number-append (x ∷ xs) ys =
    let a : 64 * length (xs ++ ys) ≡ 64 * length xs + 64 * length ys = ap (λ t. 64 * t) (length-append xs ys) ∙ omega arith in
    let p : x * 2 ^ (64 * length (xs ++ ys)) ≡ x * (2 ^ (64 * length xs) * 2 ^ (64 * length ys)) =
    ap (λ t. x * 2 ^ t) a ∙ ap (λ t. x * t) (pow-add 2 (64 * length xs) (64 * length ys)) in
    let m : number_in (x ∷ xs) * 2 ^ (64 * length ys) ≡ (x * 2 ^ (64 * length xs) + number_in xs) * 2 ^
    (64 * length ys) = ap (λ t. t * 2 ^ (64 * length ys)) (number-front x xs) in
    omega (arith, p, m, number-front x (xs ++ ys), number-append xs ys)

-- digits behind the first word are digits of the words behind it
pub digits-behind : (x : ℕ) (ws : List ℕ) (at width : ℕ) → at + width ≤ 64 * length ws → digits_at (x ∷ ws) (64 + at) width ≡ digits_at ws at width
digits-behind x ws at width l =
    let e : ℕ = 64 * length ws - at - width in
    let a : 64 * suc (length ws) - (64 + at) - width ≡ 64 * length ws - at - width = omega arith in
    let b : 64 * length ws ≡ at + width + (64 * length ws - at - width) = omega (arith, l) in
    ap (λ t. number_in (x ∷ ws) / 2 ^ t % 2 ^ width) a
    ∙ ap (λ t. t / 2 ^ e % 2 ^ width) (number-front x ws ∙ ap (λ t. x * 2 ^ t + number_in ws) b)
    ∙ high_gone x (number_in ws) e width at

-- digits in the first word
pub digits-first : (x : ℕ) (ws : List ℕ) (before width behind : ℕ) → before + width + behind ≡ 64 → Each (λ x. x < 2 ^ 64) ws
    → digits_at (x ∷ ws) before width ≡ x / 2 ^ behind % 2 ^ width
digits-first x ws before width behind e h =
    let a : 64 * suc (length ws) - before - width ≡ 64 * length ws + behind = omega (arith, e) in
    ap (λ t. number_in (x ∷ ws) / 2 ^ t % 2 ^ width) a
    ∙ ap (λ t. t / 2 ^ (64 * length ws + behind) % 2 ^ width) (number-front x ws)
    ∙ ap (λ t. t % 2 ^ width) (low_gone x (number_in ws) (64 * length ws) behind (number-small ws h))

-- digits that begin in the first word and end in the second
pub digits-across : (x y : ℕ) (ws : List ℕ) (before room low behind : ℕ) → before + room ≡ 64 → low + behind ≡ 64 → y < 2 ^ 64 → Each (λ x. x < 2 ^ 64) ws
    → digits_at (x ∷ y ∷ ws) before (room + low) ≡ (x % 2 ^ room) * 2 ^ low + y / 2 ^ behind
digits-across x y ws before room low behind e f l h =
    let n : ℕ = length ws in
    let m : ℕ = number_in ws in
    let a : 64 * suc (suc (length ws)) - before - (room + low) ≡ 64 * length ws + behind = omega (arith, e, f) in
    let s : 64 * suc (length ws) ≡ (low + behind) + 64 * length ws = omega (arith, f) in
    let p : x * 2 ^ (64 * suc (length ws)) ≡ x * (2 ^ (low + behind) * 2 ^ (64 * length ws)) = ap (λ t. x * 2 ^ t) s ∙
    ap (λ t. x * t) (pow-add 2 (low + behind) (64 * length ws)) in
    let g : number_in (x ∷ y ∷ ws) ≡ x * 2 ^ (64 * suc (length ws)) + (y * 2 ^ (64 * length ws) + number_in ws) =
    number-front x (y ∷ ws) ∙ ap (λ t. x * 2 ^ (64 * suc (length ws)) + t) (number-front y ws) in
    let j : number_in (x ∷ y ∷ ws) ≡ (x * 2 ^ (low + behind) + y) * 2 ^ (64 * length ws) + number_in ws = g ∙ omega (arith, p) in
    ap (λ t. number_in (x ∷ y ∷ ws) / 2 ^ t % 2 ^ (room + low)) a
    ∙ ap (λ t. t / 2 ^ (64 * length ws + behind) % 2 ^ (room + low)) j
    ∙ ap (λ t. t % 2 ^ (room + low)) (low_gone (x * 2 ^ (low + behind) + y) (number_in ws) (64 * length ws) behind (number-small ws h))
    ∙ across x y low behind room (subst (λ t. y < 2 ^ t) (sym f) l)

-- the same at word `place`
pub digits-one : (ws : List ℕ) (place before width behind : ℕ) → before + width + behind ≡ 64 → place < length ws → Each (λ x. x < 2 ^ 64) ws
    → digits_at ws (64 * place + before) width ≡ slice_index_or ws place 0 / 2 ^ behind % 2 ^ width
digits-one [] place before width behind e l h = elim l [ ]
digits-one (x ∷ ws) zero before width behind e l h = ap (λ t. digits_at (x ∷ ws) t width) (omega arith) ∙ digits-first x ws before width behind e h.1
digits-one (x ∷ ws) (suc n) before width behind e l h =
    ap (λ t. digits_at (x ∷ ws) t width) (omega arith)
    ∙ digits-behind x ws (64 * n + before) width (omega (arith, e, l))
    ∙ digits-one ws n before width behind e (omega (arith, l)) h.1

pub digits-two : (ws : List ℕ) (place before room low behind : ℕ) → before + room ≡ 64 → low + behind ≡ 64 → suc place < length ws → Each (λ x. x < 2 ^ 64) ws
    → digits_at ws (64 * place + before) (room + low) ≡ (slice_index_or ws place 0 % 2 ^ room) * 2 ^ low + slice_index_or ws (suc place) 0 / 2 ^ behind
digits-two [] place before room low behind e f l h = elim l [ ]
digits-two (x ∷ []) zero before room low behind e f l h = absurd (omega (arith, l))
digits-two (x ∷ y ∷ ws) zero before room low behind e f l h = ap (λ t. digits_at (x ∷ y ∷ ws) t (room + low))
    (omega arith) ∙ digits-across x y ws before room low behind e f h.1.0 h.1.1
digits-two (x ∷ ws) (suc n) before room low behind e f l h =
    ap (λ t. digits_at (x ∷ ws) t (room + low)) (omega arith)
    ∙ digits-behind x ws (64 * n + before) (room + low) (omega (arith, e, f, l))
    ∙ digits-two ws n before room low behind e f (omega (arith, l)) h.1

-- digits in two parts
pub digits-parts : (ws : List ℕ) (at m w : ℕ) → at + m + w ≤ 64 * length ws → digits_at ws at (m + w) ≡ digits_at ws at m * 2 ^ w + digits_at ws (at + m) w
digits-parts ws at m w l =
    let e : ℕ = 64 * length ws - at - (m + w) in
    let a : 64 * length ws - at - (m + w) + w ≡ 64 * length ws - at - m = omega (arith, l) in
    let b : 64 * length ws - at - (m + w) ≡ 64 * length ws - (at + m) - w = omega arith in
    mod-pow-add (number_in ws / 2 ^ e) m w
    ∙ ap (λ t. (t % 2 ^ m) * 2 ^ w + number_in ws / 2 ^ e % 2 ^ w) (shr-shr (number_in ws) e w ∙ ap (λ t. number_in ws / 2 ^ t) a)
    ∙ ap (λ t. digits_at ws at m * 2 ^ w + number_in ws / 2 ^ t % 2 ^ w) b

pub digits-below : (ws : List ℕ) (at w : ℕ) → digits_at ws at w < 2 ^ w
digits-below ws at w = mod_below (number_in ws / 2 ^ (64 * length ws - at - w)) (2 ^ w) (pow_pos w)

-- digits of a list in two parts
pub digits-front : (xs ys : List ℕ) (at width : ℕ) → at + width ≤ 64 * length xs → Each (λ x. x < 2 ^ 64) ys → digits_at (xs ++ ys) at width ≡ digits_at xs at width
digits-front xs ys at width l h =
    let a : 64 * length (xs ++ ys) - at - width ≡ 64 * length ys + (64 * length xs - at - width) =
    ap (λ t. 64 * t - at - width) (length-append xs ys) ∙ omega (arith, l) in
    ap (λ t. number_in (xs ++ ys) / 2 ^ t % 2 ^ width) a
    ∙ ap (λ t. t / 2 ^ (64 * length ys + (64 * length xs - at - width)) % 2 ^ width) (number-append xs ys)
    ∙ ap (λ t. t % 2 ^ width) (low_gone (number_in xs) (number_in ys) (64 * length ys) (64 * length xs - at - width) (number-small ys h))

-- digits within digits
pub digits-within : (ws : List ℕ) (at m p w : ℕ) → at + m ≤ 64 * length ws → p + w ≤ m → digits_at ws at m / 2 ^ (m - p - w) % 2 ^ w ≡ digits_at ws (at + p) w
digits-within ws at m p w l k =
    let x : ℕ = number_in ws / 2 ^ (64 * length ws - at - m) in
    let e : m ≡ p + w + (m - p - w) = omega (arith, k) in
    let f : p + w ≡ w + p = omega arith in
    let g : 64 * length ws - at - m + (m - p - w) ≡ 64 * length ws - (at + p) - w = omega (arith, l, k) in
    let z : p + w - w ≡ p = omega arith in
    ap (λ t. x % 2 ^ t / 2 ^ (m - p - w) % 2 ^ w) e
    ∙ ap (λ t. t % 2 ^ w) (field_of x (p + w) (m - p - w))
    ∙ mod-mod-pow (x / 2 ^ (m - p - w)) p w
    ∙ ap (λ t. t % 2 ^ w) (shr-shr (number_in ws) (64 * length ws - at - m) (m - p - w) ∙ ap (λ t. number_in ws / 2 ^ t) g)
