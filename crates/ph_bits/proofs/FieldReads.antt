-- A field is read as the code does it: of the words of its first and of its last digit, which may be one.
use Rattle.std.proofs.Common.{◌≡◌, ℕ, suc, ◌+◌, ◌-◌, ◌*◌, ◌/◌, ◌%◌, ◌^◌, ◌<◌, ◌≤◌, sym, ◌∙◌, ap, subst, arith}
use Rattle.std.proofs.Common.{bit_or, zero, List, [], ◌∷◌, length, slice_index_or, inl, inr}
use Rattle.std.proofs.lemmas.Nat.{div-mul-add, pow-add, mod-pow-add, pow_pos, shl-shr, shr-shr, mod_low, shr_below, field_of, or_shifted}
use Rattle.std.proofs.Math.Nat.{add-mul-div_right}
use Rattle.std.proofs.lemmas.Bool.{cases_lt}
use Rattle.std.specs.List.{AllByRecursion as Each}
use Rattle.ph_model.specs.Digits.{digits_at}
use Rattle.ph_model.proofs.laws.WordDigits.{digits-one, digits-two}

-- a shift to the left keeps the last digits
shifted : (x w k : ℕ) → x * 2 ^ k % 2 ^ (w + k) ≡ x % 2 ^ w * 2 ^ k
shifted x w k =
    let z : x * 2 ^ k % 2 ^ k ≡ 0 = ap (λ t. t % 2 ^ k) (omega arith) ∙ mod_low x k 0 (pow_pos k) in
    mod-pow-add (x * 2 ^ k) w k ∙ ap (λ t. t % 2 ^ w * 2 ^ k + x * 2 ^ k % 2 ^ k) (shl-shr x k) ∙ ap (λ t. x % 2 ^ w * 2 ^ k + t) z ∙ omega arith

-- the first word behind its front of f digits, and as many digits of the last one behind it
abbrev pub turned : ℕ → ℕ → ℕ → ℕ
turned first last f = bit_or (first * 2 ^ f % 2 ^ 64) (last / 2 ^ 1 / 2 ^ (63 - f))

front-small : (last f : ℕ) → f ≤ 63 → last < 2 ^ 64 → last / 2 ^ (64 - f) < 2 ^ f
front-small last f l m =
    let e : 64 ≡ f + (64 - f) = omega (arith, l) in shr_below last f (64 - f) (subst (λ t. last < 2 ^ t) e m)

-- two words by shifts that leave nothing over
pub across-is : (first last f : ℕ) → f ≤ 63 → last < 2 ^ 64 → bit_or (first * 2 ^ f % 2 ^ 64) (last / 2 ^ (64 - f)) ≡ first % 2 ^ (64 - f) * 2 ^ f + last / 2 ^ (64 - f)
across-is first last f l m =
    let e : 64 ≡ 64 - f + f = omega (arith, l) in
    let h : first * 2 ^ f % 2 ^ 64 ≡ first % 2 ^ (64 - f) * 2 ^ f = ap (λ t. first * 2 ^ f % 2 ^ t) e ∙ shifted first (64 - f) f in
    ap (λ t. bit_or t (last / 2 ^ (64 - f))) h ∙ or_shifted (first % 2 ^ (64 - f)) f (last / 2 ^ (64 - f)) (front-small last f l m)

turned-is : (first last f : ℕ) → f ≤ 63 → last < 2 ^ 64 → turned first last f ≡ first % 2 ^ (64 - f) * 2 ^ f + last / 2 ^ (64 - f)
turned-is first last f l m =
    let s : 1 + (63 - f) ≡ 64 - f = omega (arith, l) in
    let k : last / 2 ^ 1 / 2 ^ (63 - f) ≡ last / 2 ^ (64 - f) = shr-shr last 1 (63 - f) ∙ ap (λ t. last / 2 ^ t) s in
    ap (bit_or (first * 2 ^ f % 2 ^ 64)) k ∙ across-is first last f l m

-- both ends in one word
one_word : (x f w b : ℕ) → f ≤ 63 → f + w + b ≡ 64 → x < 2 ^ 64 → turned x x f / 2 ^ (64 - w) ≡ x / 2 ^ b % 2 ^ w
one_word x f w b l e m =
    let g : 64 - w ≡ f + b = omega (arith, e) in
    let h : 64 - f ≡ w + b = omega (arith, e) in
    ap (λ t. turned x x f / 2 ^ t) g ∙ ap (λ t. t / 2 ^ (f + b)) (turned-is x x f l m)
    ∙ sym (shr-shr (x % 2 ^ (64 - f) * 2 ^ f + x / 2 ^ (64 - f)) f b)
    ∙ ap (λ t. t / 2 ^ b) (div-mul-add (x % 2 ^ (64 - f)) (2 ^ f) (x / 2 ^ (64 - f)) (front-small x f l m))
    ∙ ap (λ t. x % 2 ^ t / 2 ^ b) h ∙ field_of x w b

-- and in two
two_words : (x y f room low b : ℕ) → f ≤ 63 → f + room ≡ 64 → low + b ≡ 64 → room ≤ b → y < 2 ^ 64 →
    turned x y f / 2 ^ (64 - (room + low)) ≡ x % 2 ^ room * 2 ^ low + y / 2 ^ b
two_words x y f room low b l e g n m =
    let k : ℕ = 64 - (room + low) in
    let r : 64 - f ≡ room = omega (arith, e) in
    let q : f ≡ low + k = omega (arith, e, g, n) in
    let s : room + k ≡ b = omega (arith, e, g, n) in
    let p : x % 2 ^ room * 2 ^ f ≡ x % 2 ^ room * 2 ^ low * 2 ^ k = split (x % 2 ^ room) (2 ^ f) (2 ^ low) (2 ^ k) (ap (λ t. 2 ^ t) q ∙ pow-add 2 low k) in
    ap (λ t. t / 2 ^ k) (turned-is x y f l m ∙ ap (λ t. x % 2 ^ t * 2 ^ f + y / 2 ^ t) r ∙
    ap (λ t. t + y / 2 ^ room) p ∙ turn (x % 2 ^ room * 2 ^ low * 2 ^ k) (y / 2 ^ room))
    ∙ add-mul-div_right (y / 2 ^ room) (x % 2 ^ room * 2 ^ low) (pow_pos k)
    ∙ turn (y / 2 ^ room / 2 ^ k) (x % 2 ^ room * 2 ^ low)
    ∙ ap (λ t. x % 2 ^ room * 2 ^ low + t) (shr-shr y room k ∙ ap (λ t. y / 2 ^ t) s)
  where
    split : (z t u v : ℕ) → t ≡ u * v → z * t ≡ z * u * v
    split z t u v e = let f : z * t ≡ z * (u * v) = ap (λ s. z * s) e in omega (arith, f)

    turn : (a b : ℕ) → a + b ≡ b + a
    turn a b = omega arith

each-below : (ws : List ℕ) (i : ℕ) → Each (λ x. x < 2 ^ 64) ws → i < length ws → slice_index_or ws i 0 < 2 ^ 64
each-below [] i h l = absurd (omega (arith, l))
each-below (x ∷ ws) zero h l = h.0
each-below (x ∷ ws) (suc i) h l = each-below ws i h.1 (omega (arith, l))

-- the digits of words, of which the field begins behind f digits of one word and ends in another, or in the same
abbrev pub read : List ℕ → ℕ → ℕ → ℕ → ℕ → ℕ
read ws place next f width = turned (slice_index_or ws place 0) (slice_index_or ws next 0) f / 2 ^ (64 - width)

in_one : (ws : List ℕ) (at width : ℕ) → 0 < width → at % 64 + width ≤ 64 → at + width ≤ 64 * length ws → Each (λ x. x < 2 ^ 64) ws
    → read ws (at / 64) (at / 64 + (at % 64 + width - 1) / 64) (at % 64) width ≡ digits_at ws at width
in_one ws at width p l m h =
    let place : ℕ = at / 64 in
    let b : ℕ = 64 - width - at % 64 in
    let w : 64 * (at / 64) + at % 64 ≡ at = omega arith in
    let next : at / 64 + (at % 64 + width - 1) / 64 ≡ at / 64 = omega (arith, p, l) in
    let inside : at / 64 < length ws = omega (arith, p, l, m) in
    ap (λ t. read ws place t (at % 64) width) next
    ∙ one_word (slice_index_or ws place 0) (at % 64) width b (omega arith) (omega (arith, l)) (each-below ws place h inside)
    ∙ sym (digits-one ws place (at % 64) width b (omega (arith, l)) inside h)
    ∙ ap (λ t. digits_at ws t width) w

in_two : (ws : List ℕ) (at width : ℕ) → width ≤ 64 → 64 < at % 64 + width → at + width ≤ 64 * length ws → Each (λ x. x < 2 ^ 64) ws
    → read ws (at / 64) (at / 64 + (at % 64 + width - 1) / 64) (at % 64) width ≡ digits_at ws at width
in_two ws at width n l m h =
    let place : ℕ = at / 64 in
    let room : ℕ = 64 - at % 64 in
    let low : ℕ = width - (64 - at % 64) in
    let b : ℕ = 64 - (width - (64 - at % 64)) in
    let w : 64 * (at / 64) + at % 64 ≡ at = omega arith in
    let next : at / 64 + (at % 64 + width - 1) / 64 ≡ suc (at / 64) = omega (arith, n, l) in
    let v : width ≡ 64 - at % 64 + (width - (64 - at % 64)) = omega (arith, l) in
    let inside : suc (at / 64) < length ws = omega (arith, l, m) in
    ap (λ t. read ws place t (at % 64) width) next
    ∙ ap (λ t. read ws place (suc place) (at % 64) t) v
    ∙ two_words (slice_index_or ws place 0) (slice_index_or ws (suc place) 0) (at % 64) room low b (omega arith)
    (omega arith) (omega (arith, n)) (omega (arith, n, l)) (each-below ws (suc place) h inside)
    ∙ sym (digits-two ws place (at % 64) room low b (omega arith) (omega (arith, n)) inside h)
    ∙ ap (λ t. digits_at ws t (room + low)) w ∙ ap (λ t. digits_at ws at t) (sym v)

pub field-read : (ws : List ℕ) (at width : ℕ) → width ≤ 64 → 0 < width → at + width ≤ 64 * length ws → Each (λ x. x < 2 ^ 64) ws
    → read ws (at / 64) (at / 64 + (at % 64 + width - 1) / 64) (at % 64) width ≡ digits_at ws at width
field-read ws at width n p m h = elim (cases_lt 64 (at % 64 + width)) [ inl l ↦ in_two ws at width n l m h | inr l ↦ in_one ws at width p l m h ]
