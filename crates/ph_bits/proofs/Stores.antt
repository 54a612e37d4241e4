-- The number of words in which some digits were replaced.
use Rattle.std.proofs.Common.{◌≡◌, ℕ, zero, suc, ◌+◌, ◌-◌, ◌*◌, ◌/◌, ◌%◌, ◌^◌, ◌<◌, ◌≤◌, refl, sym, ◌∙◌, ap}
use Rattle.std.proofs.Common.{subst, arith, List, [], ◌∷◌, length, slice_index_or, slice_set}
use Rattle.std.specs.List.{AllByRecursion as Each}
use Rattle.std.proofs.lemmas.List.{length-set}
use Rattle.std.proofs.lemmas.Nat.{field_of, shl-shr, shr-shr, pow-add, mod-pow-add, pow_pos, shr_split, mod_below, shr_below}
use Rattle.std.proofs.Math.Nat.{mul-le-mul_left}
use Rattle.ph_specs.specs.Digits.{pieces}
use Rattle.ph_model.specs.Digits.{digits_at}
use Rattle.ph_specs.proofs.laws.ReadBack.{pieces-number}
use Rattle.ph_bits.specs.Fields.{number_in, with_digits}
use Rattle.ph_model.proofs.laws.WordDigits.{number-front, digits-one, digits-two}

-- ---- numbers

times : (k : ℕ) {a b : ℕ} → a ≡ b → a * k ≡ b * k
times k e = ap (λ t. t * k) e

-- x in three parts, the digits asked for in the middle
pub parts_of : (x w k : ℕ) → x ≡ (x / 2 ^ (w + k) * 2 ^ w + x / 2 ^ k % 2 ^ w) * 2 ^ k + x % 2 ^ k
parts_of x w k =
    let a : x / 2 ^ (w + k) * 2 ^ (w + k) + x % 2 ^ (w + k) ≡ x = shr_split x (w + k) in
    let b : x % 2 ^ (w + k) ≡ (x / 2 ^ k % 2 ^ w) * 2 ^ k + x % 2 ^ k = mod-pow-add x w k in
    let p : x / 2 ^ (w + k) * 2 ^ (w + k) ≡ x / 2 ^ (w + k) * (2 ^ w * 2 ^ k) = ap (λ t. x / 2 ^ (w + k) * t) (pow-add 2 w k) in
    omega (arith, a, b, p)

-- v in place of these digits
pub replaced : (x y w k v : ℕ) → y + (x / 2 ^ k % 2 ^ w) * 2 ^ k ≡ x + v * 2 ^ k → y ≡ (x / 2 ^ (w + k) * 2 ^ w + v) * 2 ^ k + x % 2 ^ k
replaced x y w k v e = omega (arith, e, parts_of x w k)

-- it fits where x did
pub replaced-fits : (x w k j v : ℕ) → v < 2 ^ w → x < 2 ^ (j + (w + k)) → (x / 2 ^ (w + k) * 2 ^ w + v) * 2 ^ k + x % 2 ^ k < 2 ^ (j + (w + k))
replaced-fits x w k j v l m =
    let h : x / 2 ^ (w + k) < 2 ^ j = shr_below x j (w + k) m in
    let r : x % 2 ^ k < 2 ^ k = mod_below x (2 ^ k) (pow_pos k) in
    let p : 2 ^ (j + (w + k)) ≡ 2 ^ j * (2 ^ w * 2 ^ k) = pow-add 2 j (w + k) ∙ ap (λ t. 2 ^ j * t) (pow-add 2 w k) in
    fits (x / 2 ^ (w + k)) (2 ^ j) (2 ^ w) (2 ^ k) v (x % 2 ^ k) (2 ^ (j + (w + k))) p h l r
  where
    fits : (h J W K v r t : ℕ) → t ≡ J * (W * K) → h < J → v < W → r < K → (h * W + v) * K + r < t
    fits h J W K v r t e a b c =
        let f : K * suc v ≤ K * W = mul-le-mul_left K b in
        let g : (W * K) * suc h ≤ (W * K) * J = mul-le-mul_left (W * K) a in
        omega (arith, e, f, g, c)

-- the digits that a shift to the left and one to the right leave: `(x << before) >> (behind + before)` at a word of width + behind + before digits
pub shl_shr : (x before behind width : ℕ) → (x * 2 ^ before) % 2 ^ (width + (behind + before)) / 2 ^ (behind + before) ≡ x / 2 ^ behind % 2 ^ width
shl_shr x before behind width =
    field_of (x * 2 ^ before) width (behind + before)
    ∙ ap (λ t. (x * 2 ^ before) / 2 ^ t % 2 ^ width) (omega arith)
    ∙ ap (λ t. t % 2 ^ width) (sym (shr-shr (x * 2 ^ before) before behind) ∙ ap (λ t. t / 2 ^ behind) (shl-shr x before))

-- ---- lists of words

-- a word in place of another
pub number-set : (ws : List ℕ) (place y : ℕ) → place < length ws
    → number_in (slice_set ws place y) + slice_index_or ws place 0 * 2 ^ (64 * (length ws - suc place)) ≡ number_in ws + y * 2 ^ (64 * (length ws - suc place))
number-set [] place y l = elim l [ ]
number-set (x ∷ ws) zero y l =
    let n : 64 * (suc (length ws) - 1) ≡ 64 * length ws = omega arith in
    let p : 2 ^ (64 * (suc (length ws) - 1)) ≡ 2 ^ (64 * length ws) = ap (λ t. 2 ^ t) n in
    let q : x * 2 ^ (64 * (suc (length ws) - 1)) ≡ x * 2 ^ (64 * length ws) = ap (λ t. x * t) p in
    let r : y * 2 ^ (64 * (suc (length ws) - 1)) ≡ y * 2 ^ (64 * length ws) = ap (λ t. y * t) p in
    omega (arith, q, r, number-front x ws, number-front y ws)
number-set (x ∷ ws) (suc i) y l =
    let m : number_in (slice_set ws i y) + slice_index_or ws i 0 * 2 ^ (64 * (length ws - suc i)) ≡
    number_in ws + y * 2 ^ (64 * (length ws - suc i)) = number-set ws i y (omega (arith, l)) in
    let n : 64 * (suc (length ws) - suc (suc i)) ≡ 64 * (length ws - suc i) = omega arith in
    let p : 2 ^ (64 * (suc (length ws) - suc (suc i))) ≡ 2 ^ (64 * (length ws - suc i)) = ap (λ t. 2 ^ t) n in
    let q : slice_index_or ws i 0 * 2 ^ (64 * (suc (length ws) - suc (suc i))) ≡
    slice_index_or ws i 0 * 2 ^ (64 * (length ws - suc i)) = ap (λ t. slice_index_or ws i 0 * t) p in
    let r : y * 2 ^ (64 * (suc (length ws) - suc (suc i))) ≡ y * 2 ^ (64 * (length ws - suc i)) = ap (λ t. y * t) p in
    let s : x * 2 ^ (64 * length (slice_set ws i y)) ≡ x * 2 ^ (64 * length ws) = ap (λ t. x * 2 ^ (64 * t)) (length-set ws i y) in
    omega (arith, m, q, r, s, number-front x ws, number-front x (slice_set ws i y))

pub each-set : (ws : List ℕ) (i y : ℕ) → y < 2 ^ 64 → Each (λ x. x < 2 ^ 64) ws → Each (λ x. x < 2 ^ 64) (slice_set ws i y)
each-set [] i y l h = tt
each-set (x ∷ ws) zero y l h = (l, h.1)
each-set (x ∷ ws) (suc i) y l h = (h.0, each-set ws i y l h.1)

-- words are those with v in place of some digits where their number says so
pub same_number : (ws xs : List ℕ) (at width v : ℕ) → length xs ≡ length ws → Each (λ x. x < 2 ^ 64) xs
    → number_in xs + digits_at ws at width * 2 ^ (64 * length ws - at - width) ≡ number_in ws + v * 2 ^ (64 * length ws - at - width)
    → xs ≡ with_digits ws at width v
same_number ws xs at width v e h n =
    sym (pieces-number 64 xs h) ∙ ap (λ t. pieces 64 t (number_in xs)) e
    ∙ ap (λ t. pieces 64 (length ws) t) (replaced (number_in ws) (number_in xs) width (64 * length ws - at - width) v n)

-- one word was changed
pub with_digits-one : (ws : List ℕ) (place before width behind x v : ℕ) → before + width + behind ≡ 64 → place < length ws → Each (λ x. x < 2 ^ 64) ws → x < 2 ^ 64
    → x + (slice_index_or ws place 0 / 2 ^ behind % 2 ^ width) * 2 ^ behind ≡ slice_index_or ws place 0 + v * 2 ^ behind
    → slice_set ws place x ≡ with_digits ws (64 * place + before) width v
with_digits-one ws place before width behind x v e l h f n =
    let P : ℕ = 2 ^ (64 * (length ws - suc place)) in
    let w : ℕ = slice_index_or ws place 0 in
    let r : ℕ = slice_index_or ws place 0 / 2 ^ behind % 2 ^ width in
    let s : 64 * length ws - (64 * place + before) - width ≡ behind + 64 * (length ws - suc place) = omega (arith, e, l) in
    let p : 2 ^ (64 * length ws - (64 * place + before) - width) ≡ 2 ^ behind * 2 ^ (64 * (length ws - suc place)) =
    ap (λ t. 2 ^ t) s ∙ pow-add 2 behind (64 * (length ws - suc place)) in
    same_number ws (slice_set ws place x) (64 * place + before) width v (length-set ws place x) (each-set ws place x f h)
    (ap (λ t. number_in (slice_set ws place x) + t * 2 ^ (64 * length ws - (64 * place + before) - width)) (digits-one ws place before width behind e l h)
    ∙ both (number_in ws) (number_in (slice_set ws place x)) w x r v (2 ^ behind) P _ p (number-set ws place x l) n)
  where
    both : (N M w x r v K P E : ℕ) → E ≡ K * P → M + w * P ≡ N + x * P → x + r * K ≡ w + v * K → M + r * E ≡ N + v * E
    both N M w x r v K P E e a b =
        let f : (x + r * K) * P ≡ (w + v * K) * P = times P b in
        let g : r * E ≡ r * (K * P) = ap (λ t. r * t) e in
        let h : v * E ≡ v * (K * P) = ap (λ t. v * t) e in
        omega (arith, a, f, g, h)

-- two words were changed
pub with_digits-two : (ws : List ℕ) (place before room low behind x y v : ℕ) → before + room ≡ 64 →
    low + behind ≡ 64 → suc place < length ws → Each (λ x. x < 2 ^ 64) ws → x < 2 ^ 64 → y < 2 ^ 64
    → x + (slice_index_or ws place 0 % 2 ^ room) ≡ slice_index_or ws place 0 + v / 2 ^ low
    → y + (slice_index_or ws (suc place) 0 / 2 ^ behind) * 2 ^ behind ≡ slice_index_or ws (suc place) 0 + (v % 2 ^ low) * 2 ^ behind
    → slice_set (slice_set ws place x) (suc place) y ≡ with_digits ws (64 * place + before) (room + low) v
with_digits-two ws place before room low behind x y v e e' l h fx fy nx ny =
    let Q : ℕ = 2 ^ (64 * (length ws - suc (suc place))) in
    let xs : List ℕ = slice_set ws place x in
    let w : ℕ = slice_index_or ws place 0 in
    let z : ℕ = slice_index_or ws (suc place) 0 in
    let r : ℕ = slice_index_or ws place 0 % 2 ^ room in
    let s : 64 * length ws - (64 * place + before) - (room + low) ≡ behind + 64 * (length ws - suc (suc place)) = omega (arith, e, e', l) in
    let p : 2 ^ (64 * length ws - (64 * place + before) - (room + low)) ≡
    2 ^ behind * 2 ^ (64 * (length ws - suc (suc place))) = ap (λ t. 2 ^ t) s ∙
    pow-add 2 behind (64 * (length ws - suc (suc place))) in
    let u : 64 * (length ws - suc place) ≡ low + (behind + 64 * (length ws - suc (suc place))) = omega (arith, e', l) in
    let q : 2 ^ (64 * (length ws - suc place)) ≡ 2 ^ low * (2 ^ behind * 2 ^ (64 * (length ws - suc (suc place)))) =
    ap (λ t. 2 ^ t) u ∙ pow-add 2 low (behind + 64 * (length ws - suc (suc place))) ∙ ap (λ t. 2 ^ low * t) (pow-add 2 behind (64 * (length ws - suc (suc place)))) in
    let same : length (slice_set ws place x) ≡ length ws = length-set ws place x in
    let m : number_in (slice_set (slice_set ws place x) (suc place) y) + slice_index_or (slice_set ws place x)
    (suc place) 0 * 2 ^ (64 * (length (slice_set ws place x) - suc (suc place))) ≡
    number_in (slice_set ws place x) + y * 2 ^ (64 * (length (slice_set ws place x) - suc (suc place))) =
    number-set (slice_set ws place x) (suc place) y (subst (λ t. suc place < t) (sym same) l) in
    let m1 : number_in (slice_set (slice_set ws place x) (suc place) y) + slice_index_or (slice_set ws place x)
    (suc place) 0 * 2 ^ (64 * (length ws - suc (suc place))) ≡ number_in (slice_set ws place x) + y * 2 ^
    (64 * (length ws - suc (suc place))) =
    subst (λ t. number_in (slice_set (slice_set ws place x) (suc place) y) + slice_index_or (slice_set ws place x)
    (suc place) 0 * 2 ^ (64 * (t - suc (suc place))) ≡ number_in (slice_set ws place x) + y * 2 ^
    (64 * (t - suc (suc place)))) same m in
    let m2 : number_in (slice_set (slice_set ws place x) (suc place) y) + slice_index_or ws (suc place) 0 * 2 ^
    (64 * (length ws - suc (suc place))) ≡ number_in (slice_set ws place x) + y * 2 ^ (64 * (length ws - suc (suc place))) =
    subst (λ t. number_in (slice_set (slice_set ws place x) (suc place) y) + t * 2 ^
    (64 * (length ws - suc (suc place))) ≡ number_in (slice_set ws place x) + y * 2 ^
    (64 * (length ws - suc (suc place)))) (next ws place x) m1 in
    same_number ws (slice_set (slice_set ws place x) (suc place) y) (64 * place + before) (room + low) v
    (length-set (slice_set ws place x) (suc place) y ∙ same) (each-set (slice_set ws place x) (suc place) y fy (each-set ws place x fx h))
    (ap (λ t. number_in (slice_set (slice_set ws place x) (suc place) y) + t * 2 ^
    (64 * length ws - (64 * place + before) - (room + low))) (digits-two ws place before room low behind e e' l h)
    ∙ both (number_in ws) (number_in xs) (number_in (slice_set xs (suc place) y)) w x z y r (z / 2 ^ behind) v
    (v / 2 ^ low) (v % 2 ^ low) (2 ^ behind) (2 ^ low) Q (2 ^ (64 * (length ws - suc place))) _ p q
    (number-set ws place x (omega (arith, l))) m2 nx ny (sym (shr_split v low)))
  where
    next : (ws : List ℕ) (i x : ℕ) → slice_index_or (slice_set ws i x) (suc i) 0 ≡ slice_index_or ws (suc i) 0
    next [] i x = refl
    next (w ∷ ws) zero x = refl
    next (w ∷ ws) (suc i) x = next ws i x

    both : (N M L w x z y r c v u t K J Q P E : ℕ) → E ≡ K * Q → P ≡ J * (K * Q) → M + w * P ≡ N + x * P →
        L + z * Q ≡ M + y * Q → x + r ≡ w + u → y + c * K ≡ z + t * K → v ≡ u * J + t
        → L + (r * J + c) * E ≡ N + v * E
    both N M L w x z y r c v u t K J Q P E e p a b f g d =
        let f1 : (x + r) * P ≡ (w + u) * P = times P f in
        let g1 : (y + c * K) * Q ≡ (z + t * K) * Q = times Q g in
        let rp : r * P ≡ r * (J * (K * Q)) = ap (λ k. r * k) p in
        let up : u * P ≡ u * (J * (K * Q)) = ap (λ k. u * k) p in
        let re : (r * J + c) * E ≡ (r * J + c) * (K * Q) = ap (λ k. (r * J + c) * k) e in
        let ve : v * E ≡ (u * J + t) * (K * Q) = ap (λ k. v * k) e ∙ times (K * Q) d in
        omega (arith, a, b, f1, g1, rp, up, re, ve)
