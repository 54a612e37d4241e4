use Rattle.std.proofs.Common.{◌≡◌, ◌≤◌, ◌<◌, ◌+◌, ◌*◌, ◌/◌, ◌%◌, ◌^◌, ℕ, ◌-◌, sym, ◌∙◌, ap, subst, arith}
use Rattle.std.proofs.lemmas.Nat.{shl_whole, mod_below, pow_pos}
use Rattle.ph_bits.proofs.Stores.{shl_shr, parts_of, replaced, replaced-fits}
use Rattle.ph_bits.proofs.fields.with_field.Goals as goal

-- the digits that are replaced, as the code finds them and where they stand
old : (x k w : ℕ) → k + w ≤ 64 → x * 2 ^ (64 - k - w) % 2 ^ 64 / 2 ^ (64 - w) * 2 ^ k % 2 ^ 64 ≡ x / 2 ^ k % 2 ^ w * 2 ^ k
old x k w l =
    let before : ℕ = 64 - k - w in
    let a : 64 ≡ w + (k + (64 - k - w)) = omega (arith, l) in
    let b : 64 - w ≡ k + (64 - k - w) = omega (arith, l) in
    ap (λ t. t * 2 ^ k % 2 ^ 64)
    (ap (λ t. x * 2 ^ before % 2 ^ t / 2 ^ (64 - w)) a ∙ ap (λ t. x * 2 ^ before % 2 ^ (w + (k + before)) / 2 ^ t) b ∙ shl_shr x before k w)
    ∙ shl_whole (x / 2 ^ k % 2 ^ w) w k 64 (mod_below (x / 2 ^ k) (2 ^ w) (pow_pos w)) (omega (arith, l))

new : (v k w : ℕ) → k + w ≤ 64 → v < 2 ^ w → v * 2 ^ k % 2 ^ 64 ≡ v * 2 ^ k
new v k w l m = shl_whole v w k 64 m (omega (arith, l))

least : (x k w : ℕ) → x / 2 ^ k % 2 ^ w * 2 ^ k ≤ x
least x k w = omega (arith, parts_of x w k)

sum : (x k w v : ℕ) → k + w ≤ 64 → v < 2 ^ w → x * 2 ^ (64 - k - w) % 2 ^ 64 / 2 ^ (64 - w) * 2 ^ k % 2 ^ 64 ≤ x
    → (x - x * 2 ^ (64 - k - w) % 2 ^ 64 / 2 ^ (64 - w) * 2 ^ k % 2 ^ 64 + v * 2 ^ k % 2 ^ 64) + x / 2 ^ k % 2 ^ w * 2 ^ k ≡ x + v * 2 ^ k
sum x k w v l m n = omega (arith, n, old x k w l, new v k w l m)

below : (x k w : ℕ) → k + w ≤ 64 → x * 2 ^ (64 - k - w) % 2 ^ 64 / 2 ^ (64 - w) * 2 ^ k % 2 ^ 64 ≤ x
below x k w l = subst (λ t. t ≤ x) (sym (old x k w l)) (least x k w)

fits : (x k w v : ℕ) → k + w ≤ 64 → v < 2 ^ w → x < 2 ^ 64 → x - x * 2 ^ (64 - k - w) % 2 ^ 64 / 2 ^ (64 - w) * 2 ^ k % 2 ^ 64 + v * 2 ^ k % 2 ^ 64 < 2 ^ 64
fits x k w v l m n =
    let a : 64 ≡ 64 - k - w + (w + k) = omega (arith, l) in
    let e : (x - x * 2 ^ (64 - k - w) % 2 ^ 64 / 2 ^ (64 - w) * 2 ^ k % 2 ^ 64 + v * 2 ^ k % 2 ^ 64) ≡ (x / 2 ^ (w + k) * 2 ^ w + v) * 2 ^ k + x % 2 ^ k =
    replaced x (x - x * 2 ^ (64 - k - w) % 2 ^ 64 / 2 ^ (64 - w) * 2 ^ k % 2 ^ 64 + v * 2 ^ k % 2 ^ 64) w k v (sum x k w v l m (below x k w l)) in
    subst (λ t. t < 2 ^ 64) (sym e)
    (subst (λ t. (x / 2 ^ (w + k) * 2 ^ w + v) * 2 ^ k + x % 2 ^ k < 2 ^ t) (sym a)
    (replaced-fits x w k (64 - k - w) v m (subst (λ t. x < 2 ^ t) a n)))

pub overflow_sub-result : goal.overflow_sub-result
overflow_sub-result c = below c.args.word c.args.behind c.args.width c.requires.inside

pub overflow_add-result : goal.overflow_add-result
overflow_add-result c = record { fits = fits c.args.word c.args.behind c.args.width c.args.v c.requires.inside c.requires.value c.ranges.word.fits }

pub returns : goal.returns
returns c = sum c.args.word c.args.behind c.args.width c.args.v c.requires.inside c.requires.value (below c.args.word c.args.behind c.args.width c.requires.inside)
