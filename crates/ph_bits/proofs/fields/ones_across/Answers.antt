use Rattle.std.proofs.Common.{rules, nat_cmp, ◌≡◌, ◌≤◌, ◌<◌, ◌+◌, ◌*◌, ◌/◌, ◌%◌, ◌^◌, length, ℕ, min, ◌-◌, sym, ◌∙◌, ap, subst, arith, List, slice_index_or, Fits, w64}
use Rattle.std.specs.Ordering.{ord_min}
use Rattle.std.specs.Int.RustNames.{count_ones}
use Rattle.std.proofs.lemmas.Nat.{ones-le, ones_cat, shr_below}
use Rattle.std.proofs.Math.Nat.{mod-eq_of_lt}
use Rattle.ph_model.specs.Digits.{digits_at}
use Rattle.ph_bits.specs.Fields.{ones_in}
use Rattle.ph_model.proofs.laws.WordDigits.{each-fits, digits-one, digits-parts, digits-below}
use Rattle.ph_bits.proofs.fields.ones_across.Goals as goal

least : (a b : ℕ) → ord_min nat_cmp a b ≡ min a b
least a b = search rules

few : (ws : List ℕ) (at w : ℕ) → ones_in ws at w ≤ w
few ws at w = ones-le w (digits_at ws at w) (digits-below ws at w)

start : (ws : List ℕ) (at n f r : ℕ) → f ≡ ord_min nat_cmp (64 - at % 64) n → r ≡ digits_at ws at f
    → (n - f ≤ n) × (count_ones r ≡ ones_in ws at (n - (n - f))) × (count_ones r ≤ n - (n - f)) × (0 < n - f → 64 * (at / 64) + 64 ≡ at + (n - (n - f)))
start ws at n f r e' d =
    let e : f ≡ min (64 - at % 64) n = e' ∙ least (64 - at % 64) n in
    let g : f ≡ n - (n - f) = omega (arith, e) in
    let same : count_ones r ≡ ones_in ws at (n - (n - f)) = ap count_ones d ∙ ap (λ t. ones_in ws at t) g in
    (omega arith, same, subst (λ t. t ≤ n - (n - f)) (sym same) (few ws at (n - (n - f))), λ p. omega (arith, e, p))

-- the first digits of a word
word : (ws : List ℕ) (at place d w : ℕ) → 64 * place + 64 ≡ at + d → w ≤ 64 → at + d + w ≤ 64 * length ws → 0 < w → ((i : ℕ) → Fits w64 (slice_index_or ws i 0))
    → slice_index_or ws (place + 1) 0 / 2 ^ (64 - w) ≡ digits_at ws (at + d) w
word ws at place d w e l m p h =
    let x : ℕ = slice_index_or ws (place + 1) 0 in
    let a : 64 ≡ w + (64 - w) = omega (arith, l) in
    let b : 64 * (place + 1) + 0 ≡ at + d = omega (arith, e) in
    sym (mod-eq_of_lt (shr_below x w (64 - w) (subst (λ t. x < 2 ^ t) a (h (place + 1)).fits)))
    ∙ sym (digits-one ws (place + 1) 0 w (64 - w) (omega (arith, l)) (omega (arith, e, m, p)) (each-fits ws h))
    ∙ ap (λ t. digits_at ws t w) b

next : (ws : List ℕ) (at n left place ones w : ℕ) → at + n ≤ 64 * length ws → ((i : ℕ) → Fits w64 (slice_index_or ws i 0)) → 0 < left → w ≡ ord_min nat_cmp 64 left
    → (left ≤ n) × (ones ≡ ones_in ws at (n - left)) × (ones ≤ n - left) × (0 < left → 64 * place + 64 ≡ at + (n - left))
    → (left - w ≤ n) × (ones + count_ones (slice_index_or ws (place + 1) 0 / 2 ^ (64 - w)) ≡
    ones_in ws at (n - (left - w))) ×
    (ones + count_ones (slice_index_or ws (place + 1) 0 / 2 ^ (64 - w)) ≤ n - (left - w)) ×
    (0 < left - w → 64 * (place + 1) + 64 ≡ at + (n - (left - w)))
next ws at n left place ones w m h p e' i =
    let e : w ≡ min 64 left = e' ∙ least 64 left in
    let d : ℕ = n - left in
    let at_word : 64 * place + 64 ≡ at + (n - left) = i.3 p in
    let g : n - left + w ≡ n - (left - w) = omega (arith, e, i.0) in
    let c : slice_index_or ws (place + 1) 0 / 2 ^ (64 - w) ≡ digits_at ws (at + (n - left)) w =
    word ws at place (n - left) w at_word (omega (arith, e)) (omega (arith, e, m, i.0)) (omega (arith, e, p)) h in
    let both : ones + count_ones (slice_index_or ws (place + 1) 0 / 2 ^ (64 - w)) ≡ ones_in ws at (n - (left - w)) =
    ap (λ t. t + count_ones (slice_index_or ws (place + 1) 0 / 2 ^ (64 - w))) i.1
    ∙ ap (λ t. ones_in ws at (n - left) + count_ones t) c
    ∙ sym (ap count_ones (digits-parts ws at d w (omega (arith, e, m, i.0))) ∙ ones_cat w (digits_at ws at d) (digits_at ws (at + d) w) (digits-below ws (at + d) w))
    ∙ ap (λ t. ones_in ws at t) g in
    (omega (arith, i.0), both, subst (λ t. t ≤ n - (left - w)) (sym both) (few ws at (n - (left - w))), λ q. omega (arith, q, e, i.0, at_word))

pub loop-left-init : goal.loop-left-init
loop-left-init c = start c.args.words.now c.args.at c.args.n c.min-first.result c.field.result c.min-first.ensures c.field.ensures

pub overflow_add-ones : goal.overflow_add-ones
overflow_add-ones c =
    let i = next c.args.words.now c.args.at c.args.n c.loop-left.left c.loop-left.place c.loop-left.ones
    c.min-width.result c.requires.inside c.type_inv.words c.loop-left-test.true c.min-width.ensures c.loop-left.invariant in
    record { fits = small c.args.n (c.loop-left.left - c.min-width.result) _ c.ranges.n.fits i.2 }
  where
    small : (n m k : ℕ) → n < 2 ^ 64 → k ≤ n - m → k < 2 ^ 64
    small n m k l p = omega (arith, l, p)

pub loop-left-preserved : goal.loop-left-preserved
loop-left-preserved c =
    next c.args.words.now c.args.at c.args.n c.loop-left.left c.loop-left.place c.loop-left.ones c.min-width.result
    c.requires.inside c.type_inv.words c.loop-left-test.true c.min-width.ensures c.loop-left.invariant
