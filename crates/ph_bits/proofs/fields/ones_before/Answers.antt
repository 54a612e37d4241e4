use Rattle.std.proofs.Common.{◌≡◌, ◌≤◌, ◌<◌, ◌+◌, ◌-◌, ◌*◌, ◌/◌, ◌%◌, ◌^◌, ℕ, List, length, slice_index_or, sym, ◌∙◌, ap, arith}
use Rattle.std.specs.List.{AllByRecursion as Each}
use Rattle.std.specs.Int.RustNames.{count_ones}
use Rattle.ph_model.specs.Digits.{digits_at}
use Rattle.ph_model.proofs.laws.WordDigits.{each-fits, digits-one, digits-below}
use Rattle.ph_bits.specs.Fields.{ones_in}
use Rattle.ph_bits.proofs.fields.ones_before.Goals as goal

none : (ws : List ℕ) (at n : ℕ) → n ≡ 0 → 0 ≡ ones_in ws at n
unfolding count_ones
none ws at n e = ap count_ones (sym (zero-of (digits_at ws at 0) (digits-below ws at 0))) ∙ ap (λ t. ones_in ws at t) (sym e)
  where
    zero-of : (k : ℕ) → k < 2 ^ 0 → k ≡ 0
    zero-of k l = omega (arith, l)

one : (ws : List ℕ) (at n : ℕ) → 0 < n → at % 64 + n ≤ 64 → at + n ≤ 64 * length ws → Each (λ x. x < 2 ^ 64) ws
    → slice_index_or ws (at / 64) 0 / 2 ^ (64 - at % 64 - n) % 2 ^ n ≡ digits_at ws at n
one ws at n p l m h =
    let e : 64 * (at / 64) + at % 64 ≡ at = omega arith in
    sym (digits-one ws (at / 64) (at % 64) n (64 - at % 64 - n) (omega (arith, l)) (omega (arith, p, l, m)) h) ∙ ap (λ t. digits_at ws t n) e

pub returns-then-n-eq0 : goal.returns-then-n-eq0
returns-then-n-eq0 c = none c.args.words.now c.args.at c.args.n c.if-n-eq0.true

pub returns-then-n-front : goal.returns-then-n-front
returns-then-n-front c =
    let ws = c.args.words.now in
    ap count_ones (c.part_of.ensures ∙ one ws c.args.at c.args.n (above c.args.n c.if-n-eq0.false)
    (omega (arith, c.if-n-front.true)) c.requires.inside (each-fits ws c.type_inv.words))
  where
    above : (n : ℕ) → (n ≡ 0 → ⊥) → 0 < n
    above n h = omega (arith, h)
