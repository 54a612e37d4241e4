use Rattle.std.proofs.Common.{◌≡◌, ◌+◌, ◌*◌, ◌^◌, ◌≤◌, ◌<◌, ℕ, length, take, map, slice_index_or, sym, ◌∙◌, ap, subst, arith}
use Rattle.std.proofs.Math.Nat.{mul-le-mul_left}
use Rattle.std.proofs.lemmas.List.{length-take-le}
use Rattle.ph_specs.specs.Digits.{field, number_of}
use Rattle.ph_model.specs.Digits.{digits_at}
use Rattle.ph_linear.specs.Edited.{IsOver}
use Rattle.ph_linear.proofs.Overs.{over-same, over-put, over-next, row-more, each-at}
use Rattle.ph_linear.proofs.copies.set_row.Goals as goal

-- one field more lies within the row
within : (i n w : ℕ) → i < n → i * w + w ≤ n * w
within i n w l =
    let m : i + 1 ≤ n = omega (arith, l) in
    let p : w * (i + 1) ≤ w * n = mul-le-mul_left w m in
    omega (arith, p)

pub loop-i-init : goal.loop-i-init
loop-i-init c =
    let w = c.args.level in
    let z : 0 ≡ 0 * c.args.level = omega arith in
    over-same c.args.words.now c.args.at (0 * w) 0 (ap (λ t. digits_at c.args.words.now c.args.at t) (sym z) ∙ omega arith)

pub set_field-requires-clause-inside : goal.set_field-requires-clause-inside
set_field-requires-clause-inside c = omega (arith, within c.loop-i.i c.args.dims c.args.level c.loop-i-test.true, c.requires.inside, c.loop-i.auto.words)

pub set_field-requires-clause-value : goal.set_field-requires-clause-value
set_field-requires-clause-value c = each-at c.args.level c.args.dims c.args.body.now c.loop-i.i c.requires.fields
    c.loop-i-test.true (omega (arith, c.loop-i-test.true, c.requires.few, c.told-body))

pub loop-i-preserved : goal.loop-i-preserved
loop-i-preserved c =
    let old = c.args.words.now in
    let mid = c.loop-i.words in
    let new = c.set_field.new.words in
    let w = c.args.level in
    let i = c.loop-i.i in
    let at = c.args.at in
    let b = c.args.body.now in
    let l : c.args.at + c.loop-i.i * c.args.level + c.args.level ≤ 64 * length c.args.words.now =
    omega (arith, within c.loop-i.i c.args.dims c.args.level c.loop-i-test.true, c.requires.inside) in
    let m : c.loop-i.i * c.args.level + c.args.level ≡ (c.loop-i.i + 1) * c.args.level = omega arith in
    let h : c.loop-i.i < length c.args.body.now = omega (arith, c.loop-i-test.true, c.requires.few, c.told-body) in
    let o : IsOver old at (i * w + w) (number_of (map (field w) (take i b)) * 2 ^ w + slice_index_or b i 0) new =
    over-next old mid new at (i * w) w (number_of (map (field w) (take i b))) (slice_index_or b i 0)
    c.loop-i.auto.words (c.set_field.auto.words ∙ c.loop-i.auto.words) l c.loop-i.invariant
    (over-put mid new (at + i * w) w (slice_index_or b i 0) c.set_field.ensures) in
    subst (λ t. IsOver old at ((i + 1) * w) t new) (sym (row-more 0 w b i h))
    (subst (λ t. IsOver old at t (number_of (map (field w) (take i b)) * 2 ^ w + slice_index_or b i 0) new) m o)

pub returns-clause-long : goal.returns-clause-long
returns-clause-long c = length-take-le c.args.dims c.args.body.now (omega (arith, c.requires.few, c.told-body))
