use Rattle.std.proofs.Common.{◌≡◌, ◌+◌, ◌-◌, ◌<◌, take, drop, replicate, ℕ, suc, sym, ◌∙◌, ap, subst, arith, List}
use Rattle.ph_bits.specs.Fields.{digits_row}
use Rattle.ph_bits.proofs.RowPlaces.{length-row, row-at, copied, left_over, inside, take-all}
use Rattle.ph_bits.proofs.rows.fields_of.Goals as goal

pub loop-i-preserved : goal.loop-i-preserved
loop-i-preserved c =
    let i = c.loop-i.i in
    let body = c.loop-i.body in
    let xs : List ℕ = digits_row c.args.words.now c.args.at c.args.width c.args.count in
    let l : i < c.args.count = c.loop-i-test.true in
    let e : 16 - i ≡ suc (16 - (i + 1)) = omega (arith, l, c.requires.few) in
    let zeros : drop i body ≡ replicate (suc (16 - (i + 1))) 0 = c.loop-i.invariant.1 ∙ ap (λ t. replicate t 0) e in (
      copied body xs i c.field.result (inside body i (16 - (i + 1)) zeros) (subst (λ t. i < t) (sym (length-row c.args.words.now c.args.at c.args.width c.args.count)) l)
          (c.field.ensures ∙ sym (row-at c.args.words.now c.args.at c.args.width c.args.count i l)) c.loop-i.invariant.0,
      left_over body i c.field.result (16 - (i + 1)) zeros,
    )

pub returns : goal.returns
returns c =
    let e : c.loop-i.i ≡ c.args.count = omega arith in
    let xs : List ℕ = digits_row c.args.words.now c.args.at c.args.width c.args.count in
    record {
      fields = ap (λ t. take t c.loop-i.body) (sym e) ∙ c.loop-i.invariant.0
          ∙ take-all xs c.loop-i.i (length-row c.args.words.now c.args.at c.args.width c.args.count ∙ sym e);
      zeros = ap (λ t. drop t c.loop-i.body) (sym e) ∙ c.loop-i.invariant.1 ∙ ap (λ t. replicate (16 - t) 0) e;
    }
