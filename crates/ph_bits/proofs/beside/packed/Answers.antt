use Rattle.std.proofs.Common.{◌≡◌, ◌+◌, ◌*◌, ◌%◌, ◌^◌, ◌<◌, ℕ, ap, sym, subst, ◌∙◌, arith, map, drop}
use Rattle.ph_specs.specs.Digits.{field, number_after}
use Rattle.ph_bits.specs.Fields.{cut}
use Rattle.ph_bits.proofs.Packing.{packed-more, small-more, small-word}
use Rattle.ph_bits.proofs.beside.packed.Goals as goal

pub overflow_add-all : goal.overflow_add-all
overflow_add-all c =
    let m = small-more c.args.width c.loop-i.i c.loop-i.all c.cut.result c.loop-i.invariant.small c.cut.ensures.limit in
    omega (arith, small-word c.args.width c.loop-i.i _ _ m c.loop-i-test.true c.requires.inside)

pub loop-i-preserved : goal.loop-i-preserved
loop-i-preserved c =
    let w : ℕ = c.args.width in
    let i : ℕ = c.loop-i.i in
    let xs = c.args.numbers.now in
    let m : c.loop-i.all * 2 ^ w + c.cut.result < 2 ^ (w * (i + 1)) = small-more w i c.loop-i.all c.cut.result c.loop-i.invariant.small c.cut.ensures.limit in
    let b : c.loop-i.all * 2 ^ w + c.cut.result < 2 ^ 64 = small-word w i _ _ m c.loop-i-test.true c.requires.inside in
    let e : c.loop-i.all * 2 ^ w % 2 ^ 64 + c.cut.result ≡ c.loop-i.all * 2 ^ w + c.cut.result = omega (arith, b) in
    record {
      value =
          ap (λ t. number_after t (map (field w) (map (cut w c.args.low) (drop (i + 1) xs)))) (e ∙ ap (λ t. c.loop-i.all * 2 ^ w + t) c.cut.ensures.value)
          ∙ sym (packed-more w c.args.low c.loop-i.all i xs c.loop-i-test.true) ∙ c.loop-i.invariant.value;
      small = subst (λ t. t < 2 ^ (w * (i + 1))) (sym e) m;
    }
