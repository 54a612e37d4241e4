use Rattle.std.proofs.Common.{◌≡◌, ◌+◌, sym, ◌∙◌, ap, arith, length, [], ◌∷◌, None}
use Rattle.std.proofs.Common.{length-append}
use Rattle.ph_bits.proofs.Headers.{told}
use Rattle.ph_bits.proofs.block.Block.drop.Goals as goal

pub loop-i-init : goal.loop-i-init
loop-i-init g c =
    let h = c.self.invariant in let i = c.self.inside in let t = told i.places.slots i.kids.items i.alloc c.args.self c.self.view_is h.6 h.7 h.8 in (
      h.0 ∙ sym h.3,
      h.0,
      omega (arith, h.4, t.places, c.first-first.ensures),
      omega (arith, t.places, c.first-first.ensures),
      omega (arith, t.count, c.count-count.ensures.value),
    )

pub pop_front-value-requires : goal.pop_front-value-requires
pop_front-value-requires g c =
    let i = c.loop-i.invariant in (i.0, i.1, i.2, i.3, omega (arith, i.4, c.loop-i-test.true))

pub loop-i-preserved : goal.loop-i-preserved
loop-i-preserved g c =
    let i = c.loop-i.invariant in let e = c.pop_front-value.ensures in
    let l = ap length e.4 ∙ length-append c.loop-i.places.slots (None ∷ []) in
    let v = ap length e.0 in
    (i.0 ∙ sym e.1, i.1 ∙ sym e.3, omega (arith, e.2), omega (arith, l, i.3), omega (arith, v, i.4))

pub release-requires : goal.release-requires
release-requires g c =
    let h = c.self.invariant in let i = c.loop-i.invariant in let s = c.self.inside in
    let t = told s.places.slots s.kids.items s.alloc c.args.self c.self.view_is h.6 h.7 h.8 in
    let end = c.loop-i.auto.i-end in let over = c.loop-i-test.false in
    let whole : length s.places.slots + length s.kids.items ≡ c.first-first.result + c.count-count.result =
    omega (arith, t.places, t.count, c.first-first.ensures, c.count-count.ensures.value) in
    (i.1, omega (arith, i.3, end, over), h.1 ∙ sym h.0 ∙ i.1, h.5 ∙ whole, h.2, omega (arith, c.first-first.ensures), omega (arith, h.6, whole))
