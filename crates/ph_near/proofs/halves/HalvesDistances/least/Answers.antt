use Rattle.std.proofs.Common.{◌≡◌, ◌+◌, ◌-◌, ◌/◌, ◌%◌, ◌^◌, ◌∙◌, ap, arith, get_or}
use Rattle.ph_near.specs.Halves.{half_of}
use Rattle.ph_near.proofs.AddressSums.{digits-more, digits-all, digits-small}
use Rattle.ph_near.proofs.halves.HalvesDistances.least.Goals as goal

pub overflow_add-sum : goal.overflow_add-sum
overflow_add-sum g c =
    let small = c.requires.sound in
    let sum = digits-small g.row.D c.args.self.now.low c.args.self.now.high 0 c.args.addr c.loop-place.place small.low small.high
    (omega (arith, c.loop-place.invariant.within)) in
    omega (arith, sum, c.loop-place.invariant.sum, c.half-sum.ensures.limit, c.loop-place-test.true, small.few)

pub loop-place-preserved : goal.loop-place-preserved
loop-place-preserved g c =
    let low = c.args.self.now.low in
    let high = c.args.self.now.high in
    let place = c.loop-place.place in
    let digit : c.address_digit-digit.result ≡ c.args.addr / 2 ^ c.loop-place.place % 2 = omega (arith, c.address_digit-digit.ensures.value) in
    let there : g.row.D - 1 - c.loop-place.place ≡ g.row.D - 1 - (0 + c.loop-place.place) = omega arith in
    let here : c.half-sum.result ≡ half_of (c.args.addr / 2 ^ c.loop-place.place % 2)
    (get_or c.args.self.now.low (g.row.D - 1 - (0 + c.loop-place.place)) 0)
    (get_or c.args.self.now.high (g.row.D - 1 - (0 + c.loop-place.place)) 0) = c.half-sum.ensures.value
    ∙ ap (λ t. half_of t (get_or low (g.row.D - 1 - place) 0) (get_or high (g.row.D - 1 - place) 0)) digit
    ∙ ap (λ i. half_of (c.args.addr / 2 ^ place % 2) (get_or low i 0) (get_or high i 0)) there in
    record {
      within = omega (arith, c.loop-place-test.true);
      sum = omega (arith, c.loop-place.invariant.sum, here, digits-more g.row.D low high 0 c.args.addr place);
    }

pub returns : goal.returns
returns g c =
    let small = c.requires.sound in
    c.loop-place.invariant.sum
    ∙ digits-all g.row.D c.args.self.now.low c.args.self.now.high c.args.addr c.loop-place.place small.lows small.highs
    (omega (arith, c.loop-place.invariant.within, c.loop-place-test.false))
