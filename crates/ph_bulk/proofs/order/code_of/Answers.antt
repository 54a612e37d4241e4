use Rattle.std.proofs.Common.{◌∙◌, map, arith}
use Rattle.ph_bulk.specs.Order.{any_offset}
use Rattle.ph_bulk.proofs.Codes.{IsNextDigit, next-digit}
use Rattle.ph_bulk.proofs.order.code_of.Goals as goal
use Rattle.ph_bulk.proofs.order.code_of.Goals.{After-from}
use Rattle.ph_bulk.proofs.order.code_of.Given.{Over}

digit : (g : Over) (c : After-from g) →
    IsNextDigit g.row.D c.args.w c.loop-place.place c.loop-place.code c.from.result c.any_offsets-offsets.result (map (any_offset c.args.w) c.args.p.now)
digit g c =
    next-digit g.row.D c.args.w c.loop-place.place c.loop-place.code c.from.result c.any_offsets-offsets.result (map (any_offset c.args.w) c.args.p.now)
    c.loop-place.invariant.dims c.requires.digits c.any_offsets-offsets.ensures (omega (arith, c.loop-place-test.true)) c.loop-place.invariant.whole
    (c.from.ensures ∙ c.body_address.ensures.value)

pub overflow_add-code : goal.overflow_add-code
overflow_add-code g c = omega (arith, (digit g c).fits)

pub loop-place-preserved : goal.loop-place-preserved
loop-place-preserved g c = record { dims = c.loop-place.invariant.dims; whole = (digit g c).next }
