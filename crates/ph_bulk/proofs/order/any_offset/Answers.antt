use Rattle.std.proofs.Common.{◌+◌, ◌%◌, ◌^◌, ◌∙◌, ap, arith}
use Rattle.std.specs.Int.{cast_unsigned, w64}
use Rattle.ph_specs.specs.Coordinate.{half}
use Rattle.ph_coord.proofs.Signed.{passed}
use Rattle.ph_bulk.proofs.Orders.{cut-sum}
use Rattle.ph_bulk.proofs.order.any_offset.Goals as goal

pub returns : goal.returns
returns c =
    c.digits_below.ensures
    ∙ cut-sum c.args.w c.bits.result c.bits-2.result c.cast_unsigned.result (omega arith) (omega arith) c.bits.ensures.value c.bits-2.ensures.value
    ∙ ap (λ u. (u + half c.args.w) % 2 ^ c.args.w) (passed (cast_unsigned w64) c.args.c c.cast_unsigned.result c.ranges.c c.cast_unsigned.ensures)
