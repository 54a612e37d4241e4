use Rattle.std.proofs.Common.{lt-ltb}
use Rattle.std.proofs.lemmas.Bool.{ltb-true}
use Rattle.std.specs.Int.{bit_not, w64}
use Rattle.std.specs.Int.Bits.{bit_and}
use Rattle.ph_digits.proofs.WordOrders.{higher}
use Rattle.ph_digits.proofs.order.is_higher.Goals as goal

pub returns : goal.returns
returns c =
    let same = higher c.args.word c.args.other c.ranges.word.fits c.ranges.other.fits in (
      λ e. same.0 (ltb-true c.args.other (bit_and c.args.word (bit_not w64 c.args.other)) e),
      λ h. lt-ltb c.args.other (bit_and c.args.word (bit_not w64 c.args.other)) (same.1 h),
    )
