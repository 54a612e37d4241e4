use Rattle.std.proofs.Common.{arith}
use Rattle.ph_window.proofs.Marks.{mark-body}
use Rattle.ph_window.proofs.mark.MarkOf.new.Goals as goal

pub invariant_of-result : goal.invariant_of-result
invariant_of-result g c = record {
  size = record {
    few = c.requires.few;
    wide = omega (arith, c.bits-bits.ensures.value, c.bits-bits.ensures.some);
    narrow = omega (arith, c.bits-bits.ensures.value, c.bits-bits.ensures.limit);
  };
  body = mark-body g.P.Dims.D c.args.w c.args.p.now c.offsets_of.result
      (omega (arith, c.bits-bits.ensures.value, c.bits-bits.ensures.some)) c.requires.point c.offsets_of.ensures.values;
}
