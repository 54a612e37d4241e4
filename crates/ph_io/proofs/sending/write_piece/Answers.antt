use Rattle.std.proofs.Common.{arith}
use Rattle.ph_io.proofs.Appending.{given_both, given_write, take_both}
use Rattle.ph_io.proofs.sending.write_piece.Goals as goal

pub loop-at-preserved : goal.loop-at-preserved
loop-at-preserved g c = record {
  told = rw (← take_both c.args.piece.now c.loop-at.at c.in-Ok.count)
      (given_both _ _ _ _ _ c.loop-at.invariant.told
      (given_write _ _ _ c.in-Ok.count (omega (arith, c.in-Ok.ensures.bound)) c.in-Ok.ensures.bytes c.in-Ok.ensures.amount));
  within = omega (arith, c.in-Ok.ensures.bound);
  later = omega (arith, c.loop-at.invariant.later, c.in-Ok.ensures.cause.later);
  follows = g.met.O.Sink.follows_on c.args.out.now c.loop-at.out c.write.new.self c.loop-at.invariant.follows c.in-Ok.ensures.follows;
}
