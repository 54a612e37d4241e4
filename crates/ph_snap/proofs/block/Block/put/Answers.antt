use Rattle.std.proofs.Common.{arith, add-one}
use Rattle.std.proofs.lemmas.Result.{err_from_is_err_and}
use Rattle.ph_snap.proofs.Passing.{passed-both, words-more, words-front}
use Rattle.ph_snap.proofs.block.Block.put.Goals as goal

pub returns-in_err-push-clause-front : goal.returns-in_err-push-clause-front
returns-in_err-push-clause-front g c =
    let is = err_from_is_err_and c.from_residual.result c.from_residual.ensures.1 in
    rw is.1 (words-front _ _ _ _ _ c.args.words.now c.loop-word.word-index c.loop-word-test.true c.loop-word.invariant.passed c.in_err-push.ensures.front)

pub loop-word-preserved : goal.loop-word-preserved
loop-word-preserved g c = record {
  passed = rw (add-one, words-more c.args.words.now c.loop-word.word-index 0 c.loop-word-test.true)
      (passed-both _ _ _ _ _ _ _ _ c.loop-word.invariant.passed (rw c.bytes_in.ensures at c.in_ok-push.ensures.passed));
  later = omega (arith, c.loop-word.invariant.later, c.in_ok-push.ensures.cause.later);
  follows = g.met.S.Sink.follows_on _ _ _ c.loop-word.invariant.follows c.in_ok-push.ensures.follows;
}
