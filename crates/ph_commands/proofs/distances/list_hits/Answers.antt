use Rattle.std.proofs.Common.{◌+◌, length, drop, refl, arith}
use Rattle.std.proofs.lemmas.List.{drop_all}
use Rattle.std.proofs.lemmas.Result.{err_from_is_err_and}
use Rattle.ph_commands.specs.Listing.{hit_said}
use Rattle.ph_commands.proofs.Hits.{hits-left}
use Rattle.ph_commands.proofs.Listed.{item-front, item-given, items-said}
use Rattle.ph_commands.proofs.Replies.{none_given}
use Rattle.ph_commands.proofs.distances.list_hits.Goals as goal

pub loop-hit-init : goal.loop-hit-init
loop-hit-init g c = record { later = omega arith; given = none_given _ _ }

pub loop-hit-preserved : goal.loop-hit-preserved
loop-hit-preserved g c =
    let hits = c.args.hits.now in
    let i = c.loop-hit.hit-index in
    record {
      later = omega (arith, c.loop-hit.invariant.later, c.in_ok-say_hit.ensures.cause.later);
      given = item-given hit_said _ _ (drop i hits) (drop (i + 1) hits) c.hit-item.result _ _ _
          c.loop-hit.invariant.given (hits-left hits i c.hit-item.result c.loop-hit-test.true c.hit-item.is)
          c.in_ok-say_hit.ensures.told;
    }

pub returns-in_err-say_hit-clause-lists : goal.returns-in_err-say_hit-clause-lists
returns-in_err-say_hit-clause-lists g c =
    let hits = c.args.hits.now in
    let i = c.loop-hit.hit-index in
    let is = err_from_is_err_and c.from_residual.result c.from_residual.ensures.1 in
    rw (is.1, is.2)
    (record {
      front = item-front hit_said _ _ (drop i hits) (drop (i + 1) hits) c.hit-item.result _ _ _
          c.loop-hit.invariant.given (hits-left hits i c.hit-item.result c.loop-hit-test.true c.hit-item.is)
          c.in_err-say_hit.ensures.front;
      fault = c.in_err-say_hit.ensures.err;
      visited = omega arith;
    })

pub returns-clause-lists : goal.returns-clause-lists
returns-clause-lists g c =
    let hits = c.args.hits.now in
    items-said hit_said hits (drop c.loop-hit.hit-index hits) (length hits) (length hits) 0 0 0 0 _ _ _ c.say.result
    c.loop-hit.invariant.given (drop_all c.loop-hit.hit-index hits c.loop-hit-test.false) refl c.say.ensures.answer
    c.say.ensures.told c.say.ensures.err c.say.ensures.front (omega arith) (omega arith)
