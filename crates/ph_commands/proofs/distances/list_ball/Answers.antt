use Rattle.std.proofs.Common.{length, refl, ap, arith}
use Rattle.std.proofs.lemmas.Result.{err_from_is_err_and}
use Rattle.ph_commands.specs.Tables.{tree_at}
use Rattle.ph_commands.proofs.Hits.{ball-said, few-hits}
use Rattle.ph_commands.proofs.Listed.{one_listed, few_listed, listed_cut, all_listed}
use Rattle.ph_commands.proofs.distances.list_ball.Goals as goal

pub hits-preserved : goal.hits-preserved
hits-preserved g c = one_listed c.hits.invariant c.in-Some.ensures.hit c.next.ensures.rest c.in_ok-say_hit.ensures.told
    c.in_ok-say_hit.ensures.cause.later c.next.ensures.cost

pub overflow_add-count : goal.overflow_add-count
overflow_add-count g c =
    let few = few-hits c.point_at.result c.args.r c.args.tree.now.table in
    omega (
      arith,
      few_listed c.hits.invariant c.in-Some.ensures.hit c.next.ensures.rest,
      few,
      ap (λ hs. length hs) c.new-ball.ensures.hits,
      c.len-len.ensures.value,
      c.len-len.type_inv,
    )

pub returns-in_err-say_hit-clause-lists : goal.returns-in_err-say_hit-clause-lists
returns-in_err-say_hit-clause-lists g c =
    let is = err_from_is_err_and c.from_residual.result c.from_residual.ensures.1 in
    ball-said (tree_at g.row.D c.args.tree.now) c.point_at.result _ c.args.r c.new-ball.result.hits
    c.new-ball.result.visits _ _ c.args.visits.now c.next.new.visits c.from_residual.result
    c.point_at.ensures.value c.new-ball.ensures.hits c.new-ball.ensures.visits
    (rw (is.1, is.2) (listed_cut c.hits.invariant _ c.in-Some.ensures.hit c.next.ensures.rest
    c.in_err-say_hit.ensures.front c.in_err-say_hit.ensures.err c.next.ensures.cost))

pub returns-clause-lists : goal.returns-clause-lists
returns-clause-lists g c =
    let said = c.say.ensures in
    ball-said (tree_at g.row.D c.args.tree.now) c.point_at.result _ c.args.r c.new-ball.result.hits
    c.new-ball.result.visits _ _ c.args.visits.now c.next.new.visits c.say.result
    c.point_at.ensures.value c.new-ball.ensures.hits c.new-ball.ensures.visits
    (all_listed c.hits.invariant _ c.next.new.visits c.say.result c.in_default.ensures.hit c.next.ensures.cost
    (c.in_default.ensures.end refl) said.answer said.told said.err said.front)
