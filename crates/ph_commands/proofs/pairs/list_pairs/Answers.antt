use Rattle.std.proofs.Common.{◌≤◌, ◌-◌, ◌^◌, length, refl, ap, arith}
use Rattle.std.proofs.Math.Nat.{mul-le-mul}
use Rattle.std.proofs.lemmas.Result.{err_from_is_err_and}
use Rattle.ph_specs.proofs.laws.Pairs.{few-pairs}
use Rattle.ph_commands.proofs.Within.{one_within, few_within, within_cut, all_within}
use Rattle.ph_commands.proofs.pairs.list_pairs.Goals as goal

pub pairs-preserved : goal.pairs-preserved
pairs-preserved g c = one_within c.pairs.invariant c.in-Some.ensures.pair c.next.ensures.rest c.in_ok-say_pair.ensures.told
    c.in_ok-say_pair.ensures.cause.later c.next.ensures.cost c.next.ensures.grows

pub overflow_add-count : goal.overflow_add-count
overflow_add-count g c =
    let counted = few_within c.pairs.invariant c.in-Some.ensures.pair c.next.ensures.rest in
    let few = few-pairs c.args.a.now.table c.args.b.now.table in
    let all = ap (λ ps. length ps) c.new-join.ensures.pairs in
    let firsts : length c.args.a.now.table ≤ 2 ^ 64 - 1 = omega (arith, c.len-firsts.ensures.value, c.len-firsts.type_inv) in
    let seconds : length c.args.b.now.table ≤ 2 ^ 64 - 1 = omega (arith, c.len-seconds.ensures.value, c.len-seconds.type_inv) in
    omega (arith, counted, few, all, mul-le-mul firsts seconds)

pub returns-in_err-say_pair-clause-lists : goal.returns-in_err-say_pair-clause-lists
returns-in_err-say_pair-clause-lists g c =
    let is = err_from_is_err_and c.from_residual.result c.from_residual.ensures.1 in
    rw (is.1, is.2, ← c.new-join.ensures.pairs, ← c.new-join.ensures.visits) (within_cut c.pairs.invariant _ c.in-Some.ensures.pair
    c.next.ensures.rest c.in_err-say_pair.ensures.front c.in_err-say_pair.ensures.err c.next.ensures.cost)

pub returns-clause-lists : goal.returns-clause-lists
returns-clause-lists g c =
    let said = c.say.ensures in
    rw (← c.new-join.ensures.pairs, ← c.new-join.ensures.visits, ← c.new-join.ensures.owed) (all_within c.pairs.invariant _ c.next.new.visits _ c.say.result c.in_default.ensures.pair
    c.next.ensures.cost c.next.ensures.grows (c.in_default.ensures.end refl) said.answer said.told said.err said.front)
