use Rattle.std.proofs.Common.{length, refl, ap, arith}
use Rattle.std.proofs.lemmas.Result.{err_from_is_err_and}
use Rattle.ph_commands.proofs.Listed.{one_listed, few_listed, listed_cut, all_listed, few-rows}
use Rattle.ph_commands.proofs.listing.list_between.Goals as goal

pub rows-preserved : goal.rows-preserved
rows-preserved g c = one_listed c.rows.invariant c.in-Some.ensures.row c.next.ensures.rest c.in_ok-say_row.ensures.told
    c.in_ok-say_row.ensures.cause.later c.next.ensures.cost

pub overflow_add-count : goal.overflow_add-count
overflow_add-count g c =
    let few = few-rows c.args.lo c.args.hi c.args.tree.now.table in
    omega (
      arith,
      few_listed c.rows.invariant c.in-Some.ensures.row c.next.ensures.rest,
      few,
      ap (λ rs. length rs) c.new-window.ensures.rows,
      c.len-len.ensures.value,
      c.len-len.type_inv,
    )

pub returns-in_err-say_row-clause-lists : goal.returns-in_err-say_row-clause-lists
returns-in_err-say_row-clause-lists g c =
    let is = err_from_is_err_and c.from_residual.result c.from_residual.ensures.1 in
    rw (is.1, is.2, ← c.new-window.ensures.rows, ← c.new-window.ensures.visits) (listed_cut c.rows.invariant _ c.in-Some.ensures.row
    c.next.ensures.rest c.in_err-say_row.ensures.front c.in_err-say_row.ensures.err c.next.ensures.cost)

pub returns-clause-lists : goal.returns-clause-lists
returns-clause-lists g c =
    let said = c.say.ensures in
    rw (← c.new-window.ensures.rows, ← c.new-window.ensures.visits) (all_listed c.rows.invariant _ c.next.new.visits c.say.result c.in_default.ensures.row
    c.next.ensures.cost (c.in_default.ensures.end refl) said.answer said.told said.err said.front)
