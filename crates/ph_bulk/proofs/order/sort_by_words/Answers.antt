use Rattle.std.proofs.Common.{rules}
use Rattle.std.proofs.lemmas.Fn.{always_returns_same}
use Rattle.ph_bulk.specs.Order.{row_before}
use Rattle.ph_bulk.proofs.Orders.{order}
use Rattle.ph_bulk.proofs.order.sort_by_words.Goals as goal

pub returns-clause-sorted : goal.returns-clause-sorted
returns-clause-sorted g c = c.in_ok-sort_by.ensures.sorted (row_before c.args.w) (order c.args.w) (always_returns_same _ _ _ (λ a r f' k. search rules))

pub returns-clause-stable : goal.returns-clause-stable
returns-clause-stable g c = c.sort_by.ensures.stable (row_before c.args.w) (order c.args.w) (always_returns_same _ _ _ (λ a r f' k. search rules))
