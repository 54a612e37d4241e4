use Rattle.ph_near.proofs.Queues.{far-all}
use Rattle.ph_near.proofs.waiting.Queue.next_within.Goals as goal

pub returns-then-item-limit-clause-none : goal.returns-then-item-limit-clause-none
returns-then-item-limit-clause-none c = far-all c.args.limit c.in-Some.item c.if-item-limit.true c.in-Some.ensures.next
