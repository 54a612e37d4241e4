use Rattle.ph_node.specs.Shown.{shown}
use Rattle.ph_trials.proofs.Written.{value-read, child-read}
use Rattle.ph_trials.proofs.records.GatheredEntries.value.Goals as goal

pub returns-in-Value-clause-value : goal.returns-in-Value-clause-value
returns-in-Value-clause-value g c v e =
    value-read (shown c.args.self.now.node) c.args.i g.P.Dims.D c.entry.result c.in-Value.v v c.entry.ensures.shows c.in-Value.is e

pub returns-in-Child-clause-value : goal.returns-in-Child-clause-value
returns-in-Child-clause-value g c v e =
    absurd (child-read (shown c.args.self.now.node) c.args.i g.P.Dims.D c.entry.result c.in-Child.field-0 v c.entry.ensures.shows c.in-Child.is e)
