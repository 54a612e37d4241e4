use Rattle.std.proofs.Common.{length}
use Rattle.ph_specs.specs.Reply.{Reply}
use Rattle.ph_commands.proofs.Listed.{IsListedBy}
use Rattle.ph_commands.proofs.listing.list_between.Given as goal

abbrev pub invariant-rows : goal.invariant-rows
invariant-rows g l = IsListedBy g.O.Sink Reply.RowIs l.initial.window.rows l.window.rows l.count l.initial.out l.out l.initial.visits
    l.initial.window.visits l.visits l.window.visits

abbrev pub decreases-rows : goal.decreases-rows
decreases-rows g l = length l.window.rows
