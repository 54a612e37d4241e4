use Rattle.std.proofs.Common.{length}
use Rattle.ph_commands.specs.Listing.{hit_said}
use Rattle.ph_commands.proofs.Listed.{IsListedBy}
use Rattle.ph_commands.proofs.distances.list_ball.Given as goal

abbrev pub invariant-hits : goal.invariant-hits
invariant-hits g l = IsListedBy g.O.Sink hit_said l.initial.ball.hits l.ball.hits l.count l.initial.out l.out l.initial.visits
    l.initial.ball.visits l.visits l.ball.visits

abbrev pub decreases-hits : goal.decreases-hits
decreases-hits g l = length l.ball.hits
