use Rattle.std.proofs.Common.{length}
use Rattle.ph_commands.specs.Pairing.{pair_said}
use Rattle.ph_commands.proofs.Within.{IsWithinBy}
use Rattle.ph_commands.proofs.pairs.list_pairs.Given as goal

abbrev pub invariant-pairs : goal.invariant-pairs
invariant-pairs g l = IsWithinBy g.O.Sink pair_said l.initial.join.pairs l.join.pairs l.count l.initial.out l.out l.initial.visits
    l.initial.join.visits l.initial.join.owed l.visits l.join.visits l.join.owed

abbrev pub decreases-pairs : goal.decreases-pairs
decreases-pairs g l = length l.join.pairs
