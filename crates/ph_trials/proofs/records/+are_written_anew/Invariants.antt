use Rattle.std.proofs.Common.{length}
use Rattle.std.specs.Prelude.{Some}
use Rattle.ph_specs.specs.Node.{nodes}
use Rattle.ph_trials.proofs.records.+are_written_anew.Given as goal

abbrev pub decreases-are_written_anew : goal.decreases-are_written_anew
decreases-are_written_anew g l = length (nodes (Some l.node.now))
