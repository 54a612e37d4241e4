-- What lines cost: faults of the files, and the work that is counted.
use Rattle.std.specs.Prelude.{◌≤◌, ◌+◌, List}
use Rattle.ph_slot.specs.Beside.{Beside, Filings}
use Rattle.ph_engine.specs.Machine.{Machine, Turn, some_uses, total, faults_in}

-- The files failed in no more of the lines than their count tells, and no more work was done than the lines may do.
pub record Spent {S : Type 0} (m : Machine S) (s : S) (turns : List Turn) (b now_b : Beside) : Type 0 where
  pub filings : Filings (some_uses m s turns) (faults_in turns) b.filings now_b.filings
  pub most_visits : now_b.visits ≤ b.visits + total (λ w. w.most_visits) m s turns
  pub most_changes : now_b.changes ≤ b.changes + total (λ w. w.most_changes) m s turns

-- The same, and no less work was done than they must do.
pub record Worked {S : Type 0} (m : Machine S) (s : S) (turns : List Turn) (b now_b : Beside) : Type 0 where
  pub spent : Spent m s turns b now_b
  pub least_visits : b.visits + total (λ w. w.least_visits) m s turns ≤ now_b.visits
  pub least_changes : b.changes + total (λ w. w.least_changes) m s turns ≤ now_b.changes
