use Rattle.std.proofs.Common.{◌≡◌, ◌≤◌, ◌+◌, length}
use Rattle.ph_join.specs.Joining.{joining, IsJoin}
use Rattle.ph_join.proofs.join.JoinOf+Dim+D+Row+D+ref+PhTree+D.next.Given as goal

abbrev pub invariant-pairs : goal.invariant-pairs
invariant-pairs g l = let a = l.self-inside in record {
  pairs : (joining g.row.D a.at a.firsts a.second.now).pairs ≡ l.fn.self.pairs;
  cost : l.visits + (joining g.row.D a.at a.firsts a.second.now).visits ≤ l.fn.visits + l.fn.self.visits;
  grows : l.fn.visits + l.fn.self.owed ≤ l.visits + (joining g.row.D a.at a.firsts a.second.now).owed;
  kept : IsJoin g.row.D a.firsts.rows a.second.now;
}

abbrev pub decreases-pairs : goal.decreases-pairs
decreases-pairs g l = length l.self-inside.firsts.rows
