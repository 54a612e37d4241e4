use Rattle.ph_trials.proofs.distances.balls.balls_of_a_small_tree.Given as goal

abbrev pub ghosts-balls-V-Ledger : goal.ghosts-balls-V-Ledger
ghosts-balls-V-Ledger g a = record { name = a.visits.name; parts = a.visits.parts }

abbrev pub ghosts-balls-C-Ledger : goal.ghosts-balls-C-Ledger
ghosts-balls-C-Ledger g a = record { name = a.changes.name; parts = a.changes.parts }
