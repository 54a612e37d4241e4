use Rattle.ph_trials.proofs.distances.nearest_rows.nearest_rows_in_order.Given as goal

abbrev pub ghosts-list-V-Ledger : goal.ghosts-list-V-Ledger
ghosts-list-V-Ledger g a = record { name = a.visits.name; parts = a.visits.parts }

abbrev pub ghosts-list-C-Ledger : goal.ghosts-list-C-Ledger
ghosts-list-C-Ledger g a = record { name = a.changes.name; parts = a.changes.parts }
