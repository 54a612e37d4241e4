use Rattle.ph_trials.proofs.distances.bounded_rows.bounded_rows_in_order.Given as goal

abbrev pub ghosts-run-V-Ledger : goal.ghosts-run-V-Ledger
ghosts-run-V-Ledger g a = record { name = a.visits.name; parts = a.visits.parts }

abbrev pub ghosts-run-C-Ledger : goal.ghosts-run-C-Ledger
ghosts-run-C-Ledger g a = record { name = a.changes.name; parts = a.changes.parts }
