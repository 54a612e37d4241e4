use Rattle.ph_snap_trials.proofs.tests.loads.outcome_in.Given as goal

abbrev pub ghosts-outcome_by-V-Ledger : goal.ghosts-outcome_by-V-Ledger
ghosts-outcome_by-V-Ledger g a = record { name = a.visits.name; parts = a.visits.parts }

abbrev pub ghosts-outcome_by-C-Ledger : goal.ghosts-outcome_by-C-Ledger
ghosts-outcome_by-C-Ledger g a = record { name = a.changes.name; parts = a.changes.parts }
