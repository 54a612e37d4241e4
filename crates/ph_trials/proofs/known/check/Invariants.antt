use Rattle.ph_trials.proofs.known.check.Given as goal

abbrev pub ghosts-outcome-V-Ledger : goal.ghosts-outcome-V-Ledger
ghosts-outcome-V-Ledger g a = record { name = a.visits.name; parts = a.visits.parts }

abbrev pub ghosts-outcome-C-Ledger : goal.ghosts-outcome-C-Ledger
ghosts-outcome-C-Ledger g a = record { name = a.changes.name; parts = a.changes.parts }
