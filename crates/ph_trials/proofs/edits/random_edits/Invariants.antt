use Rattle.ph_trials.proofs.edits.random_edits.Given as goal

abbrev pub ghosts-all_edits-V-Ledger : goal.ghosts-all_edits-V-Ledger
ghosts-all_edits-V-Ledger g a = record { name = a.visits.name; parts = a.visits.parts }

abbrev pub ghosts-all_edits-C-Ledger : goal.ghosts-all_edits-C-Ledger
ghosts-all_edits-C-Ledger g a = record { name = a.changes.name; parts = a.changes.parts }
