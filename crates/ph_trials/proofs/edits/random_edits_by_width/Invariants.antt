use Rattle.ph_trials.proofs.edits.random_edits_by_width.Given as goal

abbrev pub ghosts-edits_by_width-V-Ledger : goal.ghosts-edits_by_width-V-Ledger
ghosts-edits_by_width-V-Ledger g a = record { name = a.visits.name; parts = a.visits.parts }

abbrev pub ghosts-edits_by_width-C-Ledger : goal.ghosts-edits_by_width-C-Ledger
ghosts-edits_by_width-C-Ledger g a = record { name = a.changes.name; parts = a.changes.parts }
