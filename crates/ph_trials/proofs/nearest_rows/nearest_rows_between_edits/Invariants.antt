use Rattle.ph_trials.proofs.nearest_rows.nearest_rows_between_edits.Given as goal

abbrev pub ghosts-all_dimensions-V-Ledger : goal.ghosts-all_dimensions-V-Ledger
ghosts-all_dimensions-V-Ledger g a = record { name = a.visits.name; parts = a.visits.parts }

abbrev pub ghosts-all_dimensions-C-Ledger : goal.ghosts-all_dimensions-C-Ledger
ghosts-all_dimensions-C-Ledger g a = record { name = a.changes.name; parts = a.changes.parts }
