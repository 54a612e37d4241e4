use Rattle.ph_trials.proofs.windows.windows_between_edits.Given as goal

abbrev pub ghosts-all_windows-V-Ledger : goal.ghosts-all_windows-V-Ledger
ghosts-all_windows-V-Ledger g a = record { name = a.visits.name; parts = a.visits.parts }

abbrev pub ghosts-all_windows-C-Ledger : goal.ghosts-all_windows-C-Ledger
ghosts-all_windows-C-Ledger g a = record { name = a.changes.name; parts = a.changes.parts }
