use Rattle.ph_trials.proofs.kept.known_edits.known_edits.Given as goal

abbrev pub ghosts-known-V-Ledger : goal.ghosts-known-V-Ledger
ghosts-known-V-Ledger g a = record { name = a.visits.name; parts = a.visits.parts }

abbrev pub ghosts-known-C-Ledger : goal.ghosts-known-C-Ledger
ghosts-known-C-Ledger g a = record { name = a.changes.name; parts = a.changes.parts }
