use Rattle.ph_snap_trials.proofs.tests.saves_and_loads.Given as goal

abbrev pub ghosts-save_and_load_all-V-Ledger : goal.ghosts-save_and_load_all-V-Ledger
ghosts-save_and_load_all-V-Ledger g a = record { name = a.visits.name; parts = a.visits.parts }

abbrev pub ghosts-save_and_load_all-C-Ledger : goal.ghosts-save_and_load_all-C-Ledger
ghosts-save_and_load_all-C-Ledger g a = record { name = a.changes.name; parts = a.changes.parts }
