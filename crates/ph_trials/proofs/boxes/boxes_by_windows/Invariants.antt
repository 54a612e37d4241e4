use Rattle.ph_trials.proofs.boxes.boxes_by_windows.Given as goal

abbrev pub ghosts-all_boxes-V-Ledger : goal.ghosts-all_boxes-V-Ledger
ghosts-all_boxes-V-Ledger g a = record { name = a.visits.name; parts = a.visits.parts }

abbrev pub ghosts-all_boxes-C-Ledger : goal.ghosts-all_boxes-C-Ledger
ghosts-all_boxes-C-Ledger g a = record { name = a.changes.name; parts = a.changes.parts }
