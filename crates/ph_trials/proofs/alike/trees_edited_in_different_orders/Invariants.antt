use Rattle.ph_trials.proofs.alike.trees_edited_in_different_orders.Given as goal

abbrev pub ghosts-all_pairs-V-Ledger : goal.ghosts-all_pairs-V-Ledger
ghosts-all_pairs-V-Ledger g a = record { name = a.visits.name; parts = a.visits.parts }

abbrev pub ghosts-all_pairs-C-Ledger : goal.ghosts-all_pairs-C-Ledger
ghosts-all_pairs-C-Ledger g a = record { name = a.changes.name; parts = a.changes.parts }
