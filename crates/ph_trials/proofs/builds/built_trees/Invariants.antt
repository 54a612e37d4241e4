use Rattle.ph_trials.proofs.builds.built_trees.Given as goal

abbrev pub ghosts-all_builds-V-Ledger : goal.ghosts-all_builds-V-Ledger
ghosts-all_builds-V-Ledger g a = record { name = a.visits.name; parts = a.visits.parts }

abbrev pub ghosts-all_builds-C-Ledger : goal.ghosts-all_builds-C-Ledger
ghosts-all_builds-C-Ledger g a = record { name = a.changes.name; parts = a.changes.parts }
