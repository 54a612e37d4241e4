use Rattle.ph_steps.proofs.with_new_counters.Given as goal

abbrev pub ghosts-with_counters-V-Ledger : goal.ghosts-with_counters-V-Ledger
ghosts-with_counters-V-Ledger g a = record { name = a.visits.name; parts = a.visits.parts }

abbrev pub ghosts-with_counters-C-Ledger : goal.ghosts-with_counters-C-Ledger
ghosts-with_counters-C-Ledger g a = record { name = a.changes.name; parts = a.changes.parts }
