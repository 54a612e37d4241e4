-- The ledgers of the counters are the blanks'.
use Rattle.ph_c.proofs.edits.ph_remove.Given as goal

abbrev pub ghosts-remove_in-V-Ledger : goal.ghosts-remove_in-V-Ledger
ghosts-remove_in-V-Ledger a = record { name = a.visits.name; parts = a.visits.parts }

abbrev pub ghosts-remove_in-C-Ledger : goal.ghosts-remove_in-C-Ledger
ghosts-remove_in-C-Ledger a = record { name = a.changes.name; parts = a.changes.parts }
