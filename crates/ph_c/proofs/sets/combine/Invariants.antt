-- The ledgers of the counters are the blanks'.
use Rattle.ph_c.proofs.sets.combine.Given as goal

abbrev pub ghosts-combine_in-V-Ledger : goal.ghosts-combine_in-V-Ledger
ghosts-combine_in-V-Ledger a = record { name = a.visits.name; parts = a.visits.parts }

abbrev pub ghosts-combine_in-C-Ledger : goal.ghosts-combine_in-C-Ledger
ghosts-combine_in-C-Ledger a = record { name = a.changes.name; parts = a.changes.parts }
