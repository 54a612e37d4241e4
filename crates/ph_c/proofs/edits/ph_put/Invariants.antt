-- The ledgers of the counters are the blanks'.
use Rattle.ph_c.proofs.edits.ph_put.Given as goal

abbrev pub ghosts-put_in-V-Ledger : goal.ghosts-put_in-V-Ledger
ghosts-put_in-V-Ledger a = record { name = a.visits.name; parts = a.visits.parts }

abbrev pub ghosts-put_in-C-Ledger : goal.ghosts-put_in-C-Ledger
ghosts-put_in-C-Ledger a = record { name = a.changes.name; parts = a.changes.parts }
