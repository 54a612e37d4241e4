-- The ledgers of the counters are the blanks'.
use Rattle.ph_c.proofs.edits.ph_move.Given as goal

abbrev pub ghosts-move_in-V-Ledger : goal.ghosts-move_in-V-Ledger
ghosts-move_in-V-Ledger a = record { name = a.visits.name; parts = a.visits.parts }

abbrev pub ghosts-move_in-C-Ledger : goal.ghosts-move_in-C-Ledger
ghosts-move_in-C-Ledger a = record { name = a.changes.name; parts = a.changes.parts }
