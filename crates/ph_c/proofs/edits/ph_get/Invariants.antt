-- The ledger of the counter is the blank's.
use Rattle.ph_c.proofs.edits.ph_get.Given as goal

abbrev pub ghosts-get_in : goal.ghosts-get_in
ghosts-get_in a = record { name = a.visits.name; parts = a.visits.parts }
