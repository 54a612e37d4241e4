-- The ledger of the counter is the blank's.
use Rattle.ph_c.proofs.nears.ph_nearest.Given as goal

abbrev pub ghosts-nearest_in : goal.ghosts-nearest_in
ghosts-nearest_in a = record { name = a.visits.name; parts = a.visits.parts }
