-- The ledger of the counter is the blank's.
use Rattle.ph_c.proofs.sizes.ph_sizes.Given as goal

abbrev pub ghosts-sizes_in : goal.ghosts-sizes_in
ghosts-sizes_in a = record { name = a.visits.name; parts = a.visits.parts }
