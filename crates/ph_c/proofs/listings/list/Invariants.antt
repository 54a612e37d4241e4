-- The ledger of the counter is the blank's.
use Rattle.ph_c.proofs.listings.list.Given as goal

abbrev pub ghosts-list_in : goal.ghosts-list_in
ghosts-list_in a = record { name = a.visits.name; parts = a.visits.parts }
