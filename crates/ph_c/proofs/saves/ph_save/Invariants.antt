-- The ledger of the counter is the blank's.
use Rattle.ph_c.proofs.saves.ph_save.Given as goal

abbrev pub ghosts-save_in : goal.ghosts-save_in
ghosts-save_in a = record { name = a.visits.name; parts = a.visits.parts }
