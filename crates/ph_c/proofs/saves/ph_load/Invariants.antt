-- The ledger of the counter is the blank's.
use Rattle.ph_c.proofs.saves.ph_load.Given as goal

abbrev pub ghosts-load_in : goal.ghosts-load_in
ghosts-load_in a = record { name = a.changes.name; parts = a.changes.parts }
