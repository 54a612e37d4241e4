-- The ledger of the counter is the blank's.
use Rattle.ph_c.proofs.builds.ph_build.Given as goal

abbrev pub ghosts-build_in : goal.ghosts-build_in
ghosts-build_in a = record { name = a.changes.name; parts = a.changes.parts }
