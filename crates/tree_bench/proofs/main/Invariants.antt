use Rattle.tree_bench.proofs.main.Given as goal

abbrev pub ghosts-serve-V-Ledger : goal.ghosts-serve-V-Ledger
ghosts-serve-V-Ledger a = record { name = a.visits.name; parts = a.visits.parts }

abbrev pub ghosts-serve-C-Ledger : goal.ghosts-serve-C-Ledger
ghosts-serve-C-Ledger a = record { name = a.changes.name; parts = a.changes.parts }
