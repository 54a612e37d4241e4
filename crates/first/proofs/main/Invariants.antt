use Rattle.first.proofs.main.Given as goal

abbrev pub ghosts-show-V-Ledger : goal.ghosts-show-V-Ledger
ghosts-show-V-Ledger a = record { name = a.visits.name; parts = a.visits.parts }

abbrev pub ghosts-show-C-Ledger : goal.ghosts-show-C-Ledger
ghosts-show-C-Ledger a = record { name = a.changes.name; parts = a.changes.parts }
