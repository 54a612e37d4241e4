use Rattle.tour.proofs.main.Given as goal

abbrev pub ghosts-show_all-V-Ledger : goal.ghosts-show_all-V-Ledger
ghosts-show_all-V-Ledger a = record { name = a.visits.name; parts = a.visits.parts }

abbrev pub ghosts-show_all-C-Ledger : goal.ghosts-show_all-C-Ledger
ghosts-show_all-C-Ledger a = record { name = a.changes.name; parts = a.changes.parts }
