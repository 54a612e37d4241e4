use Rattle.ph_trials.proofs.orders.points_in_every_order.Given as goal

abbrev pub ghosts-every_order-V-Ledger : goal.ghosts-every_order-V-Ledger
ghosts-every_order-V-Ledger g a = record { name = a.visits.name; parts = a.visits.parts }

abbrev pub ghosts-every_order-C-Ledger : goal.ghosts-every_order-C-Ledger
ghosts-every_order-C-Ledger g a = record { name = a.changes.name; parts = a.changes.parts }
