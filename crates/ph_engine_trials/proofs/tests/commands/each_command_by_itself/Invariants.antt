use Rattle.ph_engine_trials.proofs.tests.commands.each_command_by_itself.Given as goal

abbrev pub ghosts-check_each-V-Ledger : goal.ghosts-check_each-V-Ledger
ghosts-check_each-V-Ledger g a = record { name = a.visits.name; parts = a.visits.parts }

abbrev pub ghosts-check_each-C-Ledger : goal.ghosts-check_each-C-Ledger
ghosts-check_each-C-Ledger g a = record { name = a.changes.name; parts = a.changes.parts }
