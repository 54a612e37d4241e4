use Rattle.ph_engine_trials.proofs.tests.answer_over.Given as goal

abbrev pub ghosts-answer_counted-V-Ledger : goal.ghosts-answer_counted-V-Ledger
ghosts-answer_counted-V-Ledger g a = record { name = a.visits.name; parts = a.visits.parts }

abbrev pub ghosts-answer_counted-C-Ledger : goal.ghosts-answer_counted-C-Ledger
ghosts-answer_counted-C-Ledger g a = record { name = a.changes.name; parts = a.changes.parts }
