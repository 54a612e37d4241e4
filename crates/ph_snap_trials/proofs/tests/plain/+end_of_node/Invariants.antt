use Rattle.ph_snap_trials.proofs.tests.plain.+end_of_node.Given as goal

abbrev pub decreases-end_of_node : goal.decreases-end_of_node
decreases-end_of_node l = l.standing.now.below
