use Rattle.ph_tree.proofs.removals.+del_below.Given as goal

abbrev pub decreases-del_below : goal.decreases-del_below
decreases-del_below g l = l.cur.now.level
