use Rattle.ph_node.proofs.Fitting.{few}
use Rattle.ph_node.proofs.records.write.Goals as goal

pub wants_cube-requires-clause-entries : goal.wants_cube-requires-clause-entries
wants_cube-requires-clause-entries g c = rw (c.count.ensures, c.D.ensures) (few _ _ _ c.requires.rise)
