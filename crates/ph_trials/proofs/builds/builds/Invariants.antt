use Rattle.std.specs.List.{AllByRecursion as Each}
use Rattle.ph_specs.specs.Coordinate.{IsPoint}
use Rattle.ph_trials.proofs.builds.builds.Given as goal

abbrev pub invariant-loop-value : goal.invariant-loop-value
invariant-loop-value g l = Each (λ r. IsPoint g.row.W g.row.D r.point) l.rows.items
