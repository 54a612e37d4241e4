use Rattle.std.proofs.Common.{rules, ◌≡◌, subst, sym}
use Rattle.ph_specs.specs.Coordinate.{IsPoint}
use Rattle.ph_model.proofs.laws.AllPoints.{highest-point}
use Rattle.ph_model.specs.AllPoints.{highest}
use Rattle.ph_window.proofs.whole.greatest_corner.Goals as goal

pub returns-clause-point : goal.returns-clause-point
returns-clause-point g c = let value : c.new.result ≡ highest c.args.w g.row.D = search rules in
    subst (IsPoint c.args.w g.row.D) (sym value) (highest-point c.args.w g.row.D)
