use Rattle.std.proofs.Common.{rules, ◌≡◌, subst, sym}
use Rattle.ph_specs.specs.Coordinate.{IsPoint}
use Rattle.ph_model.proofs.laws.AllPoints.{lowest-point}
use Rattle.ph_model.specs.AllPoints.{lowest}
use Rattle.ph_window.proofs.whole.least_corner.Goals as goal

pub returns-clause-point : goal.returns-clause-point
returns-clause-point g c = let value : c.new.result ≡ lowest c.args.w g.row.D = search rules in
    subst (IsPoint c.args.w g.row.D) (sym value) (lowest-point c.args.w g.row.D)
