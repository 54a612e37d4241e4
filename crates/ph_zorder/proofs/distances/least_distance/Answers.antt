use Rattle.std.proofs.Common.{◌≤◌, ◌∙◌, sym, subst}
use Rattle.ph_specs.specs.Distance.{distance}
use Rattle.ph_specs.specs.Region.{nearest_point}
use Rattle.ph_model.proofs.laws.Bound.{least_distance-point}
use Rattle.ph_model.proofs.laws.RegionDistance.{nearest_point-in}
use Rattle.ph_zorder.proofs.distances.least_distance.Goals as goal

pub returns-clause-nearest : goal.returns-clause-nearest
returns-clause-nearest g c p h k =
    subst (λ n. n ≤ distance p c.args.q.now) (sym c.least_of.ensures) (least_distance-point c.args.w g.row.D c.args.r.now p c.args.q.now h k)

pub returns-clause-reached : goal.returns-clause-reached
returns-clause-reached g c =
    let n = nearest_point-in c.args.w g.row.D c.args.r.now c.args.q.now c.requires.level c.requires.corner c.requires.point in
    (nearest_point c.args.w c.args.r.now c.args.q.now, n.0, n.1, n.2 ∙ sym c.least_of.ensures)
