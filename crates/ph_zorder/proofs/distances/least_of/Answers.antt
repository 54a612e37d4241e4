use Rattle.std.proofs.Common.{◌∙◌, ap, arith, subst, sym}
use Rattle.ph_specs.specs.Coordinate.{IsPoint}
use Rattle.ph_specs.specs.Region.{Region, least_distance}
use Rattle.ph_model.proofs.laws.Bound.{bound}
use Rattle.ph_zorder.proofs.Gaps.{point-offsets}
use Rattle.ph_zorder.proofs.distances.least_of.Goals as goal

pub offset_least_distance-requires-clause-first : goal.offset_least_distance-requires-clause-first
offset_least_distance-requires-clause-first g c =
    let corner : IsPoint c.args.w g.row.D c.r.inside.corner = subst (λ (r : Region). IsPoint c.args.w g.row.D r.corner) (sym c.r.view_is) c.requires.corner in
    (point-offsets c.args.w g.row.D c.r.inside.corner c.offsets.result (omega arith) corner c.offsets.ensures).0

pub offset_least_distance-requires-clause-second : goal.offset_least_distance-requires-clause-second
offset_least_distance-requires-clause-second g c =
    (point-offsets c.args.w g.row.D c.args.q.now c.offsets-2.result (omega arith) c.requires.point c.offsets-2.ensures).0

pub returns : goal.returns
returns g c =
    let corner : IsPoint c.args.w g.row.D c.r.inside.corner = subst (λ (r : Region). IsPoint c.args.w g.row.D r.corner) (sym c.r.view_is) c.requires.corner in
    let there = (point-offsets c.args.w g.row.D c.r.inside.corner c.offsets.result (omega arith) corner c.offsets.ensures).1 in
    let point = (point-offsets c.args.w g.row.D c.args.q.now c.offsets-2.result (omega arith) c.requires.point c.offsets-2.ensures).1 in
    c.offset_least_distance.ensures
    ∙ (λ i. bound c.args.w c.r.inside.level (there i) (point i))
    ∙ ap (λ (r : Region). least_distance c.args.w r c.args.q.now) c.r.view_is
