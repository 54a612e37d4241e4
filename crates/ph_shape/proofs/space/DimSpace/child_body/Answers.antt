use Rattle.std.proofs.Common.{◌∙◌, ap}
use Rattle.ph_specs.specs.Table.{Row}
use Rattle.ph_shape.specs.Bodies.{filled}
use Rattle.ph_specs.specs.Shape.{digits_between}
use Rattle.ph_shape.proofs.Zeros.{point-body, child-body}
use Rattle.ph_shape.proofs.space.DimSpace.child_body.Goals as goal

pub returns : goal.returns
returns g c =
    c.body_above.ensures
    ∙ child-body c.args.w c.args.place c.args.low c.as_slice.result.now c.body_below.result
    (c.body_below.ensures ∙ point-body c.args.w c.args.place c.as_slice.result.now c.offsets_of.result c.offsets_of.ensures.values c.offsets_of.ensures.zeros)
    ∙ ap (λ p. filled (digits_between c.args.w c.args.place c.args.low p)) c.as_slice.ensures.value
    ∙ ap (λ (r : Row). filled (digits_between c.args.w c.args.place c.args.low r.point)) c.row.view_is
