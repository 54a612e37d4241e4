use Rattle.std.proofs.Common.{◌∙◌, ap}
use Rattle.ph_specs.specs.Table.{Row}
use Rattle.ph_shape.specs.Bodies.{filled}
use Rattle.ph_specs.specs.Shape.{digits_below}
use Rattle.ph_shape.proofs.Zeros.{point-body}
use Rattle.ph_shape.proofs.space.DimSpace.point_body.Goals as goal

pub returns : goal.returns
returns g c =
    c.body_below.ensures ∙ point-body c.args.w c.args.place c.as_slice.result.now c.offsets_of.result c.offsets_of.ensures.values c.offsets_of.ensures.zeros
    ∙ ap (λ p. filled (digits_below c.args.w c.args.place p)) c.as_slice.ensures.value
    ∙ ap (λ (r : Row). filled (digits_below c.args.w c.args.place r.point)) c.row.view_is
