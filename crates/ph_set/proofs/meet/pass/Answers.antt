use Rattle.std.proofs.Common.{◌∙◌, ap, arith}
use Rattle.ph_node.specs.Merge.{addr_at}
use Rattle.ph_model.specs.Combined.{chosen}
use Rattle.ph_set.specs.Meeting.{alone}
use Rattle.ph_set.specs.Parts.{stretch_rows}
use Rattle.ph_set.specs.Sides.{side_digits, side_entries, side_node}
use Rattle.ph_set.proofs.Pairs.{IsPassed, is-passed}
use Rattle.ph_set.proofs.meet.pass.Given.{Over}
use Rattle.ph_set.proofs.meet.pass.Goals.{After-place_from-next}
use Rattle.ph_set.proofs.meet.pass.Goals as goal

-- the entries that are passed
goes : (g : Over) (c : After-place_from-next g) →
    IsPassed c.args.plan.now c.args.left g.P.Dims.D c.args.a.now c.args.b.now c.args.i c.args.j c.place_from-next.result
goes g c =
    is-passed c.args.plan.now c.args.left c.requires.sides c.requires.first c.requires.second c.requires.less
    (c.spot.ensures.spot.address ∙ ap (addr_at (side_entries c.args.b.now)) c.spot.ensures.place) c.place_from-next.ensures

pub list_stretch_if-requires-clause-within : goal.list_stretch_if-requires-clause-within
list_stretch_if-requires-clause-within g c =
    (goes g (goal.at.list_stretch_if-requires-clause-within g c).After-place_from-next).within

pub returns-clause-rows : goal.returns-clause-rows
returns-clause-rows g c =
    let p = c.args.plan.now in
    let a = c.args.a.now in
    record {
      taken = chosen (alone p c.args.left) (stretch_rows p.width (side_node a) (side_digits g.P.Dims.D a) c.args.i c.place_from-next.result);
      adds_them = c.list_stretch_if.ensures.rows;
      split = (goes g (goal.at.returns-clause-rows g c).After-place_from-next).rows;
    }

pub returns-clause-visits : goal.returns-clause-visits
returns-clause-visits g c =
    omega (arith, (goes g (goal.at.returns-clause-visits g c).After-place_from-next).cost, c.list_stretch_if.ensures.visits)

pub returns-clause-ahead : goal.returns-clause-ahead
returns-clause-ahead g c = (goes g (goal.at.returns-clause-ahead g c).After-place_from-next).ahead

pub returns-clause-inside : goal.returns-clause-inside
returns-clause-inside g c = (goes g (goal.at.returns-clause-inside g c).After-place_from-next).within
