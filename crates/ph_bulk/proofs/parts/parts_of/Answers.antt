use Rattle.std.proofs.Common.{◌≡◌, arith, ap, sym, map}
use Rattle.std.specs.Prelude.{true}
use Rattle.std.proofs.lemmas.List.{length-map}
use Rattle.ph_specs.specs.Coordinate.{is_point}
use Rattle.ph_specs.specs.Shape.{node_below}
use Rattle.ph_shape.proofs.Fronts.{each-item}
use Rattle.ph_shape.proofs.Steps.{IsStep, first-is, none-is, step}
use Rattle.ph_bulk.specs.Parts.{IsPart}
use Rattle.ph_bulk.proofs.Parted.{made-next, made-all, each-next}
use Rattle.ph_bulk.proofs.parts.parts_of.Given.{Over}
use Rattle.ph_bulk.proofs.parts.parts_of.Goals.{After-split_at}
use Rattle.ph_bulk.proofs.parts.parts_of.Goals as goal

pub address-addr-requires-clause-point : goal.address-addr-requires-clause-point
address-addr-requires-clause-point g c =
    let f = first-is c.loop-first.rest.now c.in-Some.first.now c.in-Some.ensures.value in
    each-item (λ r. is_point c.args.w g.P.Dims.D r.point ≡ true) g.P.Space.row_of c.loop-first.rest.now 0
    c.in-Some.first.now c.loop-first.invariant.group.points
    (omega (arith, f.0, length-map c.loop-first.rest.now g.P.Space.row_of)) f.1

-- the rows of one address in front of the others
cut : (g : Over) (c : After-split_at g) →
    IsStep g.P.Space.row_of c.args.w g.P.Dims.D c.args.place c.address-addr.result (node_below c.args.w c.args.place) c.loop-first.rest.now
    c.split_at.result.0.now c.split_at.result.1.now
cut g c =
    step g.P.Space.row_of c.args.w g.P.Dims.D c.args.place c.address-addr.result c.group_len.result
    (node_below c.args.w c.args.place) c.loop-first.rest.now c.split_at.result.0.now c.split_at.result.1.now
    c.in-Some.first.now c.loop-first.invariant.group c.in-Some.ensures.value (sym c.address-addr.ensures)
    c.group_len.ensures c.split_at.ensures.front c.split_at.ensures.back

pub part_of-requires-clause-some : goal.part_of-requires-clause-some
part_of-requires-clause-some g c =
    (cut g (goal.at.part_of-requires-clause-some g c).After-split_at).some

pub part_of-requires-clause-group : goal.part_of-requires-clause-group
part_of-requires-clause-group g c =
    (cut g (goal.at.part_of-requires-clause-group g c).After-split_at).group

pub loop-first-preserved : goal.loop-first-preserved
loop-first-preserved g c =
    let s = cut g (goal.at.loop-first-preserved g c).After-split_at in
    record {
      made = made-next g.P.Space.row_of c.args.w c.args.place c.loop-first.parts.items c.push.new.self.items
          c.part_of.result _ _ _ _ c.in_ok-push.ensures.items (ap (map g.P.Space.row_of) c.part_of.ensures.rows)
          s.next c.loop-first.invariant.made;
      parts = each-next (IsPart g.P.Space.row_of c.args.w g.P.Dims.D c.args.place) c.loop-first.parts.items
          c.push.new.self.items c.part_of.result c.in_ok-push.ensures.items c.loop-first.invariant.parts c.part_of.ensures.part;
      group = s.behind;
    }

pub returns-clause-entries : goal.returns-clause-entries
returns-clause-entries g c =
    made-all g.P.Space.row_of c.args.w c.args.place c.loop-first.parts.items c.loop-first.rest.now _
    (none-is c.loop-first.rest.now c.in_default.ensures.value) c.loop-first.invariant.made
