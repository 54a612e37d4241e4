use Rattle.std.proofs.Common.{sym, ◌∙◌, subst, arith}
use Rattle.ph_set.specs.Meeting.{alone}
use Rattle.ph_set.specs.Parts.{stretch_rows, stretch_nodes}
use Rattle.ph_set.specs.Sides.{side_digits, side_node}
use Rattle.ph_set.proofs.Spent.{chosen-all, chosen-none, spent-all, spent-none}
use Rattle.ph_set.proofs.lists.list_stretch_if.Goals as goal

pub returns-then-alone-clause-rows : goal.returns-then-alone-clause-rows
returns-then-alone-clause-rows g c =
    let p = c.args.plan.now in
    subst (g.S.RowSink.adds c.args.rows.now c.list_stretch.new.rows)
    (sym (chosen-all (alone p c.args.left) (stretch_rows p.width (side_node c.args.side.now) (side_digits g.P.Dims.D c.args.side.now) c.args.from c.args.to)
    (sym c.alone.ensures ∙ c.if-alone.true)))
    c.list_stretch.ensures.rows

pub returns-else-alone-clause-rows : goal.returns-else-alone-clause-rows
returns-else-alone-clause-rows g c =
    let p = c.args.plan.now in
    subst (g.S.RowSink.adds c.args.rows.now c.args.rows.now)
    (sym (chosen-none (alone p c.args.left) (stretch_rows p.width (side_node c.args.side.now) (side_digits g.P.Dims.D c.args.side.now) c.args.from c.args.to)
    (sym c.alone.ensures ∙ c.if-alone.false)))
    (g.met.S.RowSink.adds_none c.args.rows.now)

pub returns-then-alone-clause-visits : goal.returns-then-alone-clause-visits
returns-then-alone-clause-visits g c =
    let p = c.args.plan.now in
    omega (
      arith,
      c.list_stretch.ensures.visits,
      spent-all p.width (alone p c.args.left)
          (stretch_nodes p.width (side_node c.args.side.now) (side_digits g.P.Dims.D c.args.side.now) c.args.from c.args.to) (sym c.alone.ensures ∙ c.if-alone.true),
    )

pub returns-else-alone-clause-visits : goal.returns-else-alone-clause-visits
returns-else-alone-clause-visits g c =
    let p = c.args.plan.now in
    omega (
      arith,
      spent-none p.width (alone p c.args.left)
          (stretch_nodes p.width (side_node c.args.side.now) (side_digits g.P.Dims.D c.args.side.now) c.args.from c.args.to) (sym c.alone.ensures ∙ c.if-alone.false),
    )
