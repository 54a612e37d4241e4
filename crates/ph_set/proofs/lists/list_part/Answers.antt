use Rattle.std.proofs.Common.{◌≡◌, ◌+◌, length, take, sym, ◌∙◌, ap, subst}
use Rattle.ph_node.specs.Shown.{shown}
use Rattle.ph_set.specs.Held.{held_what}
use Rattle.ph_set.specs.Parts.{part_rows, part_nodes}
use Rattle.ph_set.proofs.Walking.{whole-rows, whole-nodes}
use Rattle.ph_set.proofs.lists.list_part.Goals as goal

pub returns-in-Node-clause-rows : goal.returns-in-Node-clause-rows
returns-in-Node-clause-rows g c =
    subst (g.S.RowSink.adds c.args.rows.now c.list_stretch.new.rows)
    (whole-rows c.args.w (take g.P.Dims.D c.args.part.now.digits) (shown c.in-Node.node) c.len.result c.len.ensures ∙
    ap (λ h. part_rows c.args.w (take g.P.Dims.D c.args.part.now.digits) (held_what h)) (sym c.in-Node.is))
    c.list_stretch.ensures.rows

pub returns-in-Node-clause-visits : goal.returns-in-Node-clause-visits
returns-in-Node-clause-visits g c =
    subst (λ r. c.list_stretch.new.visits ≡ c.args.visits.now + length r)
    (whole-nodes c.args.w (take g.P.Dims.D c.args.part.now.digits) (shown c.in-Node.node) c.len.result c.len.ensures ∙
    ap (λ h. part_nodes c.args.w (take g.P.Dims.D c.args.part.now.digits) (held_what h)) (sym c.in-Node.is))
    c.list_stretch.ensures.visits
