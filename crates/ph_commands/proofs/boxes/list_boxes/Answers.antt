use Rattle.ph_commands.specs.Tables.{tree_at}
use Rattle.ph_commands.proofs.Asked.{lists-boxes}
use Rattle.ph_commands.proofs.boxes.list_boxes.Goals as goal

pub returns-clause-lists : goal.returns-clause-lists
returns-clause-lists g c =
    lists-boxes c.args.question (tree_at g.row.D c.args.tree.now) c.width-w.result c.point_at.result _
    c.bounds-lo.result.0 c.bounds-lo.result.1 _ _ c.args.visits.now c.list_between.new.visits c.list_between.result
    c.width-w.ensures c.point_at.ensures.value c.root-root.ensures.table c.requires.boxes c.bounds-lo.ensures.from
    c.bounds-lo.ensures.to c.bounds-lo.ensures.window c.list_between.ensures.lists
