use Rattle.std.proofs.Common.{◌≡◌, ◌≤◌, sym, subst, arith}
use Rattle.std.specs.Option.{option_copied}
use Rattle.ph_specs.specs.TreeRows.{rows}
use Rattle.ph_specs.specs.WorkSets.{placed, all_nodes}
use Rattle.ph_path.proofs.Roots.{shape-lawful}
use Rattle.ph_set.specs.Meeting.{kept, work, kept_trees, work_trees}
use Rattle.ph_set.proofs.Rooted.{tree-rows, tree-nodes, same-kept, same-work}
use Rattle.ph_set.proofs.operations.hand_kept.Given.{Over}
use Rattle.ph_set.proofs.operations.hand_kept.Goals.{After-list_roots}
use Rattle.ph_set.proofs.operations.hand_kept.Goals as goal

pub list_roots-requires-clause-left : goal.list_roots-requires-clause-left
list_roots-requires-clause-left g c =
    shape-lawful g.row.D c.args.plan.now.width c.args.a.now.width (option_copied c.root-left.result)
    c.args.a.now.table (omega (arith, c.bits-bits.ensures.value, c.bits-bits.ensures.some)) (sym c.requires.left)
    c.root-left.ensures.table c.root-left.ensures.shape

pub list_roots-requires-clause-right : goal.list_roots-requires-clause-right
list_roots-requires-clause-right g c =
    shape-lawful g.row.D c.args.plan.now.width c.args.b.now.width (option_copied c.root-right.result)
    c.args.b.now.table (omega (arith, c.bits-bits.ensures.value, c.bits-bits.ensures.some)) (sym c.requires.right)
    c.root-right.ensures.table c.root-right.ensures.shape

-- the roots have the rows and the nodes of the tables
roots : (g : Over) (c : After-list_roots g) → let p = c.args.plan.now in
    let left = option_copied c.root-left.result in
    let right = option_copied c.root-right.result in
    (kept_trees p g.row.D left right ≡ kept p c.args.a.now.table c.args.b.now.table)
    × (work_trees p g.row.D left right
    ≡ work p c.args.a.now.table (all_nodes p.width g.row.D c.args.a.now.table) c.args.b.now.table (all_nodes p.width g.row.D c.args.b.now.table))
roots g c =
    let p = c.args.plan.now in
    let d = g.row.D in
    let one : 1 ≤ c.args.plan.now.width = omega (arith, c.bits-bits.ensures.value, c.bits-bits.ensures.some) in
    let left = option_copied c.root-left.result in
    let right = option_copied c.root-right.result in
    let x = tree-rows p.width c.args.a.now.width d left c.args.a.now.table one (sym c.requires.left) c.root-left.ensures.table c.root-left.ensures.shape in
    let y = tree-rows p.width c.args.b.now.width d right c.args.b.now.table one (sym c.requires.right) c.root-right.ensures.table c.root-right.ensures.shape in
    let n = tree-nodes p.width c.args.a.now.width d left c.args.a.now.table (sym c.requires.left) c.root-left.ensures.shape in
    let m = tree-nodes p.width c.args.b.now.width d right c.args.b.now.table (sym c.requires.right) c.root-right.ensures.shape in (
      same-kept p (rows p.width d left) (rows p.width d right) c.args.a.now.table c.args.b.now.table x y,
      same-work p (rows p.width d left) (rows p.width d right) c.args.a.now.table c.args.b.now.table (placed p.width d left) (placed p.width d right)
          (all_nodes p.width d c.args.a.now.table) (all_nodes p.width d c.args.b.now.table) x y n m,
    )

pub returns-clause-rows : goal.returns-clause-rows
returns-clause-rows g c =
    subst (g.S.RowSink.adds c.args.rows.now c.list_roots.new.rows) (roots g (goal.at.returns-clause-rows g c).After-list_roots).0 c.list_roots.ensures.rows

pub returns-clause-visits : goal.returns-clause-visits
returns-clause-visits g c = omega (arith, (roots g (goal.at.returns-clause-visits g c).After-list_roots).1, c.list_roots.ensures.visits)
