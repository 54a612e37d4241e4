use Rattle.std.proofs.Common.{◌∙◌, ℕ, List, ap, sym, subst, arith, length}
use Rattle.std.specs.Prelude.{Option, IfSome}
use Rattle.std.specs.Borrow.{Bor}
use Rattle.std.specs.Option.{option_copied}
use Rattle.ph_specs.specs.TreeRows.{rows}
use Rattle.ph_model.specs.Lawful.{IsLawful}
use Rattle.ph_specs.specs.Node.{PlainNode}
use Rattle.ph_specs.specs.Table.{Row}
use Rattle.ph_specs.specs.WorkSets.{placed}
use Rattle.ph_walk.specs.Area.{TouchesRoot, kept, touched}
use Rattle.ph_walk.proofs.Notes.{if-some}
use Rattle.ph_window.specs.Corners.{Corners, points_of}
use Rattle.ph_window.proofs.Starts.{HasWindow, has-window, exact, lawful-root, table-rows, table-nodes, empty-rows, empty-nodes}
use Rattle.ph_window.proofs.window.WindowOf+Dim+D.new.Given.{Over}
use Rattle.ph_window.proofs.window.WindowOf+Dim+D.new.Goals.{After-new-corners, then-have_points, else-have_points}
use Rattle.ph_window.proofs.window.WindowOf+Dim+D.new.Goals as goal

-- the tree and the corners
started : (g : Over) (c : After-new-corners g) → HasWindow g.row.D c.width-w.result c.args.tree.now.width (option_copied c.root-all.result)
    c.args.tree.now.table c.args.lo c.args.hi c.as_slice.result.now c.as_slice-2.result.now c.new-corners.result
started g c =
    has-window c.root-all.ensures.some c.root-all.ensures.few c.width-w.ensures c.bits-bits.ensures.value c.bits-bits.ensures.some
    c.bits-bits.ensures.limit c.root-all.ensures.table c.root-all.ensures.shape c.as_slice.ensures.value
    c.as_slice-2.ensures.value c.requires.lo c.requires.hi c.new-corners.ensures

pub new-requires : goal.new-requires
new-requires g c =
    let k = started g (goal.at.new-requires g c).After-new-corners in
    let met = TouchesRoot g.row.D (points_of c.new-corners.result) in
    let start : IfSome c.if-have_points.root (λ n. TouchesRoot g.row.D (points_of c.new-corners.result)) = elim c.if-have_points.branch [
      | then-have_points t ↦ if-some met c.if-have_points.root (sym c.have_points.ensures ∙ t.if-have_points.true)
      | else-have_points t ↦ subst (λ o. IfSome o (λ n. met)) (sym t.root-is) tt
    ] in
    let lawful : IsLawful c.width-w.result g.row.D (option_copied c.if-have_points.root) = elim c.if-have_points.branch [
      | then-have_points t ↦ subst (λ o. IsLawful c.width-w.result g.row.D (option_copied o)) (sym t.root-is) (lawful-root k)
      | else-have_points t ↦ subst (λ o. IsLawful c.width-w.result g.row.D (option_copied o)) (sym t.root-is) tt
    ] in
    (omega arith, (k.some, (k.few, (ap (λ (c : Corners). c.width) c.new-corners.ensures, (exact k, (lawful, start))))))

pub returns-clause-rows : goal.returns-clause-rows
returns-clause-rows g c =
    let k = started g (goal.at.returns-clause-rows g c).After-new-corners in
    let same : Option (Bor PlainNode) → List Row = λ o. kept (points_of c.new-corners.result) (rows c.width-w.result g.row.D (option_copied o)) in
    c.new.ensures.rest ∙ elim c.if-have_points.branch [
      | then-have_points t ↦ ap same t.root-is ∙ table-rows k
      | else-have_points t ↦ ap same t.root-is ∙ empty-rows k (sym c.have_points.ensures ∙ t.if-have_points.false)
    ]

pub returns-clause-visits : goal.returns-clause-visits
returns-clause-visits g c =
    let k = started g (goal.at.returns-clause-visits g c).After-new-corners in
    let many : Option (Bor PlainNode) → ℕ = λ o. length (touched (points_of c.new-corners.result) (placed c.width-w.result g.row.D (option_copied o))) in
    c.new.ensures.visits ∙ elim c.if-have_points.branch [
      | then-have_points t ↦ ap many t.root-is ∙ table-nodes k
      | else-have_points t ↦ ap many t.root-is ∙ empty-nodes k (sym c.have_points.ensures ∙ t.if-have_points.false)
    ]
