use Rattle.std.proofs.Common.{◌∙◌, ap, sym, subst, arith}
use Rattle.std.specs.Option.{option_copied}
use Rattle.ph_path.specs.Known.{Known}
use Rattle.ph_path.specs.Path.{IsPath}
use Rattle.ph_walk.specs.Walk.{IsFrame}
use Rattle.ph_window.specs.Corners.{Corners, points_of, HasMasks}
use Rattle.ph_window.proofs.Starts.{has-window, area-exact, exact}
use Rattle.ph_window.proofs.Behinds.{IsBehind, root-ready, after-width, after-rows, after-nodes, after-ahead, after-way}
use Rattle.ph_window.proofs.window.WindowOf+Dim+D.after.Given.{Over}
use Rattle.ph_window.proofs.window.WindowOf+Dim+D.after.Goals.{After-visit-node}
use Rattle.ph_window.proofs.window.WindowOf+Dim+D.after.Goals as goal

pub on_path-requires : goal.on_path-requires
on_path-requires g c =
    let corners = c.new-corners.result in
    let width = ap (λ (k : Known). k.width) c.new-known.ensures ∙ sym (ap (λ (c : Corners). c.width) c.new-corners.ensures) in
    let way = subst (IsPath (IsFrame g.row.D (points_of corners) (HasMasks corners) c.new-known.result.digits)) (sym c.new-path.ensures) tt in
    let exact = area-exact g.row.D c.width-w.ensures c.as_slice.ensures.value c.as_slice-2.ensures.value c.requires.lo c.requires.hi c.new-corners.ensures in
    (omega arith, (omega arith, (width, (exact, way))))

-- the tree, the corners and the point
from_root : (g : Over) (c : After-visit-node g) → IsBehind g.row.D c.width-w.result c.args.tree.now.width (option_copied c.root-root.result)
    c.args.tree.now.table c.args.lo c.args.hi c.args.last c.as_slice.result.now c.as_slice-2.result.now c.as_slice-3.result.now c.in-Some.root.now
    c.new-corners.result c.new-known.result c.new-mark.result c.new-path.result
from_root g c = record {
  window = has-window c.root-root.ensures.some c.root-root.ensures.few c.width-w.ensures c.bits-bits.ensures.value c.bits-bits.ensures.some
      c.bits-bits.ensures.limit c.root-root.ensures.table c.root-root.ensures.shape c.as_slice.ensures.value
      c.as_slice-2.ensures.value c.requires.lo c.requires.hi c.new-corners.ensures;
  top_node = ap option_copied c.in-Some.is;
  given = c.as_slice-3.ensures.value;
  stands = c.requires.last;
  none = c.new-known.ensures;
  marked = c.new-mark.ensures;
  start = c.new-path.ensures;
}

pub resume-requires : goal.resume-requires
resume-requires g c = (omega arith, root-ready (from_root g (goal.at.resume-requires g c).After-visit-node) c.visit-node.ensures.shows)

pub on_path-requires-2 : goal.on_path-requires-2
on_path-requires-2 g c =
    let k = from_root g (goal.at.on_path-requires-2 g c).After-visit-node in
    let went = c.resume.ensures.done in
    (omega arith, (omega arith, (after-width k c.visit-node.ensures.shows went, (exact k.window, went.way))))

pub returns-clause-rows : goal.returns-clause-rows
returns-clause-rows g c =
    let k = from_root g (goal.at.returns-clause-rows g c).After-visit-node in
    c.on_path-2.ensures.rest ∙ after-rows k c.visit-node.ensures.shows c.resume.ensures.done

pub returns-clause-visits : goal.returns-clause-visits
returns-clause-visits g c =
    let k = from_root g (goal.at.returns-clause-visits g c).After-visit-node in
    omega (arith, c.on_path-2.ensures.visits, after-nodes k c.visit-node.ensures.shows c.resume.ensures.done)

pub returns-clause-way : goal.returns-clause-way
returns-clause-way g c =
    let k = from_root g (goal.at.returns-clause-way g c).After-visit-node in
    after-way k c.args.visits.now c.visit-node.new.visits c.resume.new.visits c.visit-node.ensures.shows c.visit-node.ensures.cost c.resume.ensures.way

pub returns-clause-ahead : goal.returns-clause-ahead
returns-clause-ahead g c =
    let k = from_root g (goal.at.returns-clause-ahead g c).After-visit-node in
    omega (arith, c.on_path-2.ensures.visits, after-ahead k c.visit-node.ensures.shows c.resume.ensures.done)
