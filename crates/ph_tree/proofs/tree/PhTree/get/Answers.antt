use Rattle.std.proofs.Common.{◌≡◌, sym, ◌∙◌, ap, arith}
use Rattle.std.specs.Prelude.{Some}
use Rattle.ph_model.specs.PutTree.{find_tree}
use Rattle.ph_node.specs.Shown.{shown}
use Rattle.ph_tree.specs.Opened.{opened_in}
use Rattle.ph_tree.proofs.Trees.{IsKeyed, key_made, found_is, opened_is, opened_few}
use Rattle.ph_tree.proofs.tree.PhTree.get.Given.{Over}
use Rattle.ph_tree.proofs.tree.PhTree.get.Goals.{After-find_in}
use Rattle.ph_tree.proofs.tree.PhTree.get.Goals as goal

-- the key is that of the point
keyed : (g : Over) (c : After-find_in g) →
    IsKeyed g.row.D c.self.inside.width c.self.inside.max c.self.inside.len c.self.inside.root c.args.self.now
    c.args.p.now c.new-key.result
keyed g c = key_made c.self.view_is c.self.invariant c.requires c.new-key.ensures.width c.new-key.ensures.point c.as_slice.ensures.value

-- the node that is visited is the root
root : (g : Over) (c : After-find_in g) → c.self.inside.root ≡ Some (shown c.visit.result)
root g c = c.in-Some.is ∙ ap Some (sym c.visit.ensures.shows)

pub returns-in-Some : goal.returns-in-Some
returns-in-Some g c =
    let at = (goal.at.returns-in-Some g c).After-find_in in
    let key = c.new-key.result in
    let opened = ap (λ t. opened_in key.width t key.point) (root g at) in
    record {
      found = c.find_in.ensures.found ∙ sym (ap (λ t. find_tree key.width g.row.D t key.point) (root g at)) ∙ found_is (keyed g at);
      visits = omega (arith, c.find_in.ensures.cost, c.visit.ensures.cost, opened, opened_is (keyed g at));
      limit = omega (arith, c.find_in.ensures.cost, c.visit.ensures.cost, opened, opened_few (keyed g at));
    }
