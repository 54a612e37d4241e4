use Rattle.std.proofs.Common.{◌≡◌, sym, ap, ◌∙◌, subst, arith}
use Rattle.std.specs.Prelude.{Some, None, IfSome, MatchOption}
use Rattle.ph_model.specs.PutTree.{find_tree}
use Rattle.ph_node.specs.Shown.{shown}
use Rattle.ph_tree.specs.Opened.{opened_in}
use Rattle.ph_tree.specs.Rooms.{spare_left_in}
use Rattle.ph_tree.proofs.find.find_spare.Given.{Over}
use Rattle.ph_tree.proofs.find.find_spare.Goals.{After-find_spare_in}
use Rattle.ph_tree.proofs.find.find_spare.Goals as goal

-- the node that is visited is the root
root : (g : Over) (c : After-find_spare_in g) → Some (shown c.visit.result) ≡ c.args.root.now
root g c = sym (c.in-Some.is ∙ ap Some (sym c.visit.ensures.shows))

pub returns-in-Some : goal.returns-in-Some
returns-in-Some g c =
    let key = c.args.key.now in
    let r = c.find_spare_in.result in
    let is = root g c in
    record {
      found = subst (λ t. MatchOption r (find_tree key.width g.P.Dims.D t key.point ≡ None)
          (λ f. find_tree key.width g.P.Dims.D t key.point ≡ Some f.value)) is c.find_spare_in.ensures.found;
      room = subst (λ t. IfSome r (λ f. f.room ≡ spare_left_in key.width g.P.Dims.D t key.point)) is c.find_spare_in.ensures.room;
      limit = c.find_spare_in.ensures.limit;
      cost = omega (arith, c.find_spare_in.ensures.cost, c.visit.ensures.cost, ap (λ t. opened_in key.width t key.point) is);
    }
