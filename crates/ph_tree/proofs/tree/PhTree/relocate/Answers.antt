use Rattle.std.proofs.Common.{◌≡◌, ◌≤◌, ◌+◌, ◌*◌, ◌∙◌, length, sym, ap, arith, subst, refl, inl, inr}
use Rattle.std.specs.Prelude.{IfOk, OnOk, Some, None, IsSome}
use Rattle.ph_model.specs.PutTree.{find_tree}
use Rattle.ph_specs.specs.Table.{find}
use Rattle.ph_specs.specs.WorkSets.{path}
use Rattle.ph_specs.proofs.laws.Put.{same_from_test}
use Rattle.ph_tree.specs.Moves.{move_answer}
use Rattle.ph_tree.specs.Tree.{IsTree, tree_table}
use Rattle.ph_tree.specs.declared.moves.Moved.TheVariants.{Done}
use Rattle.ph_tree.proofs.Walks.{answered_as, on_ok, on_err, always_ok, either_way, none_or_some, not_none, some_none}
use Rattle.ph_tree.proofs.Trees.{IsKeyed, key_made, found_is, opened_is, opened_few}
use Rattle.ph_tree.proofs.Shifted.{IsMove, opened_between, opened_root, moved, taken_moved, stays_there, none_there, answer_absent, answer_same, answer_taken, answer_done, unmoved}
use Rattle.ph_tree.proofs.tree.PhTree.relocate.Given.{Over}
use Rattle.ph_tree.proofs.tree.PhTree.relocate.Goals.{After-find_spare, After-move_in}
use Rattle.ph_tree.proofs.tree.PhTree.relocate.Goals as goal

-- the one key is that of the old point
old_keyed : (g : Over) (c : After-find_spare g) →
    IsKeyed g.row.D c.self.inside.width c.self.inside.max c.self.inside.len c.self.inside.root c.args.self.now
    c.args.from.now c.new-old.result
old_keyed g c = key_made c.self.view_is c.self.invariant c.requires.from c.new-old.ensures.width c.new-old.ensures.point c.as_slice.ensures.value

-- the two keys at the move
old_moved : (g : Over) (c : After-move_in g) →
    IsKeyed g.row.D c.self.inside.width c.self.inside.max c.self.inside.len c.self.inside.root c.args.self.now
    c.args.from.now c.new-old.result
old_moved g c = key_made c.self.view_is c.self.invariant c.requires.from c.new-old.ensures.width c.new-old.ensures.point c.as_slice.ensures.value

new_moved : (g : Over) (c : After-move_in g) →
    IsKeyed g.row.D c.self.inside.width c.self.inside.max c.self.inside.len c.self.inside.root c.args.self.now
    c.args.to.now c.new-new.result
new_moved g c = key_made c.self.view_is c.self.invariant c.requires.to c.new-new.ensures.width c.new-new.ensures.point c.as_slice-2.ensures.value

-- the row that moves
there : (g : Over) (c : After-move_in g) → find c.args.self.now.table c.args.from.now ≡ Some c.in-Some.found.value
there g c = sym (found_is (old_moved g c)) ∙ c.in-Some.ensures.found

-- a look-up visits the one way, a put the other twice, and a removal the one twice, on which the put may have put a node; edits visit the root once
few_visits : (g : Over) (c : After-move_in g) → c.move_in.new.visits
    ≤ c.args.visits.now
    + (3 * length (path c.args.self.now.width g.row.D c.args.self.now.table c.args.from.now)
    + 2 * length (path c.args.self.now.width g.row.D c.args.self.now.table c.args.to.now))
few_visits g c =
    let f = old_moved g c in
    let k = new_moved g c in
    let more = opened_between f k (there g c) in
    let some = opened_root f k (there g c) in
    omega (arith, opened_is f, opened_is k, more, some, c.find_spare.ensures.cost, c.move_in.ensures.visits)

-- what the tree finds at the new point is what the table has there
none_found : (g : Over) (c : After-move_in g) → find c.args.self.now.table c.args.to.now ≡ None →
    find_tree c.new-new.result.width g.row.D c.self.inside.root c.new-new.result.point ≡ None
none_found g c none = found_is (new_moved g c) ∙ none

some_found : (g : Over) (c : After-move_in g) → IsSome (find c.args.self.now.table c.args.to.now) →
    IsSome (find_tree c.new-new.result.width g.row.D c.self.inside.root c.new-new.result.point)
some_found g c some = subst IsSome (sym (found_is (new_moved g c))) some

-- what is made, if anything is, is the tree with the row moved
row_moved : (g : Over) (c : After-move_in g) →
    OnOk c.move_in.result (IsMove g.row.D c.self.inside.width c.self.inside.max c.self.inside.len c.args.self.now
    c.args.from.now c.args.to.now c.move_in.new.root)
row_moved g c =
    elim (none_or_some (find c.args.self.now.table c.args.to.now)) [
      | inl none ↦ on_ok c.move_in.result
          (moved (old_moved g c) (new_moved g c) (there g c) (sym c.eq.ensures ∙ c.if-eq.false) none)
          (c.move_in.ensures.done.moved (none_found g c none))
      | inr some ↦ always_ok c.move_in.result (taken_moved c.self.view_is c.self.invariant some (c.move_in.ensures.done.held (some_found g c some)))
    ]

-- ---- no row is at the old point

pub returns-in_default-clause-done : goal.returns-in_default-clause-done
returns-in_default-clause-done g c =
    let none = sym (found_is (old_keyed g (goal.at.returns-in_default-clause-done g c).After-find_spare)) ∙ c.in_default.ensures.found in
    unmoved (none_there c.args.self.now c.args.from.now c.args.to.now none) (answer_absent c.args.self.now.table c.args.from.now c.args.to.now none)
    (λ some _. not_none (find c.args.self.now.table c.args.from.now) none some)

pub returns-in_default-clause-visits : goal.returns-in_default-clause-visits
returns-in_default-clause-visits g c =
    omega (arith, opened_is (old_keyed g (goal.at.returns-in_default-clause-visits g c).After-find_spare), c.find_spare.ensures.cost)

pub returns-in_default-clause-limit : goal.returns-in_default-clause-limit
returns-in_default-clause-limit g c =
    omega (arith, opened_few (old_keyed g (goal.at.returns-in_default-clause-limit g c).After-find_spare), c.find_spare.ensures.cost)

-- ---- both are the same point

pub returns-then-eq-clause-done : goal.returns-then-eq-clause-done
returns-then-eq-clause-done g c =
    let k = old_keyed g (goal.at.returns-then-eq-clause-done g c).After-find_spare in
    let there = sym (found_is k) ∙ c.in-Some.ensures.found in
    let test = sym c.eq.ensures ∙ c.if-eq.true in
    let same = same_from_test c.args.from.now c.args.to.now test in
    unmoved (stays_there c.args.self.now c.args.from.now c.args.to.now c.in-Some.found.value (sym there) test)
    (answer_same c.args.self.now.table c.args.from.now c.args.to.now c.in-Some.found.value there test)
    (λ some none. not_none (find c.args.self.now.table c.args.from.now) (ap (find c.args.self.now.table) same ∙ none) some)

pub returns-then-eq-clause-visits : goal.returns-then-eq-clause-visits
returns-then-eq-clause-visits g c =
    omega (arith, opened_is (old_keyed g (goal.at.returns-then-eq-clause-visits g c).After-find_spare), c.find_spare.ensures.cost)

pub returns-then-eq-clause-limit : goal.returns-then-eq-clause-limit
returns-then-eq-clause-limit g c =
    omega (arith, opened_few (old_keyed g (goal.at.returns-then-eq-clause-limit g c).After-find_spare), c.find_spare.ensures.cost)

-- ---- the move

pub invariant_of-self : goal.invariant_of-self
invariant_of-self g c =
    let at = (goal.at.invariant_of-self g c).After-move_in in
    either_way c.move_in.result
    (on_ok c.move_in.result (λ m. m.tree) (row_moved g at))
    (on_err c.move_in.result (λ same. subst
    (λ t. IsTree g.row.D c.self.inside.width t c.self.inside.max c.self.inside.len) (sym same) c.self.invariant)
    c.move_in.ensures.done.err)

answered : (g : Over) (c : After-move_in g) → IfOk c.move_in.result (λ a. a ≡ move_answer c.args.self.now.table c.args.from.now c.args.to.now)
answered g c =
    let other = sym c.eq.ensures ∙ c.if-eq.false in
    elim (none_or_some (find c.args.self.now.table c.args.to.now)) [
      | inl none ↦ answered_as c.move_in.result Done _
          (answer_done c.args.self.now.table c.args.from.now c.args.to.now c.in-Some.found.value (there g c) other
          none) (c.move_in.ensures.done.done (none_found g c none))
      | inr some ↦ rw (c.move_in.ensures.done.taken (some_found g c some))
          (answer_taken c.args.self.now.table c.args.from.now c.args.to.now c.in-Some.found.value (there g c) other some)
    ]

pub returns-clause-done : goal.returns-clause-done
returns-clause-done g c =
    let at = (goal.at.returns-clause-done g c).After-move_in in
    let done = c.move_in.ensures.done in
    record {
      moved = on_ok c.move_in.result (λ m. m.table) (row_moved g at);
      answer = answered g at;
      err = on_err c.move_in.result (λ same. ap (λ t. tree_table g.row.D c.self.inside.width t c.self.inside.max) same ∙ c.self.view_is) done.err;
      absent = λ none. some_none (sym (there g at) ∙ none);
      taken = λ some. rw (done.taken (some_found g at some)) refl;
      changes = done.changes;
      spared = done.spared;
      idle = λ none. some_none (sym (there g at) ∙ none);
      held = λ some. done.idle (some_found g at some);
      kept = done.kept;
      made = λ _ none. done.made (none_found g at none);
    }

pub returns-clause-visits : goal.returns-clause-visits
returns-clause-visits g c = few_visits g (goal.at.returns-clause-visits g c).After-move_in

pub returns-clause-limit : goal.returns-clause-limit
returns-clause-limit g c =
    let at = (goal.at.returns-clause-limit g c).After-move_in in
    let f = old_moved g at in
    let k = new_moved g at in
    omega (arith, few_visits g at, opened_is f, opened_is k, opened_few f, opened_few k)
