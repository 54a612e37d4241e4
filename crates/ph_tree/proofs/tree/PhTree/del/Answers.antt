use Rattle.std.proofs.Common.{◌∙◌, ap, arith}
use Rattle.std.proofs.lemmas.Result.{err_from_is_err_and}
use Rattle.ph_tree.specs.Tree.{tree_table}
use Rattle.ph_tree.proofs.Trees.{IsKeyed, key_made, found_is, wanted_is, opened_is, opened_few, opened_twice}
use Rattle.ph_tree.proofs.Fewer.{removal}
use Rattle.ph_tree.proofs.RowEdits.{del_row}
use Rattle.ph_tree.proofs.tree.PhTree.del.Given.{Over}
use Rattle.ph_tree.proofs.tree.PhTree.del.Goals.{After-del_in}
use Rattle.ph_tree.proofs.tree.PhTree.del.Goals as goal

-- the key is that of the point
keyed : (g : Over) (c : After-del_in g) →
    IsKeyed g.row.D c.self.inside.width c.self.inside.max c.self.inside.len c.self.inside.root c.args.self.now
    c.args.p.now c.new-key.result
keyed g c = key_made c.self.view_is c.self.invariant c.requires c.new-key.ensures.width c.new-key.ensures.point c.as_slice.ensures.value

pub overflow_sub-self : goal.overflow_sub-self
overflow_sub-self g c =
    (removal (keyed g (goal.at.overflow_sub-self g c).After-del_in) c.in_ok-value.ensures.del.del c.in_ok-value.ensures.del.answer).some_row _ c.in-Some.is

pub invariant_of-self-in-Some : goal.invariant_of-self-in-Some
invariant_of-self-in-Some g c =
    (removal (keyed g (goal.at.invariant_of-self-in-Some g c).After-del_in) c.in_ok-value.ensures.del.del c.in_ok-value.ensures.del.answer).fewer _ c.in-Some.is

pub invariant_of-self-in-None : goal.invariant_of-self-in-None
invariant_of-self-in-None g c =
    (removal (keyed g (goal.at.invariant_of-self-in-None g c).After-del_in) c.in_ok-value.ensures.del.del c.in_ok-value.ensures.del.answer).kept c.in-None.is

pub returns-in_err-value-clause-done : goal.returns-in_err-value-clause-done
returns-in_err-value-clause-done g c =
    let k = keyed g (goal.at.returns-in_err-value-clause-done g c).After-del_in in
    let ensured = c.in_err-value.ensures in
    let del = ensured.del in
    let is = err_from_is_err_and c.from_residual.result c.from_residual.ensures.1 in
    rw is.1
    (record {
      del = tt;
      answer = tt;
      err = ap (λ t. tree_table g.row.D c.self.inside.width t c.self.inside.max) del.err ∙ c.self.view_is;
      absent = λ none. absurd (let no = del.absent (found_is k ∙ none) in cc);
      lean = λ none. absurd (let no = ensured.roomy (wanted_is k ∙ none) in cc);
      changes = del.changes;
      idle = λ _. del.spared;
      spared = del.spared;
      kept = del.kept;
      made = λ _. tt;
    })

pub returns-in_err-value-clause-visits : goal.returns-in_err-value-clause-visits
returns-in_err-value-clause-visits g c =
    omega (arith, opened_is (keyed g (goal.at.returns-in_err-value-clause-visits g c).After-del_in))

pub returns-in_err-value-clause-limit : goal.returns-in_err-value-clause-limit
returns-in_err-value-clause-limit g c =
    omega (arith, opened_few (keyed g (goal.at.returns-in_err-value-clause-limit g c).After-del_in))

pub returns-in-Some : goal.returns-in-Some
returns-in-Some g c =
    let k = keyed g (goal.at.returns-in-Some g c).After-del_in in
    let ensured = c.in_ok-value.ensures in
    let way = opened_twice k _ _ ensured.visits in
    record { done = rw c.in-Some.is at (del_row k ensured.del ensured.roomy); visits = way.0; limit = way.1; later = ensured.later }

pub returns : goal.returns
returns g c =
    let k = keyed g (goal.at.returns g c).After-del_in in
    let ensured = c.in_ok-value.ensures in
    let way = opened_twice k _ _ ensured.visits in
    record { done = rw c.in-None.is at (del_row k ensured.del ensured.roomy); visits = way.0; limit = way.1; later = ensured.later }
