use Rattle.std.proofs.Common.{refl, arith}
use Rattle.ph_tree.proofs.Walks.{no_error}
use Rattle.ph_tree.proofs.Trees.{IsKeyed, key_made, new_tree, old_tree}
use Rattle.ph_tree.proofs.RowEdits.{put_told}
use Rattle.ph_tree.proofs.tree.PhTree.put.Given.{Over}
use Rattle.ph_tree.proofs.tree.PhTree.put.Goals.{After-put_in}
use Rattle.ph_tree.proofs.tree.PhTree.put.Goals as goal

-- the key is that of the point
keyed : (g : Over) (c : After-put_in g) →
    IsKeyed g.row.D c.self.inside.width c.self.inside.max c.self.inside.len c.self.inside.root c.args.self.now
    c.args.p c.new-key.result
keyed g c = key_made c.self.view_is c.self.invariant c.requires c.new-key.ensures.width c.new-key.ensures.point c.as_slice.ensures.value

pub invariant_of-self : goal.invariant_of-self
invariant_of-self g c =
    let k = keyed g (goal.at.invariant_of-self g c).After-put_in in
    let ensured = rw c.in-Ok-New.field-0-is at c.in-Ok-New.ensures in
    let put = ensured.put in
    new_tree k (omega arith) (put.put refl) put.answer (λ none full. no_error (put.refused none full))

pub invariant_of-self-in-Ok-Old : goal.invariant_of-self-in-Ok-Old
invariant_of-self-in-Ok-Old g c =
    let k = keyed g (goal.at.invariant_of-self-in-Ok-Old g c).After-put_in in
    let ensured = rw c.in-Ok-Old.field-0-is at c.in-Ok-Old.ensures in
    let put = ensured.put in
    old_tree k (omega arith) (put.put refl) c.in-Ok-Old.old put.answer

pub returns-in-Ok-New : goal.returns-in-Ok-New
returns-in-Ok-New g c =
    let ensured = rw c.in-Ok-New.field-0-is at c.in-Ok-New.ensures in
    let told = put_told (keyed g (goal.at.returns-in-Ok-New g c).After-put_in) (omega arith) ensured.put _ _ ensured.visits in
    record { done = told.0; visits = told.1.0; limit = told.1.1; later = ensured.later }

pub returns-in-Ok-Old : goal.returns-in-Ok-Old
returns-in-Ok-Old g c =
    let ensured = rw c.in-Ok-Old.field-0-is at c.in-Ok-Old.ensures in
    let told = put_told (keyed g (goal.at.returns-in-Ok-Old g c).After-put_in) (omega arith) ensured.put _ _ ensured.visits in
    record { done = told.0; visits = told.1.0; limit = told.1.1; later = ensured.later }

pub returns : goal.returns
returns g c =
    let ensured = c.in-Err.ensures in
    let told = put_told (keyed g (goal.at.returns g c).After-put_in) (omega arith) ensured.put _ _ ensured.visits in
    record { done = told.0; visits = told.1.0; limit = told.1.1; later = ensured.later }
