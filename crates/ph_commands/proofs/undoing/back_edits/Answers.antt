use Rattle.std.proofs.Common.{◌∙◌, ◌<◌, ap, arith, length, refl, subst, sym, ◌≤◌, ◌+◌}
use Rattle.std.specs.Prelude.{Ok}
use Rattle.std.proofs.lemmas.Result.{err_from_is_err_and}
use Rattle.ph_specs.specs.Past.{back}
use Rattle.ph_specs.specs.Table.{IsTable}
use Rattle.ph_commands.specs.Differing.{back_visits}
use Rattle.ph_commands.specs.Tables.{table_at}
use Rattle.ph_commands.proofs.Differing.{way-back}
use Rattle.ph_commands.proofs.Backward.{back-next, some-past, told-true, visits-next, within-both}
use Rattle.ph_commands.proofs.undoing.back_edits.Given.{Over}
use Rattle.ph_commands.proofs.undoing.back_edits.Goals.{After-back_one}
use Rattle.ph_commands.proofs.undoing.back_edits.Goals as goal

-- the visits of one edit more
visited : (g : Over) (c : After-back_one g) → c.back_one.new.visits ≤ c.args.visits.now
    + back_visits c.args.kept.now.width g.row.D c.args.kept.now.table c.args.kept.now.past (c.loop-step._step + 1)
visited g c =
    let so_far = c.loop-step.invariant in
    let more : c.loop-step._step < length c.args.kept.now.past = omega (arith, c.loop-step-test.true, c.requires) in
    let tree = c.tree-tree.ensures in
    let wide : 1 ≤ c.loop-step.kept.width =
    omega (arith, c.bits-bits.ensures.some, c.bits-bits.ensures.value, c.width.ensures, ap (λ u. u.width) tree) in
    way-back g.row.D c.args.kept.now c.loop-step.kept c.loop-step._step c.args.visits.now c.loop-step.visits c.back_one.new.visits
    so_far.state more wide (subst (λ u. IsTable u.width g.row.D u.table) tree c.root-root.ensures.table) so_far.way c.back_one.ensures.visits

pub loop-step-preserved : goal.loop-step-preserved
loop-step-preserved g c =
    let one = c.back_one.ensures in
    let so_far = c.loop-step.invariant in
    let width = ap (λ k. k.width) so_far.state in
    let more : c.loop-step._step < length c.args.kept.now.past = omega (arith, c.loop-step-test.true, c.requires) in
    let some = some-past c.args.kept.now c.loop-step._step more in
    let told = c.in_ok-back_one.field-0 in
    let done = c.in_ok-back_one.ensures.done in
    let counted = done.made (told-true (Ok told) told refl (λ e. some (ap (λ k. k.past) (sym so_far.state) ∙ done.none.0 e))) in
    record {
      state = done.back ∙ ap (λ k. back k 1) so_far.state ∙ back-next c.args.kept.now c.loop-step._step more;
      visits = visits-next c.args.visits.now c.loop-step.visits c.back_one.new.visits c.args.kept.now.width
          c.loop-step.kept.width c.loop-step._step so_far.visits one.limit width;
      way = visited g (goal.at.loop-step-preserved g c).After-back_one;
      later = omega (arith, so_far.later, one.later);
      changes = omega (arith, so_far.changes, one.done.changes);
      made = omega (arith, so_far.made, counted);
    }

pub returns-in_err-back_one : goal.returns-in_err-back_one
returns-in_err-back_one g c =
    let one = c.in_err-back_one.ensures in
    let so_far = c.loop-step.invariant in
    let width = ap (λ k. k.width) so_far.state in
    let is = err_from_is_err_and c.from_residual.result c.from_residual.ensures.1 in
    rw is.1
    (record {
      part = c.loop-step._step;
      fewer = c.loop-step-test.true;
      went = record {
        state = ap (table_at g.row.D) (one.done.err ∙ so_far.state);
        few_visits = within-both c.args.visits.now c.back_one.new.visits _ _
            (visited g (goal.at.returns-in_err-back_one g c).After-back_one)
            (visits-next c.args.visits.now c.loop-step.visits c.back_one.new.visits c.args.kept.now.width
            c.loop-step.kept.width c.loop-step._step so_far.visits one.limit width);
        later = omega (arith, so_far.later, one.later);
        few_changes = omega (arith, so_far.changes, one.done.spared);
        made = omega (arith, so_far.made, one.done.spared);
      };
    })
