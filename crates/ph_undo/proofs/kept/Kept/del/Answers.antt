use Rattle.std.proofs.Common.{◌≡◌, ◌∙◌, sym, ap, subst, arith}
use Rattle.std.specs.Prelude.{Some, Ok}
use Rattle.std.proofs.lemmas.Result.{err_from_is_err_and}
use Rattle.ph_specs.specs.Coordinate.{IsPoint}
use Rattle.ph_specs.specs.Past.{del_kept}
use Rattle.ph_specs.specs.Table.{find, del}
use Rattle.ph_specs.proofs.laws.Edits.{del-absent}
use Rattle.ph_tree.specs.Removals.{IsRemovedRow}
use Rattle.ph_undo.specs.Kept.{kept_of}
use Rattle.ph_undo.specs.declared.inverse.Inverse.TheVariants.{Restore}
use Rattle.ph_undo.proofs.Carried.{del-carried}
use Rattle.ph_undo.proofs.WhichRemovals.{del-edit, del-idle}
use Rattle.ph_undo.proofs.Noted.{IsNoted, noted, with_table, is_kept-as}
use Rattle.ph_undo.proofs.Undone.{del-undone}
use Rattle.ph_undo.proofs.kept.Kept.del.Given.{Over}
use Rattle.ph_undo.proofs.kept.Kept.del.Goals.{After-note_removal, In_default}
use Rattle.ph_undo.proofs.kept.Kept.del.Goals as goal

found : (g : Over) (c : After-note_removal g) → find c.self.inside.tree.table c.args.p.now ≡ Some c.in-Some.value
found g c = sym c.in_ok-gone.ensures.done.answer ∙ c.in-Some.is

del_noted : (g : Over) (c : After-note_removal g) →
    IsNoted g.row.D c.self.inside.tree (del c.self.inside.tree.table c.args.p.now) c.self.inside.depth
    c.self.inside.ring c.note_removal.new.ring
del_noted g c =
    let t = c.self.inside.tree in
    noted t (del t.table c.args.p.now) c.self.inside.depth (Restore c.args.p.now c.in-Some.value) c.self.inside.ring
    c.note_removal.new.ring c.self.invariant c.note_removal.ensures.inverses c.note_removal.ensures.room
    (subst (λ k. IsPoint k.width g.row.D c.args.p.now) (sym c.self.view_is) c.requires) tt
    (omega (arith, c.len-len.ensures))
    (del-undone g.row.D t.width t.table c.root-root.ensures.table c.args.p.now c.in-Some.value (found g c))

-- no row was there
stays : (g : Over) (c : In_default g) → c.del.new.self ≡ c.self.inside.tree
stays g c =
    c.in_ok-gone.ensures.done.del
    ∙ ap (with_table c.self.inside.tree) (del-absent c.self.inside.tree.table c.args.p.now (sym c.in_ok-gone.ensures.done.answer ∙ c.in_default.is))

pub invariant_of-self-in-Some : goal.invariant_of-self-in-Some
invariant_of-self-in-Some g c = is_kept-as c.in_ok-gone.ensures.done.del (del_noted g c).kept

pub invariant_of-self-in_default : goal.invariant_of-self-in_default
invariant_of-self-in_default g c = is_kept-as (stays g c) c.self.invariant

pub returns-in-Some-clause-done : goal.returns-in-Some-clause-done
returns-in-Some-clause-done g c =
    let done = c.in_ok-gone.ensures.done in
    let k = c.args.self.now in
    let left = kept_of c.del.new.self c.self.inside.depth c.note_removal.new.ring in
    subst (λ o. IsRemovedRow k.width g.row.D k.table c.args.p.now k (del_kept k c.args.p.now) left c.args.changes.now c.del.new.changes (Ok o)) c.in-Some.is
    (del-carried c.self.view_is left g.row.D c.args.p.now _ done
    (ap (λ t. kept_of t c.self.inside.depth c.note_removal.new.ring) done.del
    ∙ (del_noted g c).view
    ∙ del-edit (kept_of c.self.inside.tree c.self.inside.depth c.self.inside.ring) c.args.p.now c.in-Some.value (found g c)) tt)

pub returns-in_default-clause-done : goal.returns-in_default-clause-done
returns-in_default-clause-done g c =
    let done = c.in_ok-gone.ensures.done in
    del-carried c.self.view_is (kept_of c.del.new.self c.self.inside.depth c.self.inside.ring) g.row.D c.args.p.now _ done
    (ap (λ t. kept_of t c.self.inside.depth c.self.inside.ring) (stays g c)
    ∙ del-idle (kept_of c.self.inside.tree c.self.inside.depth c.self.inside.ring) c.args.p.now (sym done.answer ∙ c.in_default.is)) tt

pub returns-in_err-gone-clause-done : goal.returns-in_err-gone-clause-done
returns-in_err-gone-clause-done g c =
    let done = c.in_err-gone.ensures.done in
    let is = err_from_is_err_and c.from_residual.result c.from_residual.ensures.1 in
    rw is.1
    (del-carried c.self.view_is (kept_of c.del.new.self c.self.inside.depth c.self.inside.ring) g.row.D c.args.p.now _ done tt
    (ap (λ t. kept_of t c.self.inside.depth c.self.inside.ring) done.err))
