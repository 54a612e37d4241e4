use Rattle.std.proofs.Common.{◌∙◌, sym, ap, subst, arith}
use Rattle.std.proofs.lemmas.Result.{err_from_is_err_and}
use Rattle.ph_specs.specs.Coordinate.{IsPoint}
use Rattle.ph_specs.specs.Table.{put}
use Rattle.ph_undo.specs.Inverses.{put_inverse}
use Rattle.ph_undo.specs.Kept.{kept_of}
use Rattle.ph_undo.proofs.Carried.{put-carried}
use Rattle.ph_undo.proofs.Noted.{IsNoted, noted, is_kept-as}
use Rattle.ph_undo.proofs.Undone.{put-undone, put-point, put-changes}
use Rattle.ph_undo.proofs.kept.Kept.put.Given.{Over}
use Rattle.ph_undo.proofs.kept.Kept.put.Goals.{After-note_put}
use Rattle.ph_undo.proofs.kept.Kept.put.Goals as goal

put_noted : (g : Over) (c : After-note_put g) →
    IsNoted g.row.D c.self.inside.tree (put c.self.inside.tree.width c.self.inside.tree.table c.args.p c.args.v)
    c.self.inside.depth c.self.inside.ring c.note_put.new.ring
put_noted g c =
    let t = c.self.inside.tree in
    let a = c.in_ok-put.put in
    let after = put t.width t.table c.args.p c.args.v in
    let point : IsPoint t.width g.row.D c.args.p = subst (λ k. IsPoint k.width g.row.D c.args.p) (sym c.self.view_is) c.requires in
    noted t after c.self.inside.depth (put_inverse {D = g.row.D} c.args.p a) c.self.inside.ring c.note_put.new.ring
    c.self.invariant c.note_put.ensures.inverses c.note_put.ensures.room
    (put-point g.row.D t.width c.args.p a point) (put-changes g.row.D t.width t.table c.args.p c.args.v a) (omega (arith, c.len-len.ensures))
    (put-undone g.row.D t.width t.table c.root-root.ensures.table c.args.p c.args.v a c.in_ok-put.ensures.done.answer)

pub invariant_of-self-2 : goal.invariant_of-self-2
invariant_of-self-2 g c = is_kept-as c.in_ok-put.ensures.done.put (put_noted g c).kept

pub returns-clause-done : goal.returns-clause-done
returns-clause-done g c =
    let done = c.in_ok-put.ensures.done in
    put-carried c.self.view_is (kept_of c.put.new.self c.self.inside.depth c.note_put.new.ring) c.args.p c.args.v _ done
    (ap (λ t. kept_of t c.self.inside.depth c.note_put.new.ring) done.put ∙ (put_noted g c).view) tt

pub returns-in_err-put-clause-done : goal.returns-in_err-put-clause-done
returns-in_err-put-clause-done g c =
    let done = c.in_err-put.ensures.done in
    let is = err_from_is_err_and c.from_residual.result c.from_residual.ensures.1 in
    rw (is.1, is.2)
    (put-carried c.self.view_is (kept_of c.put.new.self c.self.inside.depth c.self.inside.ring) c.args.p c.args.v _ done tt
    (ap (λ t. kept_of t c.self.inside.depth c.self.inside.ring) done.err))
