use Rattle.std.proofs.Common.{◌≡◌, ◌∙◌, sym, ap, subst, arith, Bool, true, false, cond, ◌∷◌, take, inl, inr}
use Rattle.std.proofs.lemmas.Result.{err_from_is_err_and}
use Rattle.ph_specs.specs.Coordinate.{IsPoint}
use Rattle.ph_specs.specs.Past.{move_kept}
use Rattle.ph_specs.specs.Table.{find, move}
use Rattle.ph_specs.proofs.laws.Put.{either}
use Rattle.ph_undo.specs.Kept.{kept_of, IsKept}
use Rattle.ph_undo.specs.Rings.{inverses_in, room_in}
use Rattle.ph_undo.specs.declared.inverse.Inverse.TheVariants.{Return}
use Rattle.ph_undo.proofs.Carried.{move-carried}
use Rattle.ph_undo.proofs.Noted.{noted, with_table, is_kept-same, is_kept-as, kept-same}
use Rattle.ph_undo.proofs.Undone.{move-undone, move-changes}
use Rattle.ph_undo.proofs.WhichMoves.{moved-is, inverses-move, move-edit, move-idle, move-stays, moves_by}
use Rattle.ph_undo.proofs.kept.Kept.relocate.Given.{Over}
use Rattle.ph_undo.proofs.kept.Kept.relocate.Goals.{After-note_move}
use Rattle.ph_undo.proofs.kept.Kept.relocate.Goals as goal

-- what a move leaves, whether it took a row to another point or not
record IsLeft (g : Over) (c : After-note_move g) : Type 0 where
  pub kept : IsKept g.row.D (with_table c.self.inside.tree
      (move c.self.inside.tree.width c.self.inside.tree.table c.args.from.now c.args.to.now)) c.self.inside.depth
      c.note_move.new.ring
  pub view : kept_of (with_table c.self.inside.tree
      (move c.self.inside.tree.width c.self.inside.tree.table c.args.from.now c.args.to.now)) c.self.inside.depth
      c.note_move.new.ring
      ≡ move_kept (kept_of c.self.inside.tree c.self.inside.depth c.self.inside.ring) c.args.from.now c.args.to.now

-- the inverses after it
inverses : (g : Over) (c : After-note_move g) (b : Bool) → moves_by (find c.self.inside.tree.table c.args.from.now) (find c.self.inside.tree.table c.args.to.now) ≡ b
    → inverses_in c.note_move.new.ring ≡
    cond b (take (room_in c.self.inside.ring)
    (Return c.args.to.now c.args.from.now ∷ inverses_in c.self.inside.ring)) (inverses_in c.self.inside.ring)
inverses g c b e =
    inverses-move (room_in c.self.inside.ring) c.self.inside.tree.table c.args.from.now c.args.to.now c.in_ok-moved.moved
    (inverses_in c.self.inside.ring) (inverses_in c.note_move.new.ring) c.in_ok-moved.ensures.done.answer
    c.note_move.ensures.inverses b e

-- it did
moved : (g : Over) (c : After-note_move g) → moves_by (find c.self.inside.tree.table c.args.from.now) (find c.self.inside.tree.table c.args.to.now) ≡ true → IsLeft g c
moved g c e =
    let t = c.self.inside.tree in
    let p = c.args.from.now in
    let q = c.args.to.now in
    let m = moved-is (find t.table p) (find t.table q) e in
    let from : IsPoint t.width g.row.D p = subst (λ k. IsPoint k.width g.row.D p) (sym c.self.view_is) c.requires.from in
    let to : IsPoint t.width g.row.D q = subst (λ k. IsPoint k.width g.row.D q) (sym c.self.view_is) c.requires.to in
    let n = noted t (move t.width t.table p q) c.self.inside.depth (Return q p) c.self.inside.ring
    c.note_move.new.ring c.self.invariant (inverses g c true e) c.note_move.ensures.room
    (to, from) (move-changes g.row.D t.width t.table c.root-root.ensures.table p q m.value m.free m.there) (omega (arith, c.len-len.ensures))
    (move-undone g.row.D t.width t.table c.root-root.ensures.table p q m.value m.free m.there) in
    record { kept = n.kept; view = n.view ∙ move-edit (kept_of t c.self.inside.depth c.self.inside.ring) p q e }

-- it did not
stayed : (g : Over) (c : After-note_move g) → moves_by (find c.self.inside.tree.table c.args.from.now) (find c.self.inside.tree.table c.args.to.now) ≡ false → IsLeft g c
stayed g c e =
    let t = c.self.inside.tree in
    let now = c.note_move.new.ring in
    let same : with_table t (move t.width t.table c.args.from.now c.args.to.now) ≡ t = ap (with_table t) (move-stays t.width t.table c.args.from.now c.args.to.now e) in
    record {
      kept = subst (λ u. IsKept g.row.D u c.self.inside.depth now) (sym same)
          (is_kept-same t c.self.inside.depth c.self.inside.ring now c.self.invariant (inverses g c false e)
          c.note_move.ensures.room);
      view = ap (λ u. kept_of u c.self.inside.depth now) same ∙ kept-same t c.self.inside.depth c.self.inside.ring now
          (inverses g c false e) ∙ move-idle (kept_of t c.self.inside.depth c.self.inside.ring) c.args.from.now c.args.to.now e;
    }

left : (g : Over) (c : After-note_move g) → IsLeft g c
left g c =
    elim (either (moves_by (find c.self.inside.tree.table c.args.from.now) (find c.self.inside.tree.table c.args.to.now))) [
      | inl takes ↦ moved g c takes
      | inr stays ↦ stayed g c stays
    ]

pub invariant_of-self-2 : goal.invariant_of-self-2
invariant_of-self-2 g c = is_kept-as c.in_ok-moved.ensures.done.moved (left g c).kept

pub returns-clause-done : goal.returns-clause-done
returns-clause-done g c =
    let done = c.in_ok-moved.ensures.done in
    move-carried c.self.view_is (kept_of c.relocate.new.self c.self.inside.depth c.note_move.new.ring) c.args.from.now c.args.to.now _ done
    (ap (λ t. kept_of t c.self.inside.depth c.note_move.new.ring) done.moved ∙ (left g c).view) tt

pub returns-in_err-moved-clause-done : goal.returns-in_err-moved-clause-done
returns-in_err-moved-clause-done g c =
    let done = c.in_err-moved.ensures.done in
    let is = err_from_is_err_and c.from_residual.result c.from_residual.ensures.1 in
    rw is.1
    (move-carried c.self.view_is (kept_of c.relocate.new.self c.self.inside.depth c.self.inside.ring) c.args.from.now c.args.to.now _ done tt
    (ap (λ t. kept_of t c.self.inside.depth c.self.inside.ring) done.err))
