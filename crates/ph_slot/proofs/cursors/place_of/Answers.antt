use Rattle.std.proofs.Common.{◌≡◌, length, refl, ap, sym, ◌∙◌, arith}
use Rattle.std.specs.Prelude.{Err}
use Rattle.std.specs.Ordering.{nat_cmp}
use Rattle.std.specs.Cmp.Lexicographic.{slice_cmp}
use Rattle.ph_slot.specs.declared.cursors.Held.{Held}
use Rattle.ph_slot.proofs.Names.{behind-less, behind-equal, behind-greater, behind-all}
use Rattle.ph_slot.proofs.cursors.place_of.Goals as goal

pub loop-i-init : goal.loop-i-init
loop-i-init g c = refl

pub loop-i-preserved : goal.loop-i-preserved
loop-i-preserved g c =
    let order = ap {A = Held g.row.D} (λ h. slice_cmp nat_cmp c.args.name.now h.name) (sym c.index-held-i.is) ∙ sym c.cmp.ensures ∙ c.in-Greater.is in
    c.loop-i.invariant ∙ behind-greater (λ h. h.name) (λ h. h.cursor) c.loop-i.i c.args.name.now c.args.held.now c.index-held-i.result c.loop-i-test.true order

pub returns-in-Less-clause-place : goal.returns-in-Less-clause-place
returns-in-Less-clause-place g c =
    let order = ap {A = Held g.row.D} (λ h. slice_cmp nat_cmp c.args.name.now h.name) (sym c.index-held-i.is) ∙ sym c.cmp.ensures ∙ c.in-Less.is in
    sym (c.loop-i.invariant ∙ behind-less (λ h. h.name) (λ h. h.cursor) c.loop-i.i c.args.name.now
    c.args.held.now c.index-held-i.result c.loop-i-test.true order)

pub returns-in-Equal-clause-place : goal.returns-in-Equal-clause-place
returns-in-Equal-clause-place g c =
    let order = ap {A = Held g.row.D} (λ h. slice_cmp nat_cmp c.args.name.now h.name) (sym c.index-held-i.is) ∙ sym c.cmp.ensures ∙ c.in-Equal.is in
    sym (c.loop-i.invariant ∙ behind-equal (λ h. h.name) (λ h. h.cursor) c.loop-i.i c.args.name.now
    c.args.held.now c.index-held-i.result c.loop-i-test.true order)

pub returns-clause-place : goal.returns-clause-place
returns-clause-place g c =
    let all : c.loop-i.i ≡ length c.args.held.now = omega arith in
    sym (c.loop-i.invariant ∙ behind-all (λ h. h.name) (λ h. h.cursor) c.loop-i.i c.args.name.now c.args.held.now c.loop-i-test.false ∙ ap (λ k. Err k) all)
