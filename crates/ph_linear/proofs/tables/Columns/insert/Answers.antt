use Rattle.std.proofs.Common.{rules, ◌≡◌, ℕ, ◌+◌, ◌-◌, ◌^◌, ◌<◌, ◌≤◌, arith, refl, sym, ◌∙◌}
use Rattle.std.specs.List.{AllByRecursion as Each}
use Rattle.ph_model.proofs.laws.WordDigits.{each-fits}
use Rattle.ph_linear.specs.Runs.{start}
use Rattle.ph_linear.proofs.ClosedColumns.{ordered}
use Rattle.ph_linear.proofs.ClosedRuns.{moved-equal}
use Rattle.ph_linear.proofs.OpenedColumns.{open-columns}
use Rattle.ph_linear.proofs.Overs.{over-put}
use Rattle.ph_linear.proofs.tables.Columns.insert.Goals as goal
use Rattle.ph_linear.proofs.tables.Columns.insert.Goals.{After-open_run-behind, After-open_run-behind-2}

pub open_run-behind-requires-2-clause-run : goal.open_run-behind-requires-2-clause-run
open_run-behind-requires-2-clause-run c =
    let o = ordered c.args.words.now c.args.self.now c.args.edit.now.place c.requires.columns c.requires.within in
    omega (arith, o.bodies, c.start-addresses.ensures, c.start-bodies.ensures)

-- where the parts begin then
body : (b c w v x : ℕ) → b ≤ c → x ≡ c + 1 + w + v - (c - b) → x - v ≡ b + 1 + w
body b c w v x l e = omega (arith, l, e)

address : (a b w t x : ℕ) → a ≤ b → t ≡ b + 1 + w → x ≡ t - (b - a) → x ≡ a + 1 + w
address a b w t x l e f = omega (arith, l, e, f)

kind : (k a w t x : ℕ) → k ≤ a → t ≡ a + 1 + w → x ≡ t - w - (a - k) → x ≡ k + 1
kind k a w t x l e f = omega (arith, l, e, f)

body-at : (c : After-open_run-behind) → c.open_run-behind.result - c.args.self.now.bodies.width ≡ c.start-bodies.result + 1 + c.args.self.now.addresses.width
body-at c =
    let o = ordered c.args.words.now c.args.self.now c.args.edit.now.place c.requires.columns c.requires.within in
    body c.start-bodies.result c.start-end.result c.args.self.now.addresses.width c.args.self.now.bodies.width
    c.open_run-behind.result (omega (arith, o.until, c.start-bodies.ensures, c.start-end.ensures))
    c.open_run-behind.ensures.begin

address-at : (c : After-open_run-behind-2) → c.open_run-behind-2.result ≡ c.start-addresses.result + 1 + c.args.self.now.addresses.width
address-at c =
    let o = ordered c.args.words.now c.args.self.now c.args.edit.now.place c.requires.columns c.requires.within in
    address c.start-addresses.result c.start-bodies.result c.args.self.now.addresses.width
    (c.open_run-behind.result - c.args.self.now.bodies.width) c.open_run-behind-2.result
    (omega (arith, o.bodies, c.start-addresses.ensures, c.start-bodies.ensures))
    (body c.start-bodies.result c.start-end.result c.args.self.now.addresses.width c.args.self.now.bodies.width
    c.open_run-behind.result (omega (arith, o.until, c.start-bodies.ensures, c.start-end.ensures))
    c.open_run-behind.ensures.begin) c.open_run-behind-2.ensures.begin

pub open_run-behind-requires-2-clause-order : goal.open_run-behind-requires-2-clause-order
open_run-behind-requires-2-clause-order c = omega (arith, body-at (goal.at.open_run-behind-requires-2-clause-order c).After-open_run-behind)

pub overflow_sub-address : goal.overflow_sub-address
overflow_sub-address c = omega (arith, address-at (goal.at.overflow_sub-address c).After-open_run-behind-2)

pub open_run-behind-requires-3-clause-order : goal.open_run-behind-requires-3-clause-order
open_run-behind-requires-3-clause-order c = omega (arith, address-at (goal.at.open_run-behind-requires-3-clause-order c).After-open_run-behind-2)

pub overflow_sub-behind : goal.overflow_sub-behind
overflow_sub-behind c =
    let o = ordered c.args.words.now c.args.self.now c.args.edit.now.place c.requires.columns c.requires.within in
    let l : c.start-kinds.result ≤ c.start-addresses.result = omega (arith, o.addresses, c.start-kinds.ensures, c.start-addresses.ensures) in
    omega (
      arith,
      kind c.start-kinds.result c.start-addresses.result c.args.self.now.addresses.width
          c.open_run-behind-2.result c.open_run-behind-3.result l
          (address-at (goal.at.overflow_sub-behind c).After-open_run-behind-2) c.open_run-behind-3.ensures.begin,
    )

pub returns : goal.returns
returns c =
    let old = c.args.words.now in
    let cs = c.args.self.now in
    let e = c.args.edit.now in
    let p = e.place in
    let w0 = c.clear_word.new.words in
    let w1 = c.open_run-behind.new.words in
    let w2 = c.set_row.new.words in
    let w3 = c.open_run-behind-2.new.words in
    let w4 = c.set_field.new.words in
    let w5 = c.open_run-behind-3.new.words in
    let new = c.set_field-2.new.words in
    let k0 = c.start-kinds.ensures in
    let a0 = c.start-addresses.ensures in
    let b0 = c.start-bodies.ensures in
    let b2 = c.start-end.ensures in
    let m3 : c.start-end.result - c.start-bodies.result ≡ start cs.bodies cs.bodies.count - start cs.bodies p = omega (arith, b0, b2) in
    let m2 : c.start-bodies.result - c.start-addresses.result ≡ start cs.bodies p - start cs.addresses p = omega (arith, b0, a0) in
    let m1 : c.start-addresses.result - c.start-kinds.result ≡ start cs.addresses p - start cs.kinds p = omega (arith, a0, k0) in
    let t : ℕ = c.start-end.result + 1 + cs.addresses.width + cs.bodies.width in
    let t3 = c.open_run-behind.result in
    let tb : ℕ = t3 - cs.bodies.width in
    let t2 = c.open_run-behind-2.result in
    let ta : ℕ = t2 - cs.addresses.width in
    let t1 = c.open_run-behind-3.result in
    let tk : ℕ = t1 - 1 in
    let e0 = c.clear_word.auto.words in
    let e1 = c.open_run-behind.auto.words ∙ e0 in
    let e2 = c.set_row.auto.words ∙ e1 in
    let e3 = c.open_run-behind-2.auto.words ∙ e2 in
    let e4 = c.set_field.auto.words ∙ e3 in
    let e5 = c.open_run-behind-3.auto.words ∙ e4 in
    let small : Each (λ x. x < 2 ^ 64) old = each-fits old (search rules) in
    let fits : Each (λ x. x < 2 ^ 64) new = each-fits new (search rules) in
    open-columns old w0 w1 w2 w3 w4 w5 new cs c.args.level c.args.dims e c.requires.columns c.requires.within small
    fits e0 e1 e2 e3 e4 e5 (c.set_field-2.auto.words ∙ e5) c.requires.bodies c.set_row.ensures.long c.requires.room
    t tb ta t3 t2 t1 tk (omega (arith, b2)) (omega (arith, c.open_run-behind.ensures.begin, m3)) refl
    (omega (arith, c.open_run-behind-2.ensures.begin, m2)) refl (omega (arith, c.open_run-behind-3.ensures.begin, m1)) refl
    c.clear_word.ensures.over
    (moved-equal w0 w1 _ (start cs.bodies p) _ t3 _ (start cs.bodies cs.bodies.count - start cs.bodies p) b0
    (sym c.open_run-behind.ensures.begin) m3 c.open_run-behind.ensures.moved)
    c.set_row.ensures.over
    (moved-equal w2 w3 _ (start cs.addresses p) _ t2 _ (start cs.bodies p - start cs.addresses p) a0
    (sym c.open_run-behind-2.ensures.begin) m2 c.open_run-behind-2.ensures.moved)
    (over-put w3 w4 ta cs.addresses.width e.entry.addr c.set_field.ensures)
    (moved-equal w4 w5 _ (start cs.kinds p) _ t1 _ (start cs.addresses p - start cs.kinds p) k0
    (sym c.open_run-behind-3.ensures.begin) m1 c.open_run-behind-3.ensures.moved)
    (over-put w5 new tk 1 0 c.set_field-2.ensures)
