use Rattle.std.proofs.Common.{rules, ◌≡◌, ℕ, ◌+◌, ◌-◌, ◌^◌, ◌<◌, ◌≤◌, arith, refl, ◌∙◌, Fits, w64, slice_index_or}
use Rattle.std.specs.List.{AllByRecursion as Each}
use Rattle.ph_specs.specs.Digits.{digits_of, words_for}
use Rattle.ph_model.proofs.laws.WordDigits.{each-fits}
use Rattle.ph_linear.specs.Runs.{start, runs_without, with_fields}
use Rattle.ph_linear.proofs.ClosedColumns.{close-columns, ordered, ordered-at}
use Rattle.ph_linear.proofs.ClosedRuns.{moved-equal}
use Rattle.ph_linear.proofs.tables.Columns.remove.Goals as goal
use Rattle.ph_linear.proofs.tables.Columns.remove.Goals.{After-close_run-to-3, After-clear_word}

-- the digits end no later than before
ends : (k0 k1 a0 a1 b0 b1 b2 t1 t2 t3 : ℕ) → k0 ≤ k1 → k1 ≤ a0 → a0 ≤ a1 → a1 ≤ b0 → b0 ≤ b1 → b1 ≤ b2 →
    t1 ≡ k0 + (a0 - k1) → t2 ≡ t1 + (b0 - a1) → t3 ≡ t2 + (b2 - b1) → t3 ≤ b2
ends k0 k1 a0 a1 b0 b1 b2 t1 t2 t3 l1 l2 l3 l4 l5 l6 e1 e2 e3 = omega (arith, l1, l2, l3, l4, l5, l6, e1, e2, e3)

low : (c : After-close_run-to-3) → c.close_run-to-3.result ≤ start c.args.self.now.bodies c.args.self.now.bodies.count
low c =
    let cs = c.args.self.now in
    let p = c.args.place in
    let u = ordered-at c.args.words.now cs p c.requires.columns c.requires.within in
    ends (start cs.kinds p) (start cs.kinds (p + 1)) (start cs.addresses p) (start cs.addresses (p + 1))
    (start cs.bodies p) (start cs.bodies (p + 1)) (start cs.bodies cs.bodies.count) c.close_run-to.result
    c.close_run-to-2.result c.close_run-to-3.result
    u.kinds u.addresses u.next u.bodies u.last u.until
    (omega (arith, c.close_run-to.ensures.end, c.start-to.ensures, c.start-from.ensures, c.start-addresses.ensures))
    (omega (arith, c.close_run-to-2.ensures.end, c.start-from-2.ensures, c.start-bodies.ensures))
    (omega (arith, c.close_run-to-3.ensures.end, c.start-from-3.ensures, c.start-end.ensures))

below : (p n : ℕ) → p < n → p ≤ n
below p n l = omega (arith, l)

pub clear_word-requires-clause-inside : goal.clear_word-requires-clause-inside
clear_word-requires-clause-inside c =
    let o = ordered c.args.words.now c.args.self.now c.args.place c.requires.columns (below c.args.place c.args.self.now.kinds.count c.requires.within) in
    omega (
      arith,
      low (goal.at.clear_word-requires-clause-inside c).After-close_run-to-3,
      o.inside,
      c.close_run-to-3.auto.words,
      c.close_run-to-2.auto.words,
      c.close_run-to.auto.words,
    )

pub clear_word-requires-clause-near : goal.clear_word-requires-clause-near
clear_word-requires-clause-near c =
    let o = ordered c.args.words.now c.args.self.now c.args.place c.requires.columns (below c.args.place c.args.self.now.kinds.count c.requires.within) in
    omega (arith, low (goal.at.clear_word-requires-clause-near c).After-close_run-to-3, o.near)

closed : (c : After-clear_word) → ((i : ℕ) → Fits w64 (slice_index_or c.clear_word.new.words i 0)) →
    (c.clear_word.new.words ≡ with_fields (runs_without c.args.words.now c.args.self.now c.args.place) c.args.words.now)
    × (c.clear_word.result ≡ 1 + words_for (digits_of (runs_without c.args.words.now c.args.self.now c.args.place)))
closed c range =
    let old = c.args.words.now in
    let cs = c.args.self.now in
    let p = c.args.place in
    let w1 = c.close_run-to.new.words in
    let w2 = c.close_run-to-2.new.words in
    let w3 = c.close_run-to-3.new.words in
    let new = c.clear_word.new.words in
    let k0 = c.start-to.ensures in
    let k1 = c.start-from.ensures in
    let a0 = c.start-addresses.ensures in
    let a1 = c.start-from-2.ensures in
    let b0 = c.start-bodies.ensures in
    let b1 = c.start-from-3.ensures in
    let b2 = c.start-end.ensures in
    let m1 : c.start-addresses.result - c.start-from.result ≡ start cs.addresses p - start cs.kinds (p + 1) = omega (arith, a0, k1) in
    let m2 : c.start-bodies.result - c.start-from-2.result ≡ start cs.bodies p - start cs.addresses (p + 1) = omega (arith, b0, a1) in
    let m3 : c.start-end.result - c.start-from-3.result ≡ start cs.bodies cs.bodies.count - start cs.bodies (p + 1) = omega (arith, b2, b1) in
    let t1 = c.close_run-to.result in
    let t2 = c.close_run-to-2.result in
    let t3 = c.close_run-to-3.result in
    let e1 = c.close_run-to.auto.words in
    let e2 = c.close_run-to-2.auto.words ∙ e1 in
    let e3 = c.close_run-to-3.auto.words ∙ e2 in
    let small : Each (λ x. x < 2 ^ 64) old = each-fits old (search rules) in
    let fits : Each (λ x. x < 2 ^ 64) new = each-fits new range in
    let all =
    close-columns old w1 w2 w3 new cs p c.requires.columns c.requires.within small fits e1 e2 e3 (c.clear_word.auto.words ∙ e3) t1 t2 t3
    (omega (arith, c.close_run-to.ensures.end, k0, m1)) (omega (arith, c.close_run-to-2.ensures.end, m2)) (omega (arith, c.close_run-to-3.ensures.end, m3))
    (moved-equal old w1 _ (start cs.kinds (p + 1)) _ (start cs.kinds p) _ (start cs.addresses p - start cs.kinds (p + 1)) k1 k0 m1 c.close_run-to.ensures.moved)
    (moved-equal w1 w2 _ (start cs.addresses (p + 1)) t1 t1 _ (start cs.bodies p - start cs.addresses (p + 1)) a1 refl m2 c.close_run-to-2.ensures.moved)
    (moved-equal w2 w3 _ (start cs.bodies (p + 1)) t2 t2 _ (start cs.bodies cs.bodies.count - start cs.bodies (p + 1)) b1 refl m3 c.close_run-to-3.ensures.moved)
    c.clear_word.ensures.over in
    (all.0, c.clear_word.ensures.place ∙ all.1)

pub returns-clause-words : goal.returns-clause-words
returns-clause-words c = (closed (goal.at.returns-clause-words c).After-clear_word c.type_inv.words).0

pub returns-clause-place : goal.returns-clause-place
returns-clause-place c = (closed (goal.at.returns-clause-place c).After-clear_word c.type_inv.words).1
