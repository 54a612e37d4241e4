use Rattle.std.proofs.Common.{◌≡◌, ℕ, ◌+◌, ◌-◌, ◌*◌, ◌≤◌, refl, arith}
use Rattle.ph_bits.proofs.MovedRuns.{moved-none, moved-up, moved-equal}
use Rattle.ph_bits.proofs.moves.shift_words_up.Goals as goal

pub loop-left-init : goal.loop-left-init
loop-left-init c =
    let n : 64 * (c.args.count - c.args.count) ≡ 0 = omega arith in
    (omega arith, moved-none c.args.words.now (c.args.from + 64 * c.args.count) (64 * c.args.place + 64 * c.args.count) (64 * (c.args.count - c.args.count)) n)

pub loop-left-preserved : goal.loop-left-preserved
loop-left-preserved c =
    let old = c.args.words.now in
    let mid = c.loop-left.words in
    let new = c.shift_four.new.words in
    let from : ℕ = c.args.from in
    let place : ℕ = c.args.place in
    let left : ℕ = c.loop-left.left in
    let n : ℕ = left - 4 in
    let rest : ℕ = 64 * (c.args.count - left) in
    let t : 4 ≤ left = c.loop-left-test.true in
    let v = c.loop-left.invariant in
    let r = c.requires in (
      omega (arith, v.0),
      moved-equal old new (from + 64 * n) (from + 64 * n) (64 * place + 64 * n) (64 * place + 64 * n) (256 + rest) (64 * (c.args.count - n)) refl refl (omega (arith, t, v.0))
          (moved-up old mid new (from + 64 * n) (64 * place + 64 * n) 256 rest c.loop-left.auto.words
          (omega (arith, c.shift_four.auto.words, c.loop-left.auto.words)) (omega (arith, r.order)) (omega (arith, r.inside, t, v.0))
          (moved-equal old mid (from + 64 * left) (from + 64 * n + 256) (64 * place + 64 * left) (64 * place + 64 * n + 256) rest rest (omega (arith, t)) (omega (arith, t)) refl v.1)
          (moved-equal mid new (from + 64 * n) (from + 64 * n) (64 * (place + n)) (64 * place + 64 * n) 256 256 refl (omega arith) refl c.shift_four.ensures)),
    )

pub returns : goal.returns
returns c =
    let old = c.args.words.now in
    let mid = c.loop-left.words in
    let new = c.shift_few_up.new.words in
    let left : ℕ = c.loop-left.left in
    let v = c.loop-left.invariant in
    let r = c.requires in
    moved-equal old new c.args.from c.args.from (64 * c.args.place) (64 * c.args.place) (64 * left + 64 * (c.args.count - left)) (64 * c.args.count) refl refl (omega (arith, v.0))
    (moved-up old mid new c.args.from (64 * c.args.place) (64 * left) (64 * (c.args.count - left)) c.loop-left.auto.words
    (omega (arith, c.shift_few_up.auto.words, c.loop-left.auto.words)) r.order (omega (arith, r.inside, v.0)) v.1 c.shift_few_up.ensures)
