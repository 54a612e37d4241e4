use Rattle.std.proofs.Common.{◌≡◌, ℕ, ◌+◌, ◌*◌, ◌/◌, ◌%◌, ◌≤◌, refl, arith}
use Rattle.ph_bits.proofs.MovedRuns.{moved-none, moved-down, moved-equal}
use Rattle.ph_bits.proofs.moves.shift_words_down.Goals as goal

pub loop-turn-init : goal.loop-turn-init
loop-turn-init c = moved-none c.args.words.now c.args.from (64 * c.args.place) (256 * 0) (omega arith)

pub loop-turn-preserved : goal.loop-turn-preserved
loop-turn-preserved c =
    let old = c.args.words.now in
    let mid = c.loop-turn.words in
    let new = c.shift_four.new.words in
    let from : ℕ = c.args.from in
    let place : ℕ = c.args.place in
    let turn : ℕ = c.loop-turn.turn in
    let r = c.requires in
    let t : turn + 1 ≤ c.args.count / 4 = omega (arith, c.loop-turn-test.true) in
    moved-equal old new from from (64 * place) (64 * place) (256 * turn + 256) (256 * (turn + 1)) refl refl (omega arith)
    (moved-down old mid new from (64 * place) (256 * turn) 256 c.loop-turn.auto.words
    (omega (arith, c.shift_four.auto.words, c.loop-turn.auto.words)) r.order (omega (arith, r.inside, t)) c.loop-turn.invariant
    (moved-equal mid new (from + 256 * turn) (from + 256 * turn) (64 * (place + 4 * turn)) (64 * place + 256 * turn) 256 256 refl (omega arith) refl c.shift_four.ensures))

pub returns : goal.returns
returns c =
    let old = c.args.words.now in
    let mid = c.loop-turn.words in
    let new = c.shift_few_down.new.words in
    let from : ℕ = c.args.from in
    let place : ℕ = c.args.place in
    let turn : ℕ = c.loop-turn.turn in
    let count : ℕ = c.args.count in
    let r = c.requires in
    let t : turn ≡ c.args.count / 4 = omega (arith, c.loop-turn-test.false, c.loop-turn.auto.turn-end) in
    moved-equal old new from from (64 * place) (64 * place) (256 * turn + 64 * (count % 4)) (64 * count) refl refl (omega (arith, t))
    (moved-down old mid new from (64 * place) (256 * turn) (64 * (count % 4)) c.loop-turn.auto.words
    (omega (arith, c.shift_few_down.auto.words, c.loop-turn.auto.words)) r.order (omega (arith, r.inside, t)) c.loop-turn.invariant
    (moved-equal mid new (from + 64 * (count / 4 * 4)) (from + 256 * turn) (64 * (place + count / 4 * 4)) (64 * place + 256 * turn)
    (64 * (count % 4)) (64 * (count % 4)) (omega (arith, t)) (omega (arith, t)) refl c.shift_few_down.ensures))
