use Rattle.std.proofs.Common.{rules, ◌≡◌, ◌≢◌, ℕ, List, suc, ◌+◌, ◌-◌, ◌*◌, ◌/◌, ◌%◌, ◌^◌, ◌≤◌, ◌<◌, length}
use Rattle.std.proofs.Common.{slice_index_or, slice_set, Fits, w64, refl, sym, ◌∙◌, ap, arith}
use Rattle.std.proofs.lemmas.List.{length-set, get_or-set_other}
use Rattle.ph_bits.specs.Moved.{IsMoved}
use Rattle.ph_bits.proofs.MovedRuns.{moved-none, moved-down, moved-equal, word-moved}
use Rattle.ph_bits.proofs.moves.shift_few_down.Goals as goal

-- one word more: it lies in front of the word that was read last
next : (old mid : List ℕ) (from place i first v : ℕ) → length mid ≡ length old → 0 < from % 64 → 64 * place ≤ from → from + 64 * (i + 1) ≤ 64 * length old
    → ((k : ℕ) → Fits w64 (slice_index_or mid k 0))
    → v ≡ first % 2 ^ (64 - from % 64) * 2 ^ (from % 64) + slice_index_or mid (from / 64 + i + 1) 0 / 2 ^ (64 - from % 64)
    → IsMoved old from (64 * place) (64 * i) mid × (first ≡ slice_index_or mid (from / 64 + i) 0)
    → IsMoved old from (64 * place) (64 * (i + 1)) (slice_set mid (place + i) v) ×
    (slice_index_or mid (from / 64 + i + 1) 0 ≡ slice_index_or (slice_set mid (place + i) v) (from / 64 + (i + 1)) 0)
next old mid from place i first v e p o l h r s =
    let at : ℕ = from / 64 + i in
    let shift : ℕ = from % 64 in
    let new : List ℕ = slice_set mid (place + i) v in
    let same : length (slice_set mid (place + i) v) ≡ length old = length-set mid (place + i) v ∙ e in
    let last : from / 64 + i + 1 ≡ suc (from / 64 + i) = omega arith in
    let behind : from / 64 + (i + 1) ≡ from / 64 + i + 1 = omega arith in
    let apart : from / 64 + (i + 1) ≢ place + i = λ q. omega (arith, q, o) in
    let word : v ≡ slice_index_or mid (from / 64 + i) 0 % 2 ^ (64 - from % 64) * 2 ^ (from % 64) + slice_index_or mid (suc (from / 64 + i)) 0 / 2 ^ (64 - from % 64) =
    r ∙ ap (λ t. t % 2 ^ (64 - shift) * 2 ^ shift + slice_index_or mid (at + 1) 0 / 2 ^ (64 - shift)) s.1
    ∙ ap (λ t. slice_index_or mid at 0 % 2 ^ (64 - shift) * 2 ^ shift + slice_index_or mid t 0 / 2 ^ (64 - shift)) last in
    let one : IsMoved mid (64 * (from / 64 + i) + from % 64) (64 * (place + i)) 64 (slice_set mid (place + i) v) =
    word-moved mid at shift (place + i) v p (omega arith) (omega (arith, l, p, e)) (omega (arith, l, o, e)) h word in (
      moved-equal old new from from (64 * place) (64 * place) (64 * i + 64) (64 * (i + 1)) refl refl (omega arith)
          (moved-down old mid new from (64 * place) (64 * i) 64 e same o (omega (arith, l)) s.0
          (moved-equal mid new (64 * at + shift) (from + 64 * i) (64 * (place + i)) (64 * place + 64 * i) 64 64 (omega arith) (omega arith) refl one)),
      ap (λ t. slice_index_or mid t 0) (sym behind) ∙ sym (get_or-set_other mid (place + i) (from / 64 + (i + 1)) v 0 apart),
    )

pub loop-i-init : goal.loop-i-init
loop-i-init c =
    (moved-none c.args.words.now c.args.from (64 * c.args.place) (64 * 0) (omega arith), ap (λ t. slice_index_or c.args.words.now t 0) (omega arith))

pub loop-i-preserved : goal.loop-i-preserved
loop-i-preserved c =
    let l : c.args.from + 64 * (c.loop-i.i + 1) ≤ 64 * length c.args.words.now = omega (arith, c.requires.inside, c.loop-i-test.true) in
    let range : (k : ℕ) → Fits w64 (slice_index_or c.loop-i.words k 0) = search rules in
    next c.args.words.now c.loop-i.words c.args.from c.args.place c.loop-i.i c.loop-i.first c.word_across.result
    c.loop-i.auto.words c.requires.across c.requires.order l range
    c.word_across.ensures c.loop-i.invariant

pub returns : goal.returns
returns c =
    let n : c.loop-i.i ≡ c.args.count = omega (arith, c.loop-i-test.false, c.loop-i.auto.i-end) in
    moved-equal c.args.words.now c.loop-i.words c.args.from c.args.from (64 * c.args.place) (64 * c.args.place)
    (64 * c.loop-i.i) (64 * c.args.count) refl refl (ap (λ t. 64 * t) n) c.loop-i.invariant.0
