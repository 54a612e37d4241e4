use Rattle.std.proofs.Common.{rules, ◌≡◌, ◌≢◌, ℕ, List, suc, ◌+◌, ◌-◌, ◌*◌, ◌/◌, ◌%◌, ◌^◌, ◌≤◌, ◌<◌, length}
use Rattle.std.proofs.Common.{slice_index_or, slice_set, Fits, w64, refl, sym, ◌∙◌, ap, arith}
use Rattle.std.proofs.lemmas.List.{length-set, get_or-set_other}
use Rattle.ph_bits.specs.Moved.{IsMoved}
use Rattle.ph_bits.proofs.MovedRuns.{moved-none, moved-up, moved-equal, word-moved}
use Rattle.ph_bits.proofs.moves.shift_few_up.Goals as goal

-- one word more, of so many that are left then: it lies behind the word that was read last
next : (old mid : List ℕ) (from place count left n last v : ℕ) → left ≡ n + 1 → length mid ≡ length old →
    0 < from % 64 → from ≤ 64 * place → 64 * place + 64 * count ≤ 64 * length old
    → ((k : ℕ) → Fits w64 (slice_index_or mid k 0))
    → v ≡ slice_index_or mid (from / 64 + n) 0 % 2 ^ (64 - from % 64) * 2 ^ (from % 64) + last / 2 ^ (64 - from % 64)
    → (left ≤ count) × IsMoved old (from + 64 * left) (64 * place + 64 * left) (64 * (count - left)) mid × (last ≡ slice_index_or mid (from / 64 + left) 0)
    → (n ≤ count) × IsMoved old (from + 64 * n) (64 * place + 64 * n) (64 * (count - n))
    (slice_set mid (place + n) v) ×
    (slice_index_or mid (from / 64 + n) 0 ≡ slice_index_or (slice_set mid (place + n) v) (from / 64 + n) 0)
next old mid from place count left n last v d e p o l h r s =
    let at : ℕ = from / 64 + n in
    let shift : ℕ = from % 64 in
    let new : List ℕ = slice_set mid (place + n) v in
    let same : length (slice_set mid (place + n) v) ≡ length old = length-set mid (place + n) v ∙ e in
    let behind : from / 64 + left ≡ suc (from / 64 + n) = omega (arith, d) in
    let apart : from / 64 + n ≢ place + n = λ q. omega (arith, q, o, p) in
    let m : n + 1 ≤ count = omega (arith, d, s.0) in
    let word : v ≡ slice_index_or mid (from / 64 + n) 0 % 2 ^ (64 - from % 64) * 2 ^ (from % 64) + slice_index_or mid (suc (from / 64 + n)) 0 / 2 ^ (64 - from % 64) =
    r ∙ ap (λ t. slice_index_or mid at 0 % 2 ^ (64 - shift) * 2 ^ shift + t / 2 ^ (64 - shift)) (s.2 ∙ ap (λ t. slice_index_or mid t 0) behind) in
    let one : IsMoved mid (64 * (from / 64 + n) + from % 64) (64 * (place + n)) 64 (slice_set mid (place + n) v) =
    word-moved mid at shift (place + n) v p (omega arith) (omega (arith, l, o, p, e, m)) (omega (arith, l, e, m)) h word in (
      omega (arith, m),
      moved-equal old new (from + 64 * n) (from + 64 * n) (64 * place + 64 * n) (64 * place + 64 * n)
          (64 + 64 * (count - left)) (64 * (count - n)) refl refl (omega (arith, d, s.0))
          (moved-up old mid new (from + 64 * n) (64 * place + 64 * n) 64 (64 * (count - left)) e same (omega (arith, o)) (omega (arith, l, d, s.0))
          (moved-equal old mid (from + 64 * left) (from + 64 * n + 64) (64 * place + 64 * left)
          (64 * place + 64 * n + 64) (64 * (count - left)) (64 * (count - left)) (omega (arith, d))
          (omega (arith, d)) refl s.1)
          (moved-equal mid new (64 * at + shift) (from + 64 * n) (64 * (place + n)) (64 * place + 64 * n) 64 64 (omega arith) (omega arith) refl one)),
      sym (get_or-set_other mid (place + n) (from / 64 + n) v 0 apart),
    )

pub loop-left-init : goal.loop-left-init
loop-left-init c =
    let n : 64 * (c.args.count - c.args.count) ≡ 0 = omega arith in
    (omega arith, moved-none c.args.words.now (c.args.from + 64 * c.args.count) (64 * c.args.place + 64 * c.args.count) (64 * (c.args.count - c.args.count)) n, refl)

pub loop-left-preserved : goal.loop-left-preserved
loop-left-preserved c =
    let d : c.loop-left.left ≡ c.loop-left.left - 1 + 1 = omega (arith, c.loop-left-test.true) in
    let range : (k : ℕ) → Fits w64 (slice_index_or c.loop-left.words k 0) = search rules in
    next c.args.words.now c.loop-left.words c.args.from c.args.place c.args.count c.loop-left.left
    (c.loop-left.left - 1) c.loop-left.last c.word_across.result d c.loop-left.auto.words
    c.requires.across c.requires.order c.requires.inside range c.word_across.ensures c.loop-left.invariant

-- once all words are moved
ended : (old new : List ℕ) (from place count left : ℕ) → left ≡ 0 →
    IsMoved old (from + 64 * left) (64 * place + 64 * left) (64 * (count - left)) new →
    IsMoved old from (64 * place) (64 * count) new
ended old new from place count left e m =
    moved-equal old new (from + 64 * left) from (64 * place + 64 * left) (64 * place) (64 * (count - left))
    (64 * count) (omega (arith, e)) (omega (arith, e)) (omega (arith, e)) m

pub returns : goal.returns
returns c = ended c.args.words.now c.loop-left.words c.args.from c.args.place c.args.count c.loop-left.left
    (omega (arith, c.loop-left-test.false)) c.loop-left.invariant.1
