use Rattle.std.proofs.Common.{◌≡◌, ◌<◌, ◌≤◌, ◌+◌, ◌-◌, ℕ, suc, List, length, take, slice_index_or, slice_set, rules, sym, ◌∙◌, ap, arith}
use Rattle.std.proofs.lemmas.List.{length-set}
use Rattle.ph_bits.specs.Block.{Block, room_of}
use Rattle.ph_bits.proofs.Shifts.{moved, moved-first, moved-next, moved-more, moved-last, length-moved}
use Rattle.ph_bits.proofs.words.Words.remove.Goals as goal

pub loop-k-init : goal.loop-k-init
loop-k-init c = record { words = sym (moved-first c.args.self.now.words c.args.i c.requires); places = search rules }

-- so many words there are in the loop
many : (ws xs : List ℕ) (i k n : ℕ) → i < length ws → i ≤ k → k ≤ n - 1 → n ≡ length ws → xs ≡ moved ws i k → length xs ≡ length ws
many ws xs i k n h m l e f = ap length f ∙ length-moved ws i k h m (omega (arith, h, l, e))

pub get-word-requires : goal.get-word-requires
get-word-requires c =
    let m = many c.args.self.now.words c.loop-k.self.words c.args.i c.loop-k.k c.len-k-end.result c.requires
    c.loop-k.auto.k (omega (arith, c.loop-k-test.true)) c.len-k-end.ensures c.loop-k.invariant.words in
    omega (arith, m, c.loop-k-test.true, c.len-k-end.ensures)

pub set-requires : goal.set-requires
set-requires c =
    let m = many c.args.self.now.words c.loop-k.self.words c.args.i c.loop-k.k c.len-k-end.result c.requires
    c.loop-k.auto.k (omega (arith, c.loop-k-test.true)) c.len-k-end.ensures c.loop-k.invariant.words in
    omega (arith, m, c.loop-k-test.true, c.len-k-end.ensures)

pub loop-k-preserved : goal.loop-k-preserved
loop-k-preserved c =
    let ws = c.args.self.now.words in
    let i = c.args.i in
    let k = c.loop-k.k in
    let old : Block = c.loop-k.self in
    let l : suc c.loop-k.k < length c.args.self.now.words = omega (arith, c.loop-k-test.true, c.len-k-end.ensures) in
    let next : c.loop-k.k + 1 ≡ suc c.loop-k.k = omega arith in
    let word : c.get-word.result ≡ slice_index_or c.args.self.now.words (suc c.loop-k.k) 0 =
    c.get-word.ensures ∙ ap (λ t. slice_index_or t (k + 1) 0) c.loop-k.invariant.words ∙
    ap (λ t. slice_index_or (moved ws i k) t 0) next ∙ moved-next ws i k c.requires c.loop-k.auto.k l in
    let new : c.set.new.self.words ≡ slice_set old.words k c.get-word.result = ap (λ (b : Block). b.words) c.set.ensures in
    let room : room_of c.set.new.self ≡ room_of old = ap room_of c.set.ensures ∙ ap (λ t. t + old.spare) (length-set old.words k c.get-word.result) in
    record {
      words =
          new
          ∙ ap (λ t. slice_set t k c.get-word.result) c.loop-k.invariant.words
          ∙ ap (λ t. slice_set (moved ws i k) k t) word
          ∙ moved-more ws i k c.loop-k.auto.k l
          ∙ ap (moved ws i) (sym next);
      places = (room ∙ c.loop-k.invariant.places.0, ap (λ (b : Block). b.heap) c.set.ensures ∙ c.loop-k.invariant.places.1);
    }

-- where the loop ends
end : (i k n m : ℕ) → i < m → n ≡ m → (i ≤ n - 1 → k ≤ n - 1) → n - 1 ≤ k → (k ≤ n - 1) × (suc k ≡ m)
end i k n m h e u d = (omega (arith, h, e, u, d), omega (arith, h, e, u, d))

pub truncate-requires : goal.truncate-requires
truncate-requires c =
    let z = end c.args.i c.loop-k.k c.len-k-end.result (length c.args.self.now.words) c.requires c.len-k-end.ensures c.loop-k.auto.k-end c.loop-k-test.false in
    let m = many c.args.self.now.words c.loop-k.self.words c.args.i c.loop-k.k c.len-k-end.result c.requires
    c.loop-k.auto.k z.0 c.len-k-end.ensures c.loop-k.invariant.words in
    omega (arith, m, c.requires)

pub returns-clause-words : goal.returns-clause-words
returns-clause-words c =
    let ws = c.args.self.now.words in
    let i = c.args.i in
    let k = c.loop-k.k in
    let xs = c.loop-k.self.words in
    let z = end c.args.i c.loop-k.k c.len-k-end.result (length c.args.self.now.words) c.requires c.len-k-end.ensures c.loop-k.auto.k-end c.loop-k-test.false in
    let m = many c.args.self.now.words c.loop-k.self.words c.args.i c.loop-k.k c.len-k-end.result c.requires
    c.loop-k.auto.k z.0 c.len-k-end.ensures c.loop-k.invariant.words in
    let last : length c.loop-k.self.words - 1 ≡ c.loop-k.k = omega (arith, m, z.1) in
    c.truncate.ensures.words
    ∙ ap (λ t. take (t - 1) xs) c.len-left.ensures ∙ ap (λ t. take t xs) last
    ∙ ap (take k) c.loop-k.invariant.words
    ∙ moved-last ws i k c.requires z.1
