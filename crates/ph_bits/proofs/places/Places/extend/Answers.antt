use Rattle.std.proofs.Common.{◌≡◌, ℕ, suc, ◌+◌, ◌<◌, ◌++◌, List, Some, sym, ◌∙◌, ap, arith, length, take, slice_index_or}
use Rattle.std.proofs.Math.Seq.{take-suc}
use Rattle.std.proofs.lemmas.List.{length-set}
use Rattle.ph_bits.specs.Slots.{words_at}
use Rattle.ph_bits.proofs.SlotLists.{written-behind, words-behind}
use Rattle.ph_bits.proofs.places.Places.extend.Goals as goal

pub loop-i-preserved : goal.loop-i-preserved
loop-i-preserved c =
    let v = c.loop-i.invariant in
    let e = c.write.ensures in
    let n = c.args.len in
    let i = c.loop-i.i in
    let xs = c.args.more.now in
    let x : ℕ = slice_index_or xs i 0 in
    let cs = c.loop-i.self.slots in
    let ds = c.write.new.self.slots in
    let old : List ℕ = words_at n c.args.self.now.slots in
    let more : suc i ≡ i + 1 = omega arith in
    let l : n + i < length cs = omega (arith, v.room, c.requires.room, c.loop-i-test.true) in
    record {
      start = e.0 ∙ v.start;
      room = ap length e.1 ∙ length-set cs (n + i) (Some x) ∙ v.room;
      written = written-behind n i cs ds x e.1 l v.written;
      words = words-behind n i cs ds x old (take i xs) e.1 l v.words ∙ ap (λ t. old ++ t) (sym (take-suc xs i 0 c.loop-i-test.true) ∙ ap (λ t. take t xs) more);
    }
