use Rattle.std.proofs.Common.{rules, ◌≡◌, ℕ, ◌+◌, ◌-◌, ap, ◌∙◌, slice_index_or, arith}
use Rattle.ph_bits.proofs.MovedRuns.{words-moved}
use Rattle.ph_bits.proofs.moves.copy_words.Goals as goal

pub returns : goal.returns
returns c =
    let same = c.copy_within.ensures.by_index in
    let n : c.args.start + c.args.count - c.args.start ≡ c.args.count = omega arith in
    words-moved c.args.words.now c.copy_within.new.self c.args.start c.args.place c.args.count c.copy_within.ensures.len
    c.requires.from c.requires.to (search rules) c.type_inv.words
    (λ i l. same.0 (c.args.place + i) 0 (omega arith) (omega (arith, l, n)) ∙
    ap (λ t. slice_index_or c.args.words.now (c.args.start + t) 0) (back c.args.place i))
    (λ i l. same.1 i 0 l)
    (λ i l. same.2 i 0 (omega (arith, l, n)))
  where
    back : (k i : ℕ) → k + i - k ≡ i
    back k i = omega arith
