use Rattle.std.proofs.Common.{◌≡◌, ◌+◌, ◌-◌, length, replicate, ap, sym, ◌∙◌, arith}
use Rattle.std.proofs.lemmas.List.{length-append, length-replicate}
use Rattle.ph_node.specs.RecordEdit.{words_with}
use Rattle.ph_node.proofs.Resized.{longer_with, front_is}
use Rattle.ph_node.proofs.rewrites.insert_entry.Goals as goal

pub overflow_sub-more : goal.overflow_sub-more
overflow_sub-more g c =
    omega (arith, c.len-len.ensures.value, c.requires.long, longer_with _ _ _ c.requires.edit c.requires.less c.requires.more c.requires.point)

pub insert_point-requires-clause-long : goal.insert_point-requires-clause-long
insert_point-requires-clause-long g c =
    let ws = c.args.block.now.words in
    let e = c.args.edit.now in
    let front = front_is ws c.push_zeros.new.block.words c.words_mut.result.now _ c.len-len.result
    c.words_mut.ensures.words c.push_zeros.ensures.words c.len-len.ensures.value in
    let grown : length c.words_mut.result.now ≡ length ws + (c.args.long - c.len-len.result) =
    ap length (c.words_mut.ensures.words ∙ c.push_zeros.ensures.words) ∙
    length-append ws (replicate (c.args.long - c.len-len.result) 0) ∙
    ap (λ k. length ws + k) (length-replicate (c.args.long - c.len-len.result) 0) in
    let all : length c.words_mut.result.now ≡ words_with c.args.dims ws e =
    omega (
      arith,
      grown,
      c.len-len.ensures.value,
      c.requires.long,
      longer_with _ _ _ c.requires.edit c.requires.less c.requires.more c.requires.point,
    ) in
    all ∙ sym (ap (λ us. words_with c.args.dims us e) front)
