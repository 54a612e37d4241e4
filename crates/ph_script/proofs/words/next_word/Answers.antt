use Rattle.std.proofs.Common.{sym, arith}
use Rattle.ph_script.proofs.WordCuts.{word_front}
use Rattle.ph_script.proofs.words.next_word.Goals as goal

pub split_at-requires-2 : goal.split_at-requires-2
split_at-requires-2 c = c.front_word-number.ensures.within

pub returns-clause-value : goal.returns-clause-value
returns-clause-value c =
    let f = word_front c.args.text.now c.split_at.result.1.now c.in-Some.start c.front_word-number.result.1
    (sym c.in-Some.ensures) c.split_at.ensures.back (sym c.front_word-number.ensures.end) in
    rw (c.split_at-2.ensures.front, c.split_at-2.ensures.back) f.0

pub returns-clause-some : goal.returns-clause-some
returns-clause-some c =
    let f = word_front c.args.text.now c.split_at.result.1.now c.in-Some.start c.front_word-number.result.1
    (sym c.in-Some.ensures) c.split_at.ensures.back (sym c.front_word-number.ensures.end) in
    omega (arith, f.1, f.2, c.split_at-2.ensures.front_len)

pub returns-clause-shorter : goal.returns-clause-shorter
returns-clause-shorter c =
    let f = word_front c.args.text.now c.split_at.result.1.now c.in-Some.start c.front_word-number.result.1
    (sym c.in-Some.ensures) c.split_at.ensures.back (sym c.front_word-number.ensures.end) in
    omega (arith, f.1, f.2, c.split_at-2.ensures.back_len, c.split_at.ensures.back_len)
