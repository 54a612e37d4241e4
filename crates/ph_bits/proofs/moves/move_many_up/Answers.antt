use Rattle.ph_bits.proofs.MovedRuns.{many-up}
use Rattle.ph_bits.proofs.moves.move_many_up.Goals as goal

pub returns : goal.returns
returns c =
    many-up c.args.words.now c.move_part.new.words c.move_words_up.new.words c.move_part-2.new.words c.args.from c.args.to
    c.args.len c.move_part.auto.words c.move_words_up.auto.words c.move_part-2.auto.words c.requires.order c.requires.many
    c.requires.inside c.move_part.ensures c.move_words_up.ensures c.move_part-2.ensures
