use Rattle.ph_bits.proofs.MovedRuns.{many-down}
use Rattle.ph_bits.proofs.moves.move_many_down.Goals as goal

pub returns : goal.returns
returns c =
    many-down c.args.words.now c.move_part.new.words c.move_words_down.new.words c.move_part-2.new.words c.args.from c.args.to
    c.args.len c.move_part.auto.words c.move_words_down.auto.words c.move_part-2.auto.words c.requires.order c.requires.many
    c.requires.inside c.move_part.ensures c.move_words_down.ensures c.move_part-2.ensures
