use Rattle.std.proofs.Common.{sym, ◌∙◌}
use Rattle.ph_specs.specs.Lines.{words}
use Rattle.ph_script.specs.Forms.{spread_of}
use Rattle.ph_script.proofs.FormsOfWord.{passed-count, passed-own, refusing-own}
use Rattle.ph_script.proofs.read.refused_by.Goals as goal

pub returns-in-Count : goal.returns-in-Count
returns-in-Count c = rw c.miscounted.ensures (passed-count c.args.refused (spread_of c.args.places) (words c.args.text.now) (rw c.in-Count.is at c.requires))

pub returns-then-has_own_words : goal.returns-then-has_own_words
returns-then-has_own_words c =
    refusing-own c.args.refused c.args.bad (spread_of c.args.places) (words c.args.text.now) c.in_default.not-Count
    c.requires (sym c.has_own_words.ensures ∙ c.if-has_own_words.true)

pub returns-else-has_own_words : goal.returns-else-has_own_words
returns-else-has_own_words c =
    passed-own c.args.refused c.args.bad (spread_of c.args.places) (words c.args.text.now) c.in_default.not-Count
    c.requires (sym c.has_own_words.ensures ∙ c.if-has_own_words.false)
