use Rattle.std.proofs.Common.{sym, ◌∙◌}
use Rattle.ph_io.proofs.Places.{stored-at, place-less, place-equal, place-greater}
use Rattle.ph_io.proofs.stored.place_of.Goals as goal

pub returns-in-Less : goal.returns-in-Less
returns-in-Less c =
    place-less c.args.name.now (stored-at c.args.stored.now c.loop-i.i c.index-stored-i.result c.loop-i-test.true c.index-stored-i.is)
    (rw (← c.as_str.ensures.value) (sym c.cmp.ensures ∙ c.in-Less.is)) c.loop-i.invariant

pub returns-in-Equal : goal.returns-in-Equal
returns-in-Equal c =
    place-equal c.args.name.now (stored-at c.args.stored.now c.loop-i.i c.index-stored-i.result c.loop-i-test.true c.index-stored-i.is)
    (rw (← c.as_str.ensures.value) (sym c.cmp.ensures ∙ c.in-Equal.is)) c.loop-i.invariant

pub loop-i-preserved : goal.loop-i-preserved
loop-i-preserved c bytes =
    place-greater c.args.name.now (stored-at c.args.stored.now c.loop-i.i c.index-stored-i.result c.loop-i-test.true c.index-stored-i.is)
    (rw (← c.as_str.ensures.value) (sym c.cmp.ensures ∙ c.in-Greater.is)) c.loop-i.invariant bytes
