use Rattle.std.proofs.Common.{sym, ◌∙◌}
use Rattle.ph_io.proofs.Places.{stored-at, found, not-found}
use Rattle.ph_io.proofs.stored.bytes_of.Goals as goal

pub returns-then-is_eq : goal.returns-then-is_eq
returns-then-is_eq c =
    rw c.as_slice.ensures.value
    (found c.args.name.now (stored-at c.args.stored.now c.loop-file.file-index c.file-item.result c.loop-file-test.true c.file-item.is)
    (rw (← c.as_str.ensures.value, ← c.cmp.ensures) (sym c.is_eq.ensures ∙ c.if-is_eq.true)) c.loop-file.invariant)

pub loop-file-preserved : goal.loop-file-preserved
loop-file-preserved c =
    not-found c.args.name.now (stored-at c.args.stored.now c.loop-file.file-index c.file-item.result c.loop-file-test.true c.file-item.is)
    (rw (← c.as_str.ensures.value, ← c.cmp.ensures) (sym c.is_eq.ensures ∙ c.if-is_eq.false)) c.loop-file.invariant
