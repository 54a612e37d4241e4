use Rattle.std.proofs.Common.{◌∙◌, arith}
use Rattle.tour.proofs.Reloads.{table_read}
use Rattle.tour.proofs.calls.reloaded.Goals as goal

pub returns-clause-table : goal.returns-clause-table
returns-clause-table g c =
    table_read c.args.tree.now.width c.width-w.result c.as_slice.result.now c.args.tree.now.table c.in_ok-loaded.loaded.table
    c.width-w.ensures
    (omega (arith, c.bits-bits.ensures.value, c.bits-bits.ensures.some))
    (omega (arith, c.bits-bits.ensures.value, c.bits-bits.ensures.limit))
    c.root-root.ensures.table
    (c.as_slice.ensures.value ∙ c.in_ok-bytes.ensures)
    c.in_ok-loaded.ensures.read
