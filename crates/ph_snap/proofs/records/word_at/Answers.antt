use Rattle.std.proofs.Common.{arith}
use Rattle.ph_snap.proofs.Bytes.{word-next}
use Rattle.ph_snap.proofs.records.word_at.Goals as goal

pub loop-i-preserved : goal.loop-i-preserved
loop-i-preserved c =
    let n = word-next c.args.bytes.now c.args.at c.loop-i.i c.loop-i.word c.from.result (omega arith) (omega arith)
    c.type_inv.bytes c.from.ensures c.loop-i.invariant.value c.loop-i.invariant.small in
    record { value = n.0; small = n.1 }
