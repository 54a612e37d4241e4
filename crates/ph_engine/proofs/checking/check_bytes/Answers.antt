use Rattle.std.proofs.Common.{arith}
use Rattle.ph_engine.proofs.Checked.{fault-given, fault-sizes, has-sizes, nodes-are, sizes-given}
use Rattle.ph_engine.proofs.checking.check_bytes.Goals as goal

pub returns-in-Ok-clause-line : goal.returns-in-Ok-clause-line
returns-in-Ok-clause-line g c =
    let l = c.in-Ok.ensures.line in
    sizes-given c.args.bytes.now l.rows l.snapshot _ _ c.as_str.result.now c.in-Ok.line.bytes c.say_line.result
    c.as_str.ensures.value l.said c.say_line.ensures.line

pub returns-in-Ok-clause-sizes : goal.returns-in-Ok-clause-sizes
returns-in-Ok-clause-sizes g c = λ e. has-sizes c.args.bytes.now c.in-Ok.ensures.line.rows c.in-Ok.ensures.line.snapshot

pub returns-in-Ok-clause-visits : goal.returns-in-Ok-clause-visits
returns-in-Ok-clause-visits g c =
    let l = c.in-Ok.ensures.line in
    let w = c.snapshot_line.ensures.within in
    record { kept = omega (arith, l.seen); few = omega (arith, l.seen, l.made, w.few) }

pub returns-in-Ok-clause-most_visits : goal.returns-in-Ok-clause-most_visits
returns-in-Ok-clause-most_visits g c =
    let l = c.in-Ok.ensures.line in
    omega (arith, l.seen, nodes-are c.args.bytes.now l.rows l.snapshot)

pub returns-in-Ok-clause-nodes : goal.returns-in-Ok-clause-nodes
returns-in-Ok-clause-nodes g c e =
    let l = c.in-Ok.ensures.line in
    omega (arith, l.made, nodes-are c.args.bytes.now l.rows l.snapshot)

pub returns-in-Err-clause-nodes : goal.returns-in-Err-clause-nodes
returns-in-Err-clause-nodes g c =
    fault-sizes c.args.bytes.now c.in-Err.fault c.in-Err.ensures.fault _ _ c.fault_reply.result c.tell.result c.fault_reply.ensures c.tell.ensures.told

pub returns-in-Err-clause-line : goal.returns-in-Err-clause-line
returns-in-Err-clause-line g c =
    fault-given c.args.bytes.now c.in-Err.fault c.in-Err.ensures.fault _ _ c.fault_reply.result c.tell.result c.fault_reply.ensures c.tell.ensures.told

pub returns-in-Err-clause-sizes : goal.returns-in-Err-clause-sizes
returns-in-Err-clause-sizes g c =
    fault-sizes c.args.bytes.now c.in-Err.fault c.in-Err.ensures.fault _ _ c.fault_reply.result c.tell.result c.fault_reply.ensures c.tell.ensures.told
