use Rattle.std.proofs.Common.{◌≡◌, ap, arith, true, false}
use Rattle.ph_bits.specs.Block.{room_of}
use Rattle.ph_record_trials.proofs.Small.{cube-room, linear-room, is-record}
use Rattle.ph_record_trials.proofs.records.record_of.Goals as goal

pub write-requires-clause-room : goal.write-requires-clause-room
write-requires-clause-room g c =
    let e : room_of c.in-Ok.words ≡ 64 = ap room_of c.in-Ok.ensures.empty in
    omega (arith, e, cube-room g.row.D c.args.level c.args.items.now c.requires.some c.requires.few (c.is_writable.ensures c.if-not-is_writable.false))

pub write-requires-2-clause-room : goal.write-requires-2-clause-room
write-requires-2-clause-room g c =
    let e : room_of c.in-Ok.words ≡ 64 = ap room_of c.in-Ok.ensures.empty in
    omega (arith, e, linear-room g.row.D c.args.level c.args.items.now c.requires.some c.requires.few (c.is_writable.ensures c.if-not-is_writable.false))

pub returns-then-cube : goal.returns-then-cube
returns-then-cube g c =
    rw c.if-cube.true (is-record g.row.D c.args.level c.args.items.now c.requires.some c.requires.few
    (c.is_writable.ensures c.if-not-is_writable.false) true c.write.new.words.words c.write.ensures.words)

pub returns : goal.returns
returns g c =
    rw c.if-cube.false (is-record g.row.D c.args.level c.args.items.now c.requires.some c.requires.few
    (c.is_writable.ensures c.if-not-is_writable.false) false c.write-2.new.words.words c.write-2.ensures.words)
