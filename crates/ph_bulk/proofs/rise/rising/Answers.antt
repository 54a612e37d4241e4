use Rattle.std.proofs.Common.{◌<◌, ◌≤◌, length, arith, sym}
use Rattle.ph_bulk.proofs.Rises.{rise-all, next-down, pair-more, pair-breaks}
use Rattle.ph_bulk.proofs.rise.rising.Goals as goal

pub returns-then-not-comes_before : goal.returns-then-not-comes_before
returns-then-not-comes_before g c =
    let m : c.loop-i.i < length c.args.rows.now = omega arith in
    sym (pair-breaks c.args.w c.args.rows.now c.loop-i.i c.index-rows-i.result c.index-rows-i-in-loop-i.result
    c.comes_before.result c.loop-i.invariant.some m c.index-rows-i.is c.index-rows-i-in-loop-i.is
    c.comes_before.ensures c.if-not-comes_before.true)

pub loop-i-preserved : goal.loop-i-preserved
loop-i-preserved g c =
    let m : c.loop-i.i < length c.args.rows.now = omega arith in
    record {
      next = pair-more c.args.w c.args.rows.now c.loop-i.i c.index-rows-i.result c.index-rows-i-in-loop-i.result
          c.comes_before.result c.loop-i.invariant.next c.loop-i.invariant.some m c.index-rows-i.is
          c.index-rows-i-in-loop-i.is c.comes_before.ensures c.if-not-comes_before.false;
      some = omega arith;
    }

pub returns : goal.returns
returns g c =
    let m : length c.args.rows.now ≤ c.loop-i.i = omega arith in
    sym (rise-all c.args.w c.args.rows.now (next-down c.args.w c.args.rows.now c.loop-i.i (length c.args.rows.now) m c.loop-i.invariant.next))
