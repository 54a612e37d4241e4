use Rattle.std.proofs.Common.{take, arith}
use Rattle.ph_linear.proofs.Writing.{byte-few, child-counted}
use Rattle.ph_node.proofs.builds.count_children.Goals as goal

pub loop-i-preserved : goal.loop-i-preserved
loop-i-preserved g c =
    let v = c.loop-i.invariant in
    let p = c.at.result in
    record {
      end = v.end;
      mark = c.at.ensures.stands;
      few = omega (arith, v.few, byte-few p.child);
      children = child-counted (g.E.Entries.list c.args.entries.now) c.loop-i.i p.child p.addr (take g.P.Dims.D p.body)
          (omega (arith, c.loop-i-test.true, v.end)) c.at.ensures.entry _ v.children;
    }
