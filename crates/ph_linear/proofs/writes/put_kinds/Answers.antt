use Rattle.std.proofs.Common.{◌<◌, ℕ, List, length, take, arith, ◌∙◌}
use Rattle.ph_specs.specs.Node.{Flat}
use Rattle.ph_bits.specs.Written.{number_by}
use Rattle.ph_linear.proofs.Writing.{byte-few, kind-put, child-counted}
use Rattle.ph_linear.proofs.writes.put_kinds.Goals as goal

pub loop-i-preserved : goal.loop-i-preserved
loop-i-preserved g c =
    let v = c.loop-i.invariant in
    let es : List Flat = g.E.Entries.list c.args.from.now in
    let p = c.at-kind.result in
    let body : List ℕ = take g.P.Dims.D p.body in
    let l : c.loop-i.i < length es = omega (arith, c.loop-i-test.true, v.end) in
    record {
      end = v.end;
      mark = c.at-kind.ensures.stands;
      pen = c.put.ensures.pen;
      digits = omega (arith, c.put.ensures.digits, v.digits);
      number = c.put.ensures.number ∙
          kind-put es c.loop-i.i p.child p.addr body l c.at-kind.ensures.entry (number_by c.args.words.now.words c.args.pen.now) _ v.number;
      few = omega (arith, v.few, byte-few p.child);
      children = child-counted es c.loop-i.i p.child p.addr body l c.at-kind.ensures.entry _ v.children;
      places = (c.put.ensures.places.0 ∙ v.places.0, c.put.ensures.places.1 ∙ v.places.1);
    }
