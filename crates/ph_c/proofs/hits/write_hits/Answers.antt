-- A hit more is written behind those that are there.
use Rattle.ph_c.proofs.Telling.{telling-more}
use Rattle.ph_c.proofs.hits.write_hits.Goals as goal

pub loop-i-preserved : goal.loop-i-preserved
loop-i-preserved g c =
    let e = c.write_hit.ensures in
    rw (e.values, e.points, e.distances)
    (telling-more g.row.D c.args.hits.now c.args.values.now c.args.points.now c.args.distances.now c.loop-i.i c.loop-i.values c.loop-i.points
    c.loop-i.distances c.index-hits-i.result c.loop-i.invariant c.index-hits-i.is c.loop-i-test.true e.dims)
