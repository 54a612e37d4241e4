use Rattle.std.proofs.Common.{◌≡◌, arith, sym, subst, ◌∙◌, length, pos, map, w64, SFits, rules}
use Rattle.std.proofs.lemmas.List.{length-map, get_or-map}
use Rattle.std.proofs.lemmas.Int.{to_z-of_z}
use Rattle.ph_specs.specs.Coordinate.{coordinate, IsPoint}
use Rattle.ph_coord.proofs.Filled.{filled-next, filled-all}
use Rattle.ph_coord.proofs.Points.{point-is}
use Rattle.ph_coord.proofs.point.Point.from_offsets.Goals as goal

pub loop-i-preserved : goal.loop-i-preserved
loop-i-preserved g c =
    let long : length (map (coordinate c.args.w) c.args.offsets.now) ≡ length c.args.offsets.now = length-map c.args.offsets.now (coordinate c.args.w) in
    let item = get_or-map (coordinate c.args.w) c.args.offsets.now c.loop-i.i 0 (pos 0) (omega arith) in
    let fits : SFits w64 c.coordinate.result = search rules in
    filled-next g.row.D (pos 0) (map (coordinate c.args.w) c.args.offsets.now) c.loop-i.coords c.loop-i.i _ (pos 0)
    c.loop-i.invariant (omega arith) (omega arith) (to_z-of_z w64 c.coordinate.result fits ∙ c.coordinate.ensures ∙ sym item)

pub returns-clause-point : goal.returns-clause-point
returns-clause-point g c =
    let long : length (map (coordinate c.args.w) c.args.offsets.now) ≡ length c.args.offsets.now = length-map c.args.offsets.now (coordinate c.args.w) in
    let all : c.loop-i.coords ≡ map (coordinate c.args.w) c.args.offsets.now =
    filled-all g.row.D (pos 0) (map (coordinate c.args.w) c.args.offsets.now) c.loop-i.coords c.loop-i.i
    c.loop-i.invariant (omega (arith, long)) c.loop-i-test.false in
    subst (IsPoint c.args.w g.row.D) (sym all) (point-is c.args.w g.row.D c.args.offsets.now (omega arith) c.requires.dims c.requires.small)
