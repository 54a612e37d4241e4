use Rattle.std.proofs.Common.{◌≡◌, [], ◌+◌, ◌-◌, ◌*◌, ◌/◌, ◌%◌, ◌^◌, ap, sym, subst, arith, drop, get_or}
use Rattle.std.proofs.Math.Nat.{mod-lt}
use Rattle.std.proofs.lemmas.List.{drop_all}
use Rattle.ph_digits.proofs.Joins.{small-at}
use Rattle.ph_node.specs.Apart.{greatest_square}
use Rattle.ph_near.specs.Far.{corner_of, gaps_above}
use Rattle.ph_near.proofs.FarRegions.{corner-room, corner-long, corner-above, room-on}
use Rattle.ph_near.proofs.corners.CornersDistances.least.Goals as goal

pub squared_gap-sum-requires-clause-low : goal.squared_gap-sum-requires-clause-low
squared_gap-sum-requires-clause-low g c =
    let known = c.args.self.now.known in
    let digit = c.args.addr / 2 ^ (g.row.D - 1 - c.loop-i.i) in
    let room = corner-room c.args.self.now.level (get_or known c.loop-i.i 0) (digit % 2) c.requires.sound.level
    (small-at 62 g.row.D c.loop-i.i known c.requires.sound.known) (mod-lt digit (omega arith)) in
    omega (arith, room, c.digits_above.ensures.value, c.address_digit-digit.ensures.value)

pub loop-i-preserved : goal.loop-i-preserved
loop-i-preserved g c =
    let known = c.requires.sound.known.0 in
    let first = corner-above c.args.self.now.level c.args.addr c.loop-i.i _ _ c.squared_gap-sum.result c.args.self.now.known c.args.self.now.center
    (omega (arith, c.loop-i-test.true, known)) (omega (arith, c.requires.sound.center.0, known)) c.digits_above.ensures.value
    (subst (λ n. c.address_digit-digit.result ≡ c.args.addr / 2 ^ (n - 1 - c.loop-i.i) % 2 * 2 ^ c.args.self.now.level) (sym known) c.address_digit-digit.ensures.value)
    c.squared_gap-sum.ensures.value in
    record {
      value = omega (arith, c.loop-i.invariant.value, first);
      limit = room-on c.loop-i.sum c.squared_gap-sum.result (g.row.D - c.loop-i.i) (g.row.D - (c.loop-i.i + 1))
          greatest_square (omega (arith, c.loop-i-test.true)) c.squared_gap-sum.ensures.limit c.loop-i.invariant.limit;
    }

pub returns : goal.returns
returns g c =
    let known = c.args.self.now.known in
    let corner = corner_of c.args.self.now.level c.args.addr known in
    let none : drop c.loop-i.i corner ≡ [] =
    drop_all c.loop-i.i corner (omega (arith, c.loop-i-test.false, corner-long c.args.self.now.level c.args.addr known, c.requires.sound.known.0)) in
    let rest : gaps_above c.args.self.now.level (drop c.loop-i.i corner) (drop c.loop-i.i c.args.self.now.center) ≡ 0 =
    ap (λ t. gaps_above c.args.self.now.level t (drop c.loop-i.i c.args.self.now.center)) none in
    omega (arith, c.loop-i.invariant.value, rest)
