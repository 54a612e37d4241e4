use Rattle.std.proofs.Common.{◌≡◌, ℕ, ◌*◌, ◌-◌, ◌/◌, ◌%◌, ◌^◌, ◌<◌, ◌≤◌, arith, get_or, subst}
use Rattle.std.proofs.Math.Pow.{pow_mono}
use Rattle.ph_near.specs.Tables.{IsDoubled}
use Rattle.ph_near.proofs.TableSums.{none-summed, more-summed, own-small}
use Rattle.ph_near.proofs.tables.Tables.new.Goals as goal

narrow : (p : ℕ) → 2 ^ (p % 4) ≤ 8
narrow p = pow_mono {i = p % 4} {j = 3} (omega arith)

-- the shift loses nothing
counted : (p : ℕ) → 1 * 2 ^ (p % 4) % 18446744073709551616 ≡ 2 ^ (p % 4)
counted p = omega (arith, narrow p)

pub loop-place-init : goal.loop-place-init
loop-place-init g c = none-summed g.row.D c.args.halves.now.low c.args.halves.now.high

pub double-requires-clause-room : goal.double-requires-clause-room
double-requires-clause-room g c =
    omega (arith, counted c.loop-place.place, narrow c.loop-place.place, c.loop-place-test.true, c.requires.few)

pub double-requires-clause-small : goal.double-requires-clause-small
double-requires-clause-small g c j k =
    own-small g.row.D c.args.halves.now.low c.args.halves.now.high c.requires.low c.requires.high c.loop-place.place
    c.loop-place.sums c.loop-place.invariant c.loop-place-test.true c.requires.few j (subst (λ t. j < t) (counted c.loop-place.place) k)

pub loop-place-preserved : goal.loop-place-preserved
loop-place-preserved g c =
    more-summed g.row.D c.args.halves.now.low c.args.halves.now.high c.loop-place.place c.loop-place.sums c.double.new.sums c.loop-place.invariant
    (omega (arith, c.loop-place-test.true, c.requires.few))
    (subst (λ t. IsDoubled (c.loop-place.place / 4 * 16) t (get_or c.args.halves.now.low (g.row.D - 1 - c.loop-place.place) 0)
    (get_or c.args.halves.now.high (g.row.D - 1 - c.loop-place.place) 0) c.loop-place.sums c.double.new.sums) (counted c.loop-place.place)
    c.double.ensures)
