use Rattle.std.proofs.Common.{arith}
use Rattle.ph_window.proofs.Seeks.{missed, fitting, none-sought, none-left, above-it, past-all, farther, passed-on}
use Rattle.ph_window.proofs.seek.seek_on.Goals as goal

pub returns-then-fits : goal.returns-then-fits
returns-then-fits g c = record {
  found = fitting c.loop-place.invariant c.spot-spot.ensures.place c.spot-spot.ensures.spot c.fits.ensures c.if-fits.true;
  spot = c.spot-spot.ensures.spot;
  room = omega arith;
}

pub returns-in_default : goal.returns-in_default
returns-in_default g c =
    let k = missed c.requires.ready c.loop-place.invariant c.spot-spot.ensures.place c.spot-spot.ensures.spot c.fits.ensures c.if-fits.false in
    none-sought (none-left k c.next_address.ensures c.in_default.is)

pub next_behind-requires-clause-above : goal.next_behind-requires-clause-above
next_behind-requires-clause-above g c =
    let k = missed c.requires.ready c.loop-place.invariant c.spot-spot.ensures.place c.spot-spot.ensures.spot c.fits.ensures c.if-fits.false in
    above-it k c.next_address.ensures c.in-Some.is

pub returns-in_default-next_behind : goal.returns-in_default-next_behind
returns-in_default-next_behind g c =
    let k = missed c.requires.ready c.loop-place.invariant c.spot-spot.ensures.place c.spot-spot.ensures.spot c.fits.ensures c.if-fits.false in
    none-sought (past-all k c.next_address.ensures c.in-Some.is c.next_behind.ensures c.in_default-next_behind.is)

pub loop-place-smaller : goal.loop-place-smaller
loop-place-smaller g c =
    let k = missed c.requires.ready c.loop-place.invariant c.spot-spot.ensures.place c.spot-spot.ensures.spot c.fits.ensures c.if-fits.false in
    omega (arith, farther k c.next_address.ensures c.in-Some.is c.next_behind.ensures c.in-Some-next_behind.is, c.loop-place-test.true)

pub loop-place-preserved : goal.loop-place-preserved
loop-place-preserved g c =
    let k = missed c.requires.ready c.loop-place.invariant c.spot-spot.ensures.place c.spot-spot.ensures.spot c.fits.ensures c.if-fits.false in
    passed-on k c.next_address.ensures c.in-Some.is c.next_behind.ensures c.in-Some-next_behind.is

pub returns : goal.returns
returns g c = none-sought (λ j e q m at. c.loop-place.invariant.shut j e q (omega arith) at)
