use Rattle.std.proofs.Common.{arith}
use Rattle.ph_window.proofs.Seeks.{missed, fitting, none-sought, none-left, above-it, past-all, passed-on}
use Rattle.ph_window.proofs.seek.seek_from.Goals as goal

pub returns-then-place-len : goal.returns-then-place-len
returns-then-place-len g c = none-sought (λ j e q m at. c.requires.passed.shut j e q (omega arith) at)

pub returns-then-fits : goal.returns-then-fits
returns-then-fits g c = record {
  found = fitting c.requires.passed c.spot-spot.ensures.place c.spot-spot.ensures.spot c.fits.ensures c.if-fits.true;
  spot = c.spot-spot.ensures.spot;
  room = omega arith;
}

pub returns-in_default : goal.returns-in_default
returns-in_default g c =
    let k = missed c.requires.ready c.requires.passed c.spot-spot.ensures.place c.spot-spot.ensures.spot c.fits.ensures c.if-fits.false in
    none-sought (none-left k c.next_address.ensures c.in_default.is)

pub next_behind-requires-clause-above : goal.next_behind-requires-clause-above
next_behind-requires-clause-above g c =
    let k = missed c.requires.ready c.requires.passed c.spot-spot.ensures.place c.spot-spot.ensures.spot c.fits.ensures c.if-fits.false in
    above-it k c.next_address.ensures c.in-Some.is

pub returns-in_default-next_behind : goal.returns-in_default-next_behind
returns-in_default-next_behind g c =
    let k = missed c.requires.ready c.requires.passed c.spot-spot.ensures.place c.spot-spot.ensures.spot c.fits.ensures c.if-fits.false in
    none-sought (past-all k c.next_address.ensures c.in-Some.is c.next_behind.ensures c.in_default-next_behind.is)

pub seek_on-requires-clause-passed : goal.seek_on-requires-clause-passed
seek_on-requires-clause-passed g c =
    let k = missed c.requires.ready c.requires.passed c.spot-spot.ensures.place c.spot-spot.ensures.spot c.fits.ensures c.if-fits.false in
    passed-on k c.next_address.ensures c.in-Some.is c.next_behind.ensures c.in-Some-next_behind.is
