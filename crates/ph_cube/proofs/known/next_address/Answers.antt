use Rattle.ph_model.proofs.laws.WordDigits.{each-fits}
use Rattle.std.proofs.Common.{◌+◌, arith}
use Rattle.ph_cube.proofs.Entries.{address-is}
use Rattle.ph_cube.proofs.Stood.{stands-at}
use Rattle.ph_cube.proofs.known.next_address.Goals as goal

pub next_present-requires-clause-stands : goal.next_present-requires-clause-stands
next_present-requires-clause-stands c =
    let r = c.requires in
    stands-at c.args.dims c.args.words.now c.args.addr c.args.i r.record (each-fits c.args.words.now c.type_inv.words) (omega (arith, r.within)) r.address

pub returns : goal.returns
returns c =
    address-is c.args.dims c.args.words.now c.next_present.result (c.args.i + 1) c.requires.record
    (each-fits c.args.words.now c.type_inv.words) c.requires.within c.next_present.ensures
