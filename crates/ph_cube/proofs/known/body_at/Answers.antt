use Rattle.ph_model.proofs.laws.WordDigits.{each-fits}
use Rattle.ph_cube.proofs.Stood.{stands-at}
use Rattle.ph_cube.proofs.known.body_at.Goals as goal

pub body_of-requires-clause-stands : goal.body_of-requires-clause-stands
body_of-requires-clause-stands c =
    let r = c.requires in
    stands-at c.args.dims c.args.words.now c.args.addr c.args.i r.record (each-fits c.args.words.now c.type_inv.words) r.within r.address
