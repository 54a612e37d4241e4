use Rattle.ph_model.proofs.laws.WordDigits.{each-fits}
use Rattle.ph_cube.proofs.Stood.{stands-at}
use Rattle.ph_cube.proofs.known.rank_at.Goals as goal

pub rank_of-requires-clause-limit : goal.rank_of-requires-clause-limit
rank_of-requires-clause-limit c =
    let r = c.requires in
    (stands-at c.args.dims c.args.words.now c.args.addr c.args.i r.record (each-fits c.args.words.now c.type_inv.words) r.within r.address).limit

pub rank_of-requires-clause-place : goal.rank_of-requires-clause-place
rank_of-requires-clause-place c =
    let r = c.requires in
    (stands-at c.args.dims c.args.words.now c.args.addr c.args.i r.record (each-fits c.args.words.now c.type_inv.words) r.within r.address).place
