use Rattle.ph_model.proofs.laws.WordDigits.{each-fits}
use Rattle.ph_cube.proofs.Entries.{address-is}
use Rattle.ph_cube.proofs.reads.address.Goals as goal

pub returns : goal.returns
returns c =
    address-is c.args.dims c.args.words.now c.address_of.result c.args.i c.requires.record
    (each-fits c.args.words.now c.type_inv.words) c.requires.within c.address_of.ensures
