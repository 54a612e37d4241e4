use Rattle.std.proofs.Common.{sym, ◌∙◌}
use Rattle.ph_model.proofs.laws.WordDigits.{each-fits}
use Rattle.ph_cube.proofs.Stood.{stands, stands-within}
use Rattle.ph_cube.proofs.reads.find_entry.Goals as goal

pub entry_at-requires-clause-within : goal.entry_at-requires-clause-within
entry_at-requires-clause-within c =
    stands-within c.args.dims c.args.words.now c.args.addr c.in-Some.i c.requires.record (sym c.find.ensures ∙ c.in-Some.is)

pub entry_at-requires-clause-stands : goal.entry_at-requires-clause-stands
entry_at-requires-clause-stands c =
    stands c.args.dims c.args.words.now c.args.addr c.in-Some.i c.requires.record
    (each-fits c.args.words.now c.type_inv.words) c.requires.address (sym c.find.ensures ∙ c.in-Some.is)
