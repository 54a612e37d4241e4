use Rattle.std.proofs.Common.{sym, ◌∙◌, eqb-true}
use Rattle.ph_model.proofs.laws.WordDigits.{each-fits}
use Rattle.ph_node.proofs.Full.{full-address}
use Rattle.ph_node.proofs.records.address.Goals as goal

pub returns-then-is_full : goal.returns-then-is_full
returns-then-is_full c =
    full-address c.args.dims c.args.words.now c.requires.record (each-fits c.args.words.now c.type_inv.words)
    (eqb-true _ _ (sym c.is_full.ensures ∙ c.if-is_full.true)) c.args.i c.requires.within
