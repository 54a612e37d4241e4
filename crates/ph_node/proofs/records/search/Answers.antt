use Rattle.std.proofs.Common.{sym, ◌∙◌, eqb-true}
use Rattle.ph_model.proofs.laws.WordDigits.{each-fits}
use Rattle.ph_node.proofs.Full.{full-place}
use Rattle.ph_node.proofs.records.search.Goals as goal

pub returns-then-is_full-clause-found : goal.returns-then-is_full-clause-found
returns-then-is_full-clause-found c =
    sym (full-place c.args.dims c.args.words.now c.requires.record (each-fits c.args.words.now c.type_inv.words)
    (eqb-true _ _ (sym c.is_full.ensures ∙ c.if-is_full.true)) c.args.addr c.requires.address)
