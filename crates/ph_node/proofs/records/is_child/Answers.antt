use Rattle.std.proofs.Common.{sym, ◌∙◌}
use Rattle.ph_model.proofs.laws.WordDigits.{each-fits}
use Rattle.ph_node.proofs.Full.{only-points, only-children}
use Rattle.ph_node.proofs.records.is_child.Goals as goal

pub returns-then-children-eq0 : goal.returns-then-children-eq0
returns-then-children-eq0 c =
    only-points c.args.dims c.args.words.now c.requires.laid (each-fits c.args.words.now c.type_inv.words)
    c.args.spot.place (sym c.children_in-children.ensures ∙ c.if-children-eq0.true) c.requires.within

pub returns-then-children-count_in : goal.returns-then-children-count_in
returns-then-children-count_in c =
    only-children c.args.dims c.args.words.now c.requires.laid (each-fits c.args.words.now c.type_inv.words)
    c.args.spot.place (sym c.children_in-children.ensures ∙ c.if-children-count_in.true ∙ c.count_in.ensures)
    c.requires.within
