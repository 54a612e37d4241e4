use Rattle.std.proofs.Common.{sym, ◌∙◌, arith}
use Rattle.ph_model.proofs.laws.WordDigits.{each-fits}
use Rattle.ph_node.proofs.Full.{only-points, only-children, before-points, before-children, both-before}
use Rattle.ph_node.proofs.records.ranked.Goals as goal

pub returns-then-children-eq0 : goal.returns-then-children-eq0
returns-then-children-eq0 c =
    let small = each-fits c.args.words.now c.type_inv.words in
    let none = sym c.children_in-children.ensures ∙ c.if-children-eq0.true in
    let front = before-points c.args.dims c.args.words.now c.requires.laid small c.args.spot.place none in
    record {
      kind = only-points c.args.dims c.args.words.now c.requires.laid small c.args.spot.place none c.requires.within;
      rank = omega (arith, front, both-before c.args.dims c.args.words.now c.requires.laid small c.args.spot.place c.requires.within);
    }

pub returns-then-children-count_in : goal.returns-then-children-count_in
returns-then-children-count_in c =
    let small = each-fits c.args.words.now c.type_inv.words in
    let all = sym c.children_in-children.ensures ∙ c.if-children-count_in.true ∙ c.count_in.ensures in
    record {
      kind = only-children c.args.dims c.args.words.now c.requires.laid small c.args.spot.place all c.requires.within;
      rank = sym (before-children c.args.dims c.args.words.now c.requires.laid small c.args.spot.place all c.requires.within);
    }
