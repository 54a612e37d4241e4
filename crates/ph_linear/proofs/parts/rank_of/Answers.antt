use Rattle.std.proofs.Common.{◌-◌, ℕ, sym, ap, ◌∙◌, arith, false}
use Rattle.std.specs.Prelude.{if◌then◌else◌}
use Rattle.ph_model.specs.Layout.{entries_as}
use Rattle.ph_model.proofs.laws.WordDigits.{each-fits}
use Rattle.ph_linear.proofs.Ranks.{many, children-ones, points-ones, ranked}
use Rattle.ph_linear.proofs.parts.rank_of.Goals as goal

pub overflow_sub-result : goal.overflow_sub-result
overflow_sub-result c =
    let k = points-ones c.args.dims c.args.words.now c.args.i c.requires.record (each-fits c.args.words.now c.type_inv.words)
    (omega (arith, c.requires.within)) in
    omega (arith, k, c.ones_before-children.ensures)

pub returns-then-child : goal.returns-then-child
returns-then-child c =
    let words = c.args.words.now in
    let k : ℕ = c.ones_before-children.result in
    ranked c.args.child (entries_as false c.args.dims words) c.args.i k k (omega (arith, many c.args.dims words, c.requires.within))
    (children-ones c.args.dims words c.args.i c.requires.record (each-fits words c.type_inv.words)
    (omega (arith, c.requires.within)) ∙ sym c.ones_before-children.ensures)
    (sym (ap (λ t. if t then k else c.args.i - k) c.if-child.true))

pub returns-else-child : goal.returns-else-child
returns-else-child c =
    let words = c.args.words.now in
    let k : ℕ = c.ones_before-children.result in
    ranked c.args.child (entries_as false c.args.dims words) c.args.i k (c.args.i - k) (omega (arith, many c.args.dims words, c.requires.within))
    (children-ones c.args.dims words c.args.i c.requires.record (each-fits words c.type_inv.words)
    (omega (arith, c.requires.within)) ∙ sym c.ones_before-children.ensures)
    (sym (ap (λ t. if t then k else c.args.i - k) c.if-child.false))
