use Rattle.std.proofs.Common.{◌≡◌, ◌+◌, ◌-◌, ℕ, List, sym, ap, ◌∙◌, arith, take, true}
use Rattle.std.specs.Prelude.{if◌then◌else◌}
use Rattle.ph_model.specs.NodeSize.{children_in, points_in}
use Rattle.ph_specs.specs.Record.{Read}
use Rattle.ph_model.specs.Layout.{entries_as}
use Rattle.ph_model.proofs.laws.TableFields.{both-counts}
use Rattle.ph_model.proofs.laws.WordDigits.{each-fits}
use Rattle.ph_linear.proofs.Ranks.{ranked}
use Rattle.ph_cube.proofs.Entries.{children}
use Rattle.ph_cube.proofs.Ranks.{length-entries}
use Rattle.ph_cube.proofs.parts.rank_of.Goals as goal

pub overflow_sub-result : goal.overflow_sub-result
overflow_sub-result c =
    let words = c.args.words.now in
    let rs : List Read = entries_as true c.args.dims words in
    let k = children c.args.dims words c.args.addr c.args.i c.requires.record (each-fits words c.type_inv.words) c.requires.limit c.requires.place in
    let b : children_in (take c.args.i rs) + points_in (take c.args.i rs) ≡ c.args.i =
    both-counts rs c.args.i (omega (arith, length-entries c.args.dims words c.requires.record, c.requires.within)) in
    omega (arith, k, b, c.children_before-children.ensures)

pub returns-then-child : goal.returns-then-child
returns-then-child c =
    let words = c.args.words.now in
    let k : ℕ = c.children_before-children.result in
    ranked c.args.child (entries_as true c.args.dims words) c.args.i k k (omega (arith, length-entries c.args.dims words c.requires.record, c.requires.within))
    (children c.args.dims words c.args.addr c.args.i c.requires.record (each-fits words c.type_inv.words)
    c.requires.limit c.requires.place ∙ sym c.children_before-children.ensures)
    (sym (ap (λ t. if t then k else c.args.i - k) c.if-child.true))

pub returns-else-child : goal.returns-else-child
returns-else-child c =
    let words = c.args.words.now in
    let k : ℕ = c.children_before-children.result in
    ranked c.args.child (entries_as true c.args.dims words) c.args.i k (c.args.i - k)
    (omega (arith, length-entries c.args.dims words c.requires.record, c.requires.within))
    (children c.args.dims words c.args.addr c.args.i c.requires.record (each-fits words c.type_inv.words)
    c.requires.limit c.requires.place ∙ sym c.children_before-children.ensures)
    (sym (ap (λ t. if t then k else c.args.i - k) c.if-child.false))
