use Rattle.std.proofs.Common.{◌≡◌, ◌-◌, false, arith, ap, sym, ◌∙◌}
use Rattle.ph_specs.specs.Record.{entries_in}
use Rattle.ph_model.proofs.laws.WordDigits.{each-fits}
use Rattle.ph_bits.specs.Packed.{rank_at}
use Rattle.ph_node.proofs.Full.{both-before}
use Rattle.ph_node.proofs.records.rank.Goals as goal

pub overflow_sub-result : goal.overflow_sub-result
overflow_sub-result c =
    omega (
      arith,
      both-before c.args.dims c.args.words.now c.requires.laid
          (each-fits c.args.words.now c.type_inv.words) c.args.spot.place c.requires.within,
      c.children_before-children.ensures,
    )

pub returns-else-child : goal.returns-else-child
returns-else-child c =
    let rs = entries_in c.args.dims c.args.words.now in
    let i = c.args.spot.place in
    let points : i - c.children_before-children.result ≡ rank_at false rs i =
    omega (
      arith,
      both-before c.args.dims c.args.words.now c.requires.laid
          (each-fits c.args.words.now c.type_inv.words) i c.requires.within,
      c.children_before-children.ensures,
    ) in
    points ∙ sym (ap (λ b. rank_at b rs i) c.if-child.false)
