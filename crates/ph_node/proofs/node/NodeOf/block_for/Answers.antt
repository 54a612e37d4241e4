use Rattle.std.proofs.Common.{◌≡◌, ◌-◌, length, arith, ap, sym, subst, ◌∙◌}
use Rattle.ph_specs.specs.Pack.{is_cube, values}
use Rattle.ph_specs.specs.Record.{first_in}
use Rattle.ph_model.proofs.laws.Layouts.{fits-first, first-made}
use Rattle.ph_model.proofs.lemmas.LayoutTables.{children-few}
use Rattle.ph_bits.specs.Block.{room_of}
use Rattle.ph_bits.specs.Edits.{words_wanted}
use Rattle.ph_node.specs.Recorded.{IsLaidOut}
use Rattle.ph_node.proofs.Fitting.{few}
use Rattle.ph_node.proofs.Laid.{record-laid}
use Rattle.ph_node.proofs.Lengths.{record-long}
use Rattle.ph_node.proofs.node.NodeOf.block_for.Given.{Over}
use Rattle.ph_node.proofs.node.NodeOf.block_for.Goals as goal
use Rattle.ph_node.proofs.node.NodeOf.block_for.Goals.{After-count}

pub exact_block-requires-clause-entries : goal.exact_block-requires-clause-entries
exact_block-requires-clause-entries g c = rw c.count.ensures (few _ _ _ c.requires.rise)

-- how many words are wanted, as they were counted
wanted : (g : Over) (c : After-count g) →
    words_wanted g.P.Dims.D c.args.level (length (g.E.Entries.list c.args.entries.now)) (length (values (g.E.Entries.list c.args.entries.now))) ≡
    words_wanted g.P.Dims.D c.args.level c.count.result (c.count.result - c.count_children-children.result)
wanted g c =
    let es = g.E.Entries.list c.args.entries.now in
    let points : length (values es) ≡ c.count.result - c.count_children-children.result =
    omega (arith, c.count.ensures, c.count_children-children.ensures.value, children-few es) in
    λ i. words_wanted g.P.Dims.D c.args.level (sym c.count.ensures i) (points i)

pub write-requires-clause-room : goal.write-requires-clause-room
write-requires-clause-room g c =
    omega (arith, wanted g (goal.at.write-requires-clause-room g c).After-count, ap room_of c.in_ok-words.ensures)

pub returns-clause-room : goal.returns-clause-room
returns-clause-room g c =
    let es = g.E.Entries.list c.args.entries.now in
    let long = ap length c.write.ensures.words ∙ record-long g.P.Dims.D c.args.level es c.requires.rise in
    omega (
      arith,
      wanted g (goal.at.returns-clause-room g c).After-count,
      ap room_of c.in_ok-words.ensures,
      c.write.ensures.places.0,
      long,
      ap (λ b. b.spare) c.of.ensures,
      c.count_children-children.ensures.value,
    )

pub returns-clause-laid : goal.returns-clause-laid
returns-clause-laid g c bottom =
    let r = c.requires in
    subst (IsLaidOut g.P.Dims.D) (sym (ap (λ b. b.words) c.of.ensures ∙ c.write.ensures.words))
    (record-laid g.P.Dims.D c.args.level (g.E.Entries.list c.args.entries.now) r.some r.few r.low r.entries bottom r.rise)

pub returns-clause-children : goal.returns-clause-children
returns-clause-children g c =
    let r = c.requires in
    let es = g.E.Entries.list c.args.entries.now in
    ap (λ ws. (first_in ws).children) (ap (λ b. b.words) c.of.ensures ∙ c.write.ensures.words)
    ∙ ap (λ t. t.children) (first-made (is_cube g.P.Dims.D c.args.level (length es)) g.P.Dims.D c.args.level es r.rise
    (fits-first g.P.Dims.D c.args.level es r.few (omega (arith, r.low)) r.rise))
