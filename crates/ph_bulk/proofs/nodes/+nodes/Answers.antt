use Rattle.std.proofs.Common.{rules, ◌<◌, ◌≤◌, ◌∷◌, [], ◌++◌, length, reverse, arith, refl, ap, sym, subst, ◌∙◌}
use Rattle.ph_specs.specs.Pack.{children}
use Rattle.ph_specs.specs.Record.{first_in, unpacked}
use Rattle.ph_model.proofs.laws.Unpacked.{child_nodes}
use Rattle.ph_node.specs.Recorded.{IsLaidOut}
use Rattle.ph_node.specs.Children.{nodes_of, in_child}
use Rattle.ph_node.proofs.ReversedChildren.{nodes-first, nodes-long, nodes-turned}
use Rattle.ph_bulk.specs.Parts.{chain_of}
use Rattle.ph_bulk.proofs.NodeParts.{are-parts, same-parts, adds-none, adds-child}
use Rattle.ph_bulk.proofs.nodes.+nodes.Goals as goal

pub put_children-loop-part-preserved-in_default : goal.put_children-loop-part-preserved-in_default
put_children-loop-part-preserved-in_default g t c =
    let l : c.loop-part.part-index < length c.args.parts.now = omega arith in
    let none = adds-none g.P.Space.row_of c.args.w g.P.Dims.D c.args.place c.args.parts.now c.loop-part.part-index c.part-item.result l c.part-item.is
    c.requires.parts c.in_default.not-Some in
    record {
      children = c.loop-part.invariant.children ∙ sym none.0;
      words = c.loop-part.invariant.words;
      spare = c.loop-part.invariant.spare;
      changes = omega (arith, c.loop-part.invariant.changes, none.1);
    }

pub put_children-node_of-requires : goal.put_children-node_of-requires
put_children-node_of-requires g t c κs within =
    let l : c.loop-part.part-index < length c.args.parts.now = omega arith in
    let child = adds-child g.P.Space.row_of c.args.w g.P.Dims.D c.args.place c.args.parts.now c.loop-part.part-index c.part-item.result l c.part-item.is
    c.requires.parts c.in-Some.level c.in-Some.is c.requires.lawful in
    let lower : c.in-Some.level < c.args.w = omega (arith, child.lower, c.requires.place) in
    (omega (arith, child.lower, c.decreases), search (rules, within, child.group, child.many, child.lawful, lower))

pub put_children-returns-in_err-node-clause-most : goal.put_children-returns-in_err-node-clause-most
put_children-returns-in_err-node-clause-most g t c =
    let l : c.loop-part.part-index < length c.args.parts.now = omega arith in
    let child = adds-child g.P.Space.row_of c.args.w g.P.Dims.D c.args.place c.args.parts.now c.loop-part.part-index c.part-item.result l c.part-item.is
    c.requires.parts c.in-Some.level c.in-Some.is c.requires.lawful in
    omega (arith, c.loop-part.invariant.changes, c.node_of.ensures.most, child.size, child.most)

pub put_children-loop-part-init : goal.put_children-loop-part-init
put_children-loop-part-init g t c = record {
  words = refl;
  children = ap (λ xs. nodes_of (reverse xs)) c.requires.none;
  spare = omega (arith, ap (λ xs. length xs) c.requires.none);
  changes = omega arith;
}

pub put_children-put_first-requires-clause-spare : goal.put_children-put_first-requires-clause-spare
put_children-put_first-requires-clause-spare g t c =
    let l : c.loop-part.part-index < length c.args.parts.now = omega arith in
    let child = adds-child g.P.Space.row_of c.args.w g.P.Dims.D c.args.place c.args.parts.now c.loop-part.part-index c.part-item.result l c.part-item.is
    c.requires.parts c.in-Some.level c.in-Some.is c.requires.lawful in
    let many = nodes-turned c.loop-part.block.values in
    omega (arith, c.loop-part.invariant.spare, c.requires.room, many, ap (λ xs. length xs) c.loop-part.invariant.children, child.room)

pub put_children-loop-part-preserved : goal.put_children-loop-part-preserved
put_children-loop-part-preserved g t c =
    let l : c.loop-part.part-index < length c.args.parts.now = omega arith in
    let child = adds-child g.P.Space.row_of c.args.w g.P.Dims.D c.args.place c.args.parts.now c.loop-part.part-index c.part-item.result l c.part-item.is
    c.requires.parts c.in-Some.level c.in-Some.is c.requires.lawful in
    record {
      words = c.put_first.ensures.same.0 ∙ c.loop-part.invariant.words;
      children = ap (λ xs. nodes_of (reverse xs)) c.put_first.ensures.values ∙ nodes-first (in_child c.in_ok-node.node) c.loop-part.block.values
          ∙ (λ j. c.loop-part.invariant.children j ++ c.in_ok-node.ensures.node j ∷ []) ∙ sym child.children;
      spare = omega (arith, c.loop-part.invariant.spare, c.put_first.ensures.spare, ap (λ xs. length xs) c.put_first.ensures.values);
      changes = omega (arith, c.loop-part.invariant.changes, c.in_ok-node.ensures.nodes, child.size);
    }

pub node_of-invariant_of-entries-clause-ready : goal.node_of-invariant_of-entries-clause-ready
node_of-invariant_of-entries-clause-ready g t c =
    let made = are-parts g.P.Space.row_of c.args.w g.P.Dims.D c.args.place c.as_slice.result.now c.as_slice.ensures.value c.in_ok-parts.ensures.parts
    c.in_ok-parts.ensures.entries c.requires.dims (omega (arith, c.requires.place)) c.requires.many c.requires.lawful in
    made.ready

pub node_of-block_for-requires-clause-entries : goal.node_of-block_for-requires-clause-entries
node_of-block_for-requires-clause-entries g t c =
    let made = are-parts g.P.Space.row_of c.args.w g.P.Dims.D c.args.place c.as_slice.result.now c.as_slice.ensures.value c.in_ok-parts.ensures.parts
    c.in_ok-parts.ensures.entries c.requires.dims (omega (arith, c.requires.place)) c.requires.many c.requires.lawful in
    made.some

pub node_of-block_for-requires-clause-rise : goal.node_of-block_for-requires-clause-rise
node_of-block_for-requires-clause-rise g t c =
    let made = are-parts g.P.Space.row_of c.args.w g.P.Dims.D c.args.place c.as_slice.result.now c.as_slice.ensures.value c.in_ok-parts.ensures.parts
    c.in_ok-parts.ensures.entries c.requires.dims (omega (arith, c.requires.place)) c.requires.many c.requires.lawful in
    made.rise

pub node_of-put_children-requires : goal.node_of-put_children-requires
node_of-put_children-requires g t c κs within =
    let made = are-parts g.P.Space.row_of c.args.w g.P.Dims.D c.args.place c.as_slice.result.now c.as_slice.ensures.value c.in_ok-parts.ensures.parts
    c.in_ok-parts.ensures.entries c.requires.dims (omega (arith, c.requires.place)) c.requires.many c.requires.lawful in
    let again = same-parts made c.as_slice.ensures.value c.as_slice-2.ensures.value in
    let room : length (child_nodes (chain_of g.P.Space.row_of c.args.w c.args.place c.as_slice-2.result.now)) ≤ c.in_ok-block.block.spare =
    omega (arith, again.room, ap children again.flats, ap children made.flats, c.in_ok-block.ensures.room) in
    (omega (arith, c.decreases), search (rules, within, again.parts, again.lawful, room, c.in_ok-block.ensures.none))

pub node_of-assemble-requires-clause-record : goal.node_of-assemble-requires-clause-record
node_of-assemble-requires-clause-record g t c =
    let made = are-parts g.P.Space.row_of c.args.w g.P.Dims.D c.args.place c.as_slice.result.now c.as_slice.ensures.value c.in_ok-parts.ensures.parts
    c.in_ok-parts.ensures.entries c.requires.dims (omega (arith, c.requires.place)) c.requires.many c.requires.lawful in
    subst (IsLaidOut g.P.Dims.D) (sym c.put_children.ensures.words) (c.in_ok-block.ensures.laid made.bottom)

pub node_of-assemble-requires-clause-children : goal.node_of-assemble-requires-clause-children
node_of-assemble-requires-clause-children g t c =
    let made = are-parts g.P.Space.row_of c.args.w g.P.Dims.D c.args.place c.as_slice.result.now c.as_slice.ensures.value c.in_ok-parts.ensures.parts
    c.in_ok-parts.ensures.entries c.requires.dims (omega (arith, c.requires.place)) c.requires.many c.requires.lawful in
    let again = same-parts made c.as_slice.ensures.value c.as_slice-2.ensures.value in
    sym (nodes-long c.put_children.new.block.values) ∙ ap (λ xs. length xs) c.in_ok-put_children.ensures.children ∙ again.room
    ∙ ap children (again.flats ∙ sym made.flats) ∙ sym c.in_ok-block.ensures.children ∙ ap (λ ws. (first_in ws).children) (sym c.put_children.ensures.words)

pub node_of-returns-clause-node : goal.node_of-returns-clause-node
node_of-returns-clause-node g t c =
    let made = are-parts g.P.Space.row_of c.args.w g.P.Dims.D c.args.place c.as_slice.result.now c.as_slice.ensures.value c.in_ok-parts.ensures.parts
    c.in_ok-parts.ensures.entries c.requires.dims (omega (arith, c.requires.place)) c.requires.many c.requires.lawful in
    let again = same-parts made c.as_slice.ensures.value c.as_slice-2.ensures.value in
    c.assemble.ensures.node
    ∙ ap (λ ws. unpacked g.P.Dims.D ws (nodes_of c.put_children.new.block.values)) (c.put_children.ensures.words ∙ c.in_ok-block.ensures.words)
    ∙ made.node (nodes_of c.put_children.new.block.values) (c.in_ok-put_children.ensures.children ∙ ap child_nodes again.entries)
