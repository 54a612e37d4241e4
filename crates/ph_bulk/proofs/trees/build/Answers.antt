use Rattle.std.proofs.Common.{◌≡◌, ◌≤◌, length, arith, ap, sym, subst, ◌∙◌}
use Rattle.std.specs.Prelude.{Some}
use Rattle.std.proofs.lemmas.Grind.{common_steps}
use Rattle.ph_specs.specs.TreeRows.{rows}
use Rattle.ph_model.specs.Lawful.{IsLawful}
use Rattle.ph_bulk.proofs.Rooted.{root-is, root-group}
use Rattle.ph_bulk.proofs.trees.build.Goals as goal

pub node_of-requires-clause-rows : goal.node_of-requires-clause-rows
node_of-requires-clause-rows g c = root-group c.args.w g.row.D c.bits-bits.result c.args.rows.now c.bits-bits.ensures.value (omega arith) c.requires.table

pub node_of-requires-clause-many : goal.node_of-requires-clause-many
node_of-requires-clause-many g c =
    let l : 1 ≤ length c.args.rows.now = grind (arith, common_steps) in
    (root-is c.args.w g.row.D c.bits-bits.result c.args.rows.now c.bits-bits.ensures.value (omega arith) l c.requires.table).many

pub node_of-requires-clause-lawful : goal.node_of-requires-clause-lawful
node_of-requires-clause-lawful g c =
    let l : 1 ≤ length c.args.rows.now = grind (arith, common_steps) in
    (root-is c.args.w g.row.D c.bits-bits.result c.args.rows.now c.bits-bits.ensures.value (omega arith) l c.requires.table).chain

pub returns-in_err-root-clause-most : goal.returns-in_err-root-clause-most
returns-in_err-root-clause-most g c =
    let l : 1 ≤ length c.args.rows.now = grind (arith, common_steps) in
    let r = root-is c.args.w g.row.D c.bits-bits.result c.args.rows.now c.bits-bits.ensures.value (omega arith) l c.requires.table in
    omega (arith, c.node_of.ensures.most, r.size)

pub adopt-requires-2 : goal.adopt-requires-2
adopt-requires-2 g c =
    let l : 1 ≤ length c.args.rows.now = grind (arith, common_steps) in
    let r = root-is c.args.w g.row.D c.bits-bits.result c.args.rows.now c.bits-bits.ensures.value (omega arith) l c.requires.table in
    let count : length c.args.rows.now ≡ length (rows c.args.w g.row.D (Some c.in_ok-root.root)) =
    ap (λ ts. length ts) (sym r.rows_are) ∙ ap (λ n. length (rows c.args.w g.row.D (Some n)))
    (sym c.in_ok-root.ensures.node) in (
      omega arith,
      (
        omega arith,
        (
          c.requires.some,
          (
            c.requires.dims,
            (
              subst (λ n. IsLawful c.args.w g.row.D (Some n)) (sym c.in_ok-root.ensures.node) r.lawful,
              omega (arith, count),
            ),
          ),
        ),
      ),
    )

pub returns-clause-table : goal.returns-clause-table
returns-clause-table g c =
    let l : 1 ≤ length c.args.rows.now = grind (arith, common_steps) in
    let r = root-is c.args.w g.row.D c.bits-bits.result c.args.rows.now c.bits-bits.ensures.value (omega arith) l c.requires.table in
    c.adopt-2.ensures.table ∙ ap (λ n. rows c.args.w g.row.D (Some n)) c.in_ok-root.ensures.node ∙ r.rows_are

pub returns-clause-nodes : goal.returns-clause-nodes
returns-clause-nodes g c =
    let l : 1 ≤ length c.args.rows.now = grind (arith, common_steps) in
    let r = root-is c.args.w g.row.D c.bits-bits.result c.args.rows.now c.bits-bits.ensures.value (omega arith) l c.requires.table in
    omega (arith, c.in_ok-root.ensures.nodes, r.size)

pub returns-clause-most : goal.returns-clause-most
returns-clause-most g c =
    let l : 1 ≤ length c.args.rows.now = grind (arith, common_steps) in
    let r = root-is c.args.w g.row.D c.bits-bits.result c.args.rows.now c.bits-bits.ensures.value (omega arith) l c.requires.table in
    omega (arith, c.in_ok-root.ensures.nodes, r.size)
