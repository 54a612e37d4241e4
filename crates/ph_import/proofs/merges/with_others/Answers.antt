use Rattle.std.proofs.Common.{◌++◌, sym, ap, ◌∙◌, subst, arith}
use Rattle.std.specs.List.{AllByRecursion as Each}
use Rattle.ph_specs.specs.Coordinate.{IsPoint}
use Rattle.ph_specs.specs.Sets.{table_of}
use Rattle.ph_import.proofs.Merged.{merged, nodes-few_rows, points-both}
use Rattle.ph_import.proofs.merges.with_others.Goals as goal

pub returns-in_err-list_rows-clause-limit : goal.returns-in_err-list_rows-clause-limit
returns-in_err-list_rows-clause-limit g c =
    let t = c.args.tree.now in
    omega (
      arith,
      c.list_rows.ensures.visits,
      nodes-few_rows t.width g.row.D t.table (omega (arith, c.width.ensures, c.bits-bits.ensures.value, c.bits-bits.ensures.some)) c.root-root.ensures.table,
    )

pub returns-in_err-append-clause-limit : goal.returns-in_err-append-clause-limit
returns-in_err-append-clause-limit g c =
    let t = c.args.tree.now in
    omega (
      arith,
      c.list_rows.ensures.visits,
      nodes-few_rows t.width g.row.D t.table (omega (arith, c.width.ensures, c.bits-bits.ensures.value, c.bits-bits.ensures.some)) c.root-root.ensures.table,
    )

pub returns-clause-limit : goal.returns-clause-limit
returns-clause-limit g c =
    let t = c.args.tree.now in
    omega (
      arith,
      c.list_rows.ensures.visits,
      nodes-few_rows t.width g.row.D t.table (omega (arith, c.width.ensures, c.bits-bits.ensures.value, c.bits-bits.ensures.some)) c.root-root.ensures.table,
    )

pub returns-clause-points : goal.returns-clause-points
returns-clause-points g c =
    let t = c.args.tree.now in
    subst (λ rows. Each (λ r. IsPoint t.width g.row.D r.point) rows) (sym (c.in_ok-append.ensures.items ∙ ap (λ rows. rows ++ c.args.others.items) c.in_ok-list_rows.ensures.rows)) (points-both t.width g.row.D t.table c.args.others.items c.root-root.ensures.table c.requires)

pub returns-clause-table : goal.returns-clause-table
returns-clause-table g c =
    let t = c.args.tree.now in
    ap (table_of t.width) (c.in_ok-append.ensures.items ∙ ap (λ rows. rows ++ c.args.others.items) c.in_ok-list_rows.ensures.rows)
    ∙ merged t.width g.row.D t.table c.args.others.items (omega (arith, c.width.ensures, c.bits-bits.ensures.value, c.bits-bits.ensures.some)) c.root-root.ensures.table
