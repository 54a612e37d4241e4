use Rattle.std.proofs.Common.{◌≡◌, ◌∙◌, length, get_or, take, sym, ap, subst, arith}
use Rattle.std.specs.Prelude.{None, Err}
use Rattle.ph_specs.specs.Table.{Row, find, IsTable}
use Rattle.ph_specs.specs.Past.{Past}
use Rattle.ph_import.proofs.Puts.{risen, room-left, some-table, some-width, some-max, some-next, visits-part, visits-next, puts-grown, puts-part, puts-few}
use Rattle.ph_import.proofs.rows.put_each.Goals as goal

pub unreachable-requires : goal.unreachable-requires
unreachable-requires g c =
    let k : Past = c.args.kept.now in
    let row : Row = get_or c.args.rows.now c.loop-row.row-index c.row-item.result in
    let full : (find c.loop-row.kept.table c.row.inside.point ≡ None) ×
    (length c.loop-row.kept.table ≡ c.loop-row.kept.max) =
    c.put.ensures.done.full.0 (c.in-Err-Full.is ∙ ap Err c.in-Err-Full.field-0-is) in
    let at : c.row.inside.point ≡ row.point = ap (λ r. r.point) c.row.view_is ∙ ap (λ r. r.point) c.row-item.is in
    let state = c.loop-row.invariant.state in
    let some = take c.loop-row.row-index c.args.rows.now in
    let table = ap (λ u. u.table) state ∙ some-table k some in
    let is_table : IsTable k.width g.row.D k.table = subst (λ u. IsTable u.width g.row.D u.table) c.tree.ensures c.root-root.ensures.table in
    room-left k.width g.row.D k.max k.table c.args.rows.now c.loop-row.row-index c.row-item.result
    (omega (
      arith,
      c.width.ensures,
      c.bits-bits.ensures.value,
      c.bits-bits.ensures.some,
      ap (λ u. u.width) c.tree-2.ensures,
    )) c.requires.points (risen k.width g.row.D k.table is_table)
    c.loop-row-test.true c.requires.room
    (ap (λ u. find u row.point) (sym table) ∙ ap (find c.loop-row.kept.table) (sym at) ∙ full.0)
    (ap (λ u. length u) (sym table) ∙ full.1 ∙ ap (λ u. u.max) state ∙ some-max k some)

pub returns-in-Err-NoMemory-clause-limit : goal.returns-in-Err-NoMemory-clause-limit
returns-in-Err-NoMemory-clause-limit g c =
    let k : Past = c.args.kept.now in
    let width = ap (λ u. u.width) c.loop-row.invariant.state ∙ some-width k (take c.loop-row.row-index c.args.rows.now) in
    visits-part c.args.visits.now c.loop-row.visits c.put.new.visits k.width c.loop-row.kept.width
    c.loop-row.row-index (length c.args.rows.now) c.loop-row.invariant.limit c.put.ensures.limit width c.loop-row-test.true

pub returns-in-Err-NoMemory-clause-visits : goal.returns-in-Err-NoMemory-clause-visits
returns-in-Err-NoMemory-clause-visits g c =
    let k : Past = c.args.kept.now in
    let i = c.loop-row.row-index in
    let some = take c.loop-row.row-index c.args.rows.now in
    let state = c.loop-row.invariant.state in
    puts-part k.width g.row.D k.table c.args.rows.now i c.row-item.result c.args.visits.now c.loop-row.visits c.put.new.visits
    c.loop-row.kept.width c.loop-row.kept.table c.row.inside.point c.loop-row-test.true c.loop-row.invariant.visits c.put.ensures.visits
    (ap (λ u. u.width) state ∙ some-width k some) (ap (λ u. u.table) state ∙ some-table k some)
    (ap (λ r. r.point) c.row.view_is ∙ ap (λ r. r.point) c.row-item.is)

pub loop-row-preserved : goal.loop-row-preserved
loop-row-preserved g c =
    let k : Past = c.args.kept.now in
    let i = c.loop-row.row-index in
    let some = take c.loop-row.row-index c.args.rows.now in
    let state = c.loop-row.invariant.state in
    let width = ap (λ u. u.width) state ∙ some-width k some in
    record {
      state = some-next k c.loop-row.kept c.put.new.self c.forget.new.self c.args.rows.now i c.row-item.result (record { point = c.row.inside.point; value = c.row.inside.value })
          c.loop-row-test.true state c.in-Ok.ensures.done.put c.forget.ensures (c.row.view_is ∙ c.row-item.is);
      visits = puts-grown k.width g.row.D k.table c.args.rows.now i c.row-item.result c.args.visits.now c.loop-row.visits c.put.new.visits
          c.loop-row.kept.width c.loop-row.kept.table c.row.inside.point c.loop-row-test.true c.loop-row.invariant.visits c.put.ensures.visits
          width (ap (λ u. u.table) state ∙ some-table k some) (ap (λ r. r.point) c.row.view_is ∙ ap (λ r. r.point) c.row-item.is);
      limit = visits-next c.args.visits.now c.loop-row.visits c.put.new.visits k.width c.loop-row.kept.width i c.loop-row.invariant.limit c.put.ensures.limit width;
      later = omega (arith, c.loop-row.invariant.later, c.put.ensures.later);
      changes = omega (arith, c.loop-row.invariant.changes, c.put.ensures.done.changes);
      grown = omega (arith, c.loop-row.invariant.grown, c.put.ensures.done.kept);
    }

pub returns-clause-visits : goal.returns-clause-visits
returns-clause-visits g c =
    omega (arith, c.loop-row.invariant.visits, puts-few c.args.kept.now.width g.row.D c.args.kept.now.table c.args.rows.now c.loop-row.row-index)
