use Rattle.std.proofs.Common.{◌≡◌, ℕ, ◌≤◌, ◌∙◌, get_or, refl, sym, ap, arith}
use Rattle.std.specs.Prelude.{is_some, not}
use Rattle.ph_specs.specs.Table.{Row, has}
use Rattle.ph_tree.specs.Tree.{TreeTable}
use Rattle.ph_import.proofs.Puts.{IsRisen, risen, looks-grown, looks-part, looks-few}
use Rattle.ph_import.proofs.Counts.{counted-old, counted-new}
use Rattle.ph_import.proofs.room.count_new.Goals.{then-is_none+in_ok-insert, else-is_none}
use Rattle.ph_import.proofs.room.count_new.Goals as goal

pub loop-row-preserved : goal.loop-row-preserved
loop-row-preserved g c =
    let t : TreeTable = c.args.tree.now in
    let i : ℕ = c.loop-row.row-index in
    let row : Row = get_or c.args.rows.now i c.row-item.result in
    let at : c.row.inside.point ≡ row.point = ap (λ r. r.point) c.row.view_is ∙ ap (λ r. r.point) c.row-item.is in
    let found : has t.table row.point ≡ not c.is_none.result = ap (has t.table) (sym at) ∙ ap is_some (sym c.get.ensures.found) ∙ c.is_none.ensures in
    let positive : 1 ≤ t.width = omega (arith, c.width.ensures, c.bits-bits.ensures.value, c.bits-bits.ensures.some) in
    let good : IsRisen t.width g.row.D t.table = risen t.width g.row.D t.table c.root-root.ensures.table in
    record {
      counted = elim c.if-is_none.branch [
        | then-is_none+in_ok-insert w ↦
            rw w.new_points-is
            (counted-new t.width g.row.D t.table c.args.rows.now i c.row-item.result c.loop-row.new_points
            w.insert.new.self w.in_ok-insert.field-0 positive c.requires.points good c.loop-row-test.true
            (found ∙ ap not w.if-is_none.true) c.loop-row.invariant.counted
            w.as_slice.result (w.as_slice.ensures.value ∙ at) w.in_ok-insert.ensures.updates w.in_ok-insert.ensures.added w.in_ok-insert.ensures.len)
        | else-is_none w ↦
            rw w.new_points-is
            (counted-old t.width g.row.D t.table c.args.rows.now i c.row-item.result c.loop-row.new_points positive
            c.requires.points good c.loop-row-test.true (found ∙ ap not w.if-is_none.false) c.loop-row.invariant.counted
            (record { ref_ptr = c.args.rows.ref_ptr; now = row.point }) refl)
      ];
      visits = looks-grown t.width g.row.D t.table c.args.rows.now i c.row-item.result c.args.visits.now c.loop-row.visits
          c.get.new.visits c.row.inside.point c.loop-row-test.true c.loop-row.invariant.visits c.get.ensures.visits at;
      limit = omega (arith, c.get.ensures.limit, c.loop-row.invariant.limit);
      later = omega (arith, c.get.ensures.visits, c.loop-row.invariant.later);
    }

-- memory was missing for a point of the set
pub returns-in_err-insert-clause-visits : goal.returns-in_err-insert-clause-visits
returns-in_err-insert-clause-visits g c =
    let t : TreeTable = c.args.tree.now in
    let i : ℕ = c.loop-row.row-index in
    let at : c.row.inside.point ≡ (get_or c.args.rows.now i c.row-item.result).point = ap (λ r. r.point) c.row.view_is ∙ ap (λ r. r.point) c.row-item.is in
    looks-part t.width g.row.D t.table c.args.rows.now i c.row-item.result c.args.visits.now c.loop-row.visits c.get.new.visits
    c.row.inside.point c.loop-row-test.true c.loop-row.invariant.visits c.get.ensures.visits at

pub returns-clause-visits : goal.returns-clause-visits
returns-clause-visits g c =
    omega (arith, c.loop-row.invariant.visits, looks-few c.args.tree.now.width g.row.D c.args.tree.now.table c.args.rows.now c.loop-row.row-index)
