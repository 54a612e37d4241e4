use Rattle.std.proofs.Common.{◌≡◌, ◌+◌, ◌*◌, ◌++◌, map, take, drop}
use Rattle.ph_specs.specs.TreeRows.{rows_behind}
use Rattle.ph_model.specs.EntryList.{chained}
use Rattle.ph_shape.specs.View.{entry_of}
use Rattle.ph_shape.proofs.rows.+rows.Given as goal

abbrev pub decreases-gather_entry : goal.decreases-gather_entry
decreases-gather_entry g l = 2 * l.level

abbrev pub decreases-gather : goal.decreases-gather
decreases-gather g l = 2 * l.node.now.level + 1

abbrev pub invariant-gather-loop-entry : goal.invariant-gather-loop-entry
invariant-gather-loop-entry g l =
    map g.P.Space.row_of l.rows.items ++ rows_behind l.w l.level (take g.P.Dims.D l.above) (chained (drop l.entry-index (map (entry_of g.P.Dims.D) l.entries)))
    ≡ map g.P.Space.row_of l.fn.rows.items ++ rows_behind l.w l.level (take g.P.Dims.D l.above) (chained (map (entry_of g.P.Dims.D) l.entries))
