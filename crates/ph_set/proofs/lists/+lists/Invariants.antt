use Rattle.std.proofs.Common.{◌≡◌, ◌+◌, ◌*◌, length, take}
use Rattle.ph_model.specs.Lawful.{IsBody}
use Rattle.ph_model.specs.PutTree.{digits_from}
use Rattle.ph_node.specs.Shown.{shown}
use Rattle.ph_set.specs.Parts.{rows_over, nodes_over}
use Rattle.ph_set.specs.Sinks.{AreTaken}
use Rattle.ph_set.proofs.lists.+lists.Given as goal

abbrev pub decreases-list_entry : goal.decreases-list_entry
decreases-list_entry g l = 2 * (shown l.node).level

abbrev pub decreases-list_entries : goal.decreases-list_entries
decreases-list_entries g l = 2 * (shown l.node).level + 1

abbrev pub invariant-list_entries-loop-i : goal.invariant-list_entries-loop-i
invariant-list_entries-loop-i g l = record {
  rows : AreTaken g.S.RowSink.adds l.fn.rows l.rows (rows_over l.w g.P.Dims.D (shown l.node) l.fn.known l.from l.to)
      (rows_over l.w g.P.Dims.D (shown l.node) l.fn.known l.i l.to);
  visits : l.visits + length (nodes_over l.w g.P.Dims.D (shown l.node) l.fn.known l.i l.to) ≡ l.fn.visits + length
      (nodes_over l.w g.P.Dims.D (shown l.node) l.fn.known l.from l.to);
  known : IsBody g.P.Dims.D l.w (take g.P.Dims.D l.known);
  above : digits_from ((shown l.node).level + 1) (take g.P.Dims.D l.known) ≡ digits_from ((shown l.node).level + 1) (take g.P.Dims.D l.fn.known);
}
