use Rattle.std.proofs.Common.{◌≡◌, ◌+◌, ◌*◌, map, length}
use Rattle.ph_specs.specs.Shape.{entries_of, groups, node_below}
use Rattle.ph_shape.specs.Groups.{IsGroup}
use Rattle.ph_shape.specs.View.{entry_of, AreFilled}
use Rattle.ph_shape.proofs.Chains.{with_front}
use Rattle.ph_shape.proofs.shape.+shape.Given as goal

abbrev pub decreases-group_entry_of : goal.decreases-group_entry_of
decreases-group_entry_of g l = 2 * l.place

abbrev pub decreases-node_of : goal.decreases-node_of
decreases-node_of g l = 2 * l.place + 1

abbrev pub invariant-node_of-loop-first : goal.invariant-node_of-loop-first
invariant-node_of-loop-first g l = record {
  made : with_front (map (entry_of g.P.Dims.D) l.entries.items)
      (entries_of l.w l.place (node_below l.w l.place) (groups l.w l.place (map g.P.Space.row_of l.rest))) ≡
      entries_of l.w l.place (node_below l.w l.place) (groups l.w l.place (map g.P.Space.row_of l.rows));
  filled : AreFilled g.P.Dims.D l.entries.items;
  rows : IsGroup l.w g.P.Dims.D (l.place + 1) (map g.P.Space.row_of l.rest);
}

abbrev pub decreases-node_of-loop-first : goal.decreases-node_of-loop-first
decreases-node_of-loop-first g l = length l.rest
