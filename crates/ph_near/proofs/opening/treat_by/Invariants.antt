use Rattle.std.proofs.Common.{◌≡◌, ◌-◌, ◌≤◌, ◌++◌, length, map, drop}
use Rattle.std.specs.BinaryHeap.{heap_items}
use Rattle.ph_specs.specs.Coordinate.{coordinate}
use Rattle.ph_model.specs.EntryList.{entries}
use Rattle.ph_node.specs.Shown.{shown}
use Rattle.ph_near.specs.Nearing.{IsKept}
use Rattle.ph_near.specs.Opening.{opened_items, line_of, AreWaiting}
use Rattle.ph_near.specs.Ranking.{IsRanking}
use Rattle.ph_near.proofs.opening.treat_by.Given as goal

abbrev pub invariant-loop-near : goal.invariant-loop-near
invariant-loop-near g l = record {
  within : l.place ≤ length (entries (shown l.from.node));
  n : l.ranking.n ≡ l.fn.ranking.n;
  ranking : IsRanking l.ranking;
  waits : AreWaiting l.w (map (coordinate l.w) l.center) l.opened l.queue;
  kept : IsKept l.w l.fn.ranking.n (map (coordinate l.w) l.center) (heap_items l.fn.ranking.rows)
      (opened_items l.w l.from ++ line_of l.w l.opened l.fn.queue) (heap_items l.ranking.rows)
      (drop l.place (opened_items l.w l.from) ++ line_of l.w l.opened l.queue);
}

abbrev pub decreases-loop-near : goal.decreases-loop-near
decreases-loop-near g l = length (entries (shown l.from.node)) - l.place
