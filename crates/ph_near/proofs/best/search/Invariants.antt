use Rattle.std.proofs.Common.{◌≡◌, map, length}
use Rattle.std.specs.BinaryHeap.{heap_items}
use Rattle.std.specs.List.{AllByRecursion as Each}
use Rattle.std.specs.Option.{option_copied}
use Rattle.ph_specs.specs.Coordinate.{coordinate}
use Rattle.ph_specs.specs.TreeRows.{rows}
use Rattle.ph_model.proofs.lemmas.Searching.{nodes_in}
use Rattle.ph_near.specs.Nearing.{IsNearing}
use Rattle.ph_near.specs.Opening.{IsOpened, line_of, AreWaiting}
use Rattle.ph_near.specs.Ranking.{IsRanking}
use Rattle.ph_near.proofs.best.search.Given as goal

abbrev pub invariant-loop-item : goal.invariant-loop-item
invariant-loop-item g l = record {
  n : l.ranking.n ≡ l.n;
  ranking : IsRanking l.ranking;
  opened : Each (IsOpened l.w g.row.D) l.opened.items;
  waits : AreWaiting l.w (map (coordinate l.w) l.center) l.opened.items l.queue;
  nearing : IsNearing l.w l.n (map (coordinate l.w) l.center) (rows l.w g.row.D (option_copied l.fn.root))
      (heap_items l.ranking.rows) (line_of l.w l.opened.items l.queue) l.fn.visits l.visits;
}

abbrev pub decreases-loop-item : goal.decreases-loop-item
decreases-loop-item g l = length (nodes_in l.w (line_of l.w l.opened.items l.queue))
