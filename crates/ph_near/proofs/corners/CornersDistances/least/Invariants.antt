use Rattle.std.proofs.Common.{◌≡◌, ◌+◌, ◌-◌, ◌*◌, ◌≤◌, drop}
use Rattle.ph_node.specs.Apart.{greatest_square}
use Rattle.ph_near.specs.Far.{corner_of, gaps_above}
use Rattle.ph_near.proofs.corners.CornersDistances.least.Given as goal

abbrev pub invariant-loop-i : goal.invariant-loop-i
invariant-loop-i g l =
    let corner = corner_of l.self.level l.addr l.self.known in
    record {
      value : l.sum + gaps_above l.self.level (drop l.i corner) (drop l.i l.self.center) ≡ gaps_above l.self.level corner l.self.center;
      limit : l.sum + (g.row.D - l.i) * greatest_square ≤ 16 * greatest_square;
    }
