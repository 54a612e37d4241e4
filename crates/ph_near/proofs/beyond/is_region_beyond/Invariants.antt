use Rattle.std.proofs.Common.{◌≡◌, ◌+◌, ◌-◌, ◌*◌, ◌≤◌, drop, length}
use Rattle.ph_node.specs.Apart.{greatest_square}
use Rattle.ph_near.specs.Far.{corner_of, gaps_squared}
use Rattle.ph_near.proofs.beyond.is_region_beyond.Given as goal

abbrev pub invariant-loop-i : goal.invariant-loop-i
invariant-loop-i l =
    let corner = corner_of l.level l.addr l.known in
    record {
      value : l.sum + gaps_squared (l.level - 1) (drop l.i corner) (drop l.i l.center) ≡ gaps_squared (l.level - 1) corner l.center;
      within : l.sum ≤ l.limit;
      limit : l.sum + (length l.known - l.i) * greatest_square ≤ 16 * greatest_square;
    }
