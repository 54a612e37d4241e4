use Rattle.std.proofs.Common.{◌≡◌, ◌+◌, ◌*◌, ◌-◌, ◌≤◌}
use Rattle.ph_cube.specs.Cube.{twos_in}
use Rattle.ph_cube.proofs.parts.children_before.Given as goal

abbrev pub invariant-loop-left : goal.invariant-loop-left
invariant-loop-left l =
    record {
      place : 1 ≤ l.place;
      at : 32 * (l.place - 1) * 2 + l.left ≡ l.fn.n * 2;
      twos : l.twos ≡ twos_in l.fn.words 64 (32 * (l.place - 1));
      few : l.twos ≤ 32 * (l.place - 1);
    }

abbrev pub decreases-loop-left : goal.decreases-loop-left
decreases-loop-left l = l.left
