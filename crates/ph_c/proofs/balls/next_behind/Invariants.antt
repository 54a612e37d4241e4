-- The rows that were passed come before the last one listed.
use Rattle.std.proofs.Common.{◌≡◌, length}
use Rattle.std.specs.List.{AllByRecursion as Each}
use Rattle.ph_specs.specs.Coordinate.{IsPoint}
use Rattle.ph_c.specs.Balls.{behind}
use Rattle.ph_c.proofs.balls.next_behind.Given as goal

abbrev pub invariant-hits : goal.invariant-hits
invariant-hits g l = record {
  rest : behind l.w l.last l.ball.hits ≡ behind l.w l.last l.fn.ball.hits;
  points : Each (λ h. IsPoint l.w g.row.D h.row.point) l.ball.hits;
}

abbrev pub decreases-hits : goal.decreases-hits
decreases-hits g l = length l.ball.hits
