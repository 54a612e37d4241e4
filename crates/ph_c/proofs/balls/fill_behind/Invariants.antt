-- What has been written so far, and what is left of the ball.
use Rattle.std.specs.List.{AllByRecursion as Each}
use Rattle.ph_specs.specs.Coordinate.{IsPoint}
use Rattle.ph_c.specs.Balls.{behind}
use Rattle.ph_c.proofs.Filling.{Filling}
use Rattle.ph_c.proofs.balls.fill_behind.Given as goal

abbrev pub invariant-loop-i : goal.invariant-loop-i
invariant-loop-i g l = record {
  filling : Filling g.row.D (behind l.w l.last l.fn.ball.hits) l.fn.values l.fn.points l.i (behind l.w l.last l.ball.hits) l.values l.points;
  inside : Each (λ h. IsPoint l.w g.row.D h.row.point) l.ball.hits;
}
