use Rattle.std.proofs.Common.{sym, subst}
use Rattle.std.specs.List.{AllByRecursion}
use Rattle.ph_specs.specs.Coordinate.{IsPoint}
use Rattle.ph_specs.proofs.laws.Points.{table-points}
use Rattle.ph_join.proofs.join.JoinOf+Dim+D+Row+D+ref+PhTree+D.new.Goals as goal

pub invariant_of-result : goal.invariant_of-result
invariant_of-result g c = record {
  even = c.requires.even;
  points =
      subst (λ w. AllByRecursion (λ r. IsPoint w g.row.D r.point) c.whole.result.rows) c.requires.width
      (subst (λ rows. AllByRecursion (λ r. IsPoint c.args.first.now.width g.row.D r.point) rows)
      (sym c.whole.ensures.rows) (table-points c.args.first.now.width g.row.D c.args.first.now.table
      c.root-root.ensures.table));
  boxes = c.requires.seconds;
}
