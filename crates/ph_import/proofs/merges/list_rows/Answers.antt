use Rattle.std.proofs.Common.{◌++◌, ap, ◌∙◌, arith}
use Rattle.ph_import.proofs.Listed.{next-is, one-more}
use Rattle.ph_import.proofs.merges.list_rows.Goals as goal

pub rows-preserved : goal.rows-preserved
rows-preserved g c =
    let e = next-is c.rows.window.rows c.next.new.self.rows c.in-Some.row c.in-Some.ensures.row c.next.ensures.rest in
    record {
      listed = ap (λ rows. rows ++ c.next.new.self.rows) c.in_ok-push.ensures.items ∙
          one-more _ c.rows.rows.items c.rows.window.rows c.next.new.self.rows c.in-Some.row c.rows.invariant.listed e;
      cost = omega (arith, c.next.ensures.cost, c.rows.invariant.cost);
      later = omega (arith, c.rows.invariant.later, c.next.ensures.grows);
    }
