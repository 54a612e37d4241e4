use Rattle.std.proofs.Common.{◌++◌, length, ap, sym, ◌∙◌, arith}
use Rattle.tour.proofs.Gathered.{all_gathered, next_gathered, next_is}
use Rattle.tour.proofs.calls.rows_between.Goals as goal

pub rows-smaller : goal.rows-smaller
rows-smaller g c =
    let e = next_is c.rows.window.rows c.next.new.self.rows c.in-Some.row c.in-Some.ensures.row c.next.ensures.rest in
    omega (arith, ap (λ rs. length rs) e)

pub rows-preserved : goal.rows-preserved
rows-preserved g c = record {
  listed =
      ap (λ rs. rs ++ c.next.new.self.rows) c.in_ok-push.ensures.items
      ∙ next_gathered c.rows.rows.items c.rows.window.rows c.next.new.self.rows c.in-Some.row c.in-Some.ensures.row c.next.ensures.rest
      ∙ c.rows.invariant.listed;
  cost = c.next.ensures.cost ∙ c.rows.invariant.cost;
}

pub returns-clause-rows : goal.returns-clause-rows
returns-clause-rows g c =
    sym (all_gathered c.rows.rows.items c.rows.window.rows (sym c.in_default.is ∙ c.next.ensures.row))
    ∙ c.rows.invariant.listed
    ∙ c.new-window.ensures.rows
