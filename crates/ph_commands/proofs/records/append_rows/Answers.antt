use Rattle.std.proofs.Common.{arith, refl}
use Rattle.ph_commands.proofs.Shelves.{one-written, all-written}
use Rattle.ph_commands.proofs.Listed.{none-left}
use Rattle.ph_commands.proofs.Replies.{next-is}
use Rattle.ph_commands.proofs.records.append_rows.Goals as goal

pub rows-preserved : goal.rows-preserved
rows-preserved g c =
    let e = next-is c.rows.window.rows c.next.new.self.rows c.in-Some.row c.in-Some.ensures.row c.next.ensures.rest in
    record {
      written = one-written _ c.rows.window.rows c.next.new.self.rows c.in-Some.row _ _ _ c.rows.invariant.written e c.in_ok-append_row.ensures;
      cost = omega (arith, c.next.ensures.cost, c.rows.invariant.cost);
      later = omega (arith, c.rows.invariant.later, c.next.ensures.grows);
    }

pub returns-in_err-append_row-clause-few : goal.returns-in_err-append_row-clause-few
returns-in_err-append_row-clause-few g c = omega (arith, c.rows.invariant.cost, c.next.ensures.cost, c.whole-window.ensures.visits)

pub returns-clause-appended : goal.returns-clause-appended
returns-clause-appended g c =
    rw (← c.whole-window.ensures.rows) (all-written _ c.rows.window.rows _ _ c.rows.invariant.written (none-left c.rows.window.rows c.in_default.ensures.row))

pub returns-clause-few : goal.returns-clause-few
returns-clause-few g c = omega (arith, c.rows.invariant.cost, c.next.ensures.cost, c.whole-window.ensures.visits)

pub returns-clause-all : goal.returns-clause-all
returns-clause-all g c = omega (arith, c.rows.invariant.cost, c.next.ensures.cost, c.whole-window.ensures.visits, c.in_default.ensures.end refl)
