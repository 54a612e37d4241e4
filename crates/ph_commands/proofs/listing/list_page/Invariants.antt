use Rattle.std.proofs.Common.{◌≡◌, ◌≤◌, ◌+◌, List, ◌++◌, length, take, drop}
use Rattle.ph_io.specs.Giving.{taken_of}
use Rattle.ph_specs.specs.Reply.{Reply}
use Rattle.ph_specs.specs.Engine.{row_replies}
use Rattle.ph_specs.specs.Window.{last_listed}
use Rattle.ph_commands.proofs.Replies.{IsGiven}
use Rattle.ph_commands.proofs.listing.list_page.Given as goal

abbrev pub invariant-rows : goal.invariant-rows
invariant-rows g l =
    let all = take l.initial.page.left l.initial.page.rows in
    let left = take l.page.left l.page.rows in
    record {
      later : g.O.Sink.faults l.initial.out ≤ g.O.Sink.faults l.out;
      given : (tail : List Reply) → IsGiven (row_replies all ++ tail) (row_replies left ++ tail)
          (taken_of (g.O.Sink.written l.initial.out) (g.O.Sink.amount l.initial.out))
          (taken_of (g.O.Sink.written l.out) (g.O.Sink.amount l.out));
      counted : l.count + length left ≡ length all;
      behind : drop l.page.left l.page.rows ≡ drop l.initial.page.left l.initial.page.rows;
      lo : l.page.cursor.lo ≡ l.initial.page.cursor.lo;
      hi : l.page.cursor.hi ≡ l.initial.page.cursor.hi;
      last : last_listed l.page.cursor.last left ≡ last_listed l.initial.page.cursor.last all;
      grows : l.initial.visits ≤ l.visits;
      cost : l.visits + l.page.visits ≡ l.initial.visits + l.initial.page.visits;
    }

abbrev pub decreases-rows : goal.decreases-rows
decreases-rows g l = l.page.left
