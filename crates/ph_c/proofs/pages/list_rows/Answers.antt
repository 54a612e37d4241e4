-- The room is that of the shorter array, and a row more is looked for behind those that were written.
use Rattle.std.proofs.Common.{sym, ◌∙◌, ap}
use Rattle.ph_c.specs.Windows.{some_left}
use Rattle.ph_c.proofs.Filling.{one-left, none-left-over}
use Rattle.ph_c.proofs.pages.list_rows.Goals as goal
use Rattle.ph_c.proofs.pages.list_rows.Goals.{in-Some, in-None}

pub returns-clause-listed : goal.returns-clause-listed
returns-clause-listed g c =
    let left = ap some_left (sym c.fill-page.ensures.rest) in
    record {
      room = c.room_for-room.result;
      fits = c.room_for-room.ensures;
      points = c.fill-page.ensures.points;
      values = c.fill-page.ensures.values;
      count = c.fill-page.ensures.count;
      more = elim c.match-next.branch [
        | in-Some w ↦ w.page-is ∙ sym (left ∙ one-left c.fill-page.new.window.rows w.in-Some.field-0 (sym w.in-Some.ensures.row))
        | in-None w ↦ w.page-is ∙ sym (left ∙ none-left-over c.fill-page.new.window.rows (sym w.in-None.ensures.row))
      ];
    }
