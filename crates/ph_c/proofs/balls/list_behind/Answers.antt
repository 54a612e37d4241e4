-- The room is that of the shorter array, and a row more is looked for behind those that were written.
use Rattle.std.proofs.Common.{sym, ◌∙◌, ap}
use Rattle.ph_c.specs.Balls.{behind}
use Rattle.ph_c.specs.Windows.{some_left}
use Rattle.ph_c.proofs.Filling.{one-left, none-left-over}
use Rattle.ph_c.proofs.balls.list_behind.Goals as goal
use Rattle.ph_c.proofs.balls.list_behind.Goals.{in-Some, in-None}

pub returns-clause-listed : goal.returns-clause-listed
returns-clause-listed g c =
    let left = ap some_left (sym c.fill_behind-page.ensures.rest) in
    let hits = behind c.args.w c.args.last.now c.fill_behind-page.new.ball.hits in
    record {
      room = c.room_for-room.result;
      fits = c.room_for-room.ensures;
      points = c.fill_behind-page.ensures.points;
      values = c.fill_behind-page.ensures.values;
      count = c.fill_behind-page.ensures.count;
      more = elim c.match-next_behind.branch [
        | in-Some w ↦ w.page-is ∙ sym (left ∙ one-left hits w.in-Some.field-0 (sym w.in-Some.ensures.row))
        | in-None w ↦ w.page-is ∙ sym (left ∙ none-left-over hits (sym w.in-None.ensures.row))
      ];
    }
