use Rattle.std.proofs.Common.{arith, rules, ap, ◌∙◌, ◌%◌, ◌<◌, ◌+◌, ◌^◌}
use Rattle.ph_slot.specs.AnySlots.{any_slot}
use Rattle.ph_tree.specs.Stats.{stats_of}
use Rattle.ph_commands.specs.Working.{nodes_of}
use Rattle.ph_engine.proofs.Soaks.{HasSoaked, all_drawn, soak_clean, soak_cut, sizes_line_is}
use Rattle.ph_engine.proofs.soaking.soak.Given.{Over}
use Rattle.ph_engine.proofs.soaking.soak.Goals.{After-as_bytes}
use Rattle.ph_engine.proofs.soaking.soak.Goals as goal

pub exec_all-requires-clause-drawn : goal.exec_all-requires-clause-drawn
exec_all-requires-clause-drawn g c = rw c.new-commands.ensures.commands (all_drawn c.args.n (c.args.start % 2 ^ 31))

-- what is done before the line is written
has_soaked : (g : Over) (c : After-as_bytes g) → HasSoaked c.args.desk.now.limits.now.file_bytes c.args.n c.args.start c.args.eng.now c.exec_all.new.eng
    c.as_bytes.result.now c.args.desk.now.visits.now c.sizes-sizes.new.visits c.args.desk.now.changes.now c.exec_all.new.desk.changes.now
has_soaked g c =
    let small : c.taken.result < 2 ^ 64 = search rules in
    record {
      bytes = c.exec_all.new.replies;
      counted_visits = c.exec_all.new.desk.visits.now;
      soaked = rw (c.open_points.ensures, c.new-commands.ensures.commands, c.new-replies.ensures) at c.in-Ok.ensures.soaked;
      fits = omega (arith, small, c.taken.ensures);
      sized = c.sizes-sizes.ensures.visits ∙ ap (λ s. c.exec_all.new.desk.visits.now + nodes_of s) c.slot.ensures;
      said = c.as_bytes.ensures.value ∙ c.as_str.ensures.value ∙ c.soak_line-line.ensures ∙
          sizes_line_is c.args.n (stats_of c.sizes-sizes.result) (any_slot c.slot.result.now) c.exec_all.new.eng.a c.taken.result
          c.exec_all.new.replies c.sizes-sizes.ensures.sizes c.slot.ensures c.taken.ensures;
    }

pub returns-in-Ok-write_piece-clause-done : goal.returns-in-Ok-write_piece-clause-done
returns-in-Ok-write_piece-clause-done g c =
    soak_clean (has_soaked g (goal.at.returns-in-Ok-write_piece-clause-done g c).After-as_bytes) (rw c.in-Ok.ensures.out at c.in-Ok-write_piece.ensures.told)

pub returns-in-Err-clause-done : goal.returns-in-Err-clause-done
returns-in-Err-clause-done g c =
    soak_cut (has_soaked g (goal.at.returns-in-Err-clause-done g c).After-as_bytes) (rw c.in-Ok.ensures.out at c.in-Err.ensures.front)
