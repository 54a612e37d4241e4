use Rattle.std.proofs.Common.{◌≡◌, Bool, refl, sym, subst}
use Rattle.std.specs.Prelude.{Result, Ok, Err}
use Rattle.ph_slot.specs.Desks.{beside_at}
use Rattle.ph_engine.specs.Told.{standing_at}
use Rattle.ph_engine.specs.Feeding.{EndsOr}
use Rattle.ph_engine.specs.ScriptMachine.{whole, told_now, script_machine}
use Rattle.ph_engine.specs.Serving.{ServesLine, ServesEnd}
use Rattle.ph_engine.specs.Standing.{Standing}
use Rattle.ph_engine.specs.Statuses.{read_status}
use Rattle.ph_commands.specs.declared.answer.Stop.{Stop}
use Rattle.ph_engine.proofs.Answered.{known-left, known-still}
use Rattle.ph_engine.proofs.Feeds.{end-none, ends-read}
use Rattle.ph_engine.proofs.Last.{end_status, line-ends}
use Rattle.ph_engine.proofs.run.finish.Given.{Over}
use Rattle.ph_engine.proofs.run.finish.Goals.{After-answer}
use Rattle.ph_engine.proofs.run.finish.Goals as goal

abbrev before : (g : Over) → After-answer g → Standing
before g c = standing_at g.O.Sink g.F.Files c.args.desk.now c.args.eng.now

abbrev after : (g : Over) → After-answer g → Standing
after g c = standing_at g.O.Sink g.F.Files c.answer.new.desk c.answer.new.eng

-- the end of a script, by what its last line leads to
ended : (g : Over) (c : After-answer g) (result : Result Bool Stop) →
    ServesLine c.args.desk.now.limits.now.file_bytes (before g c) c.in-Some.line (after g c) result →
    ServesEnd c.args.desk.now.limits.now.file_bytes (before g c) c.args.lines.now c.args.refused (after g c) (end_status c.args.refused result)
ended g c result = line-ends c.args.desk.now.limits.now.file_bytes (before g c) (after g c) c.args.lines.now c.in-Some.line
    c.args.refused result c.in-Some.ensures.given.1 c.in-Some.ensures.given.0

pub returns-in_default-clause-ends : goal.returns-in_default-clause-ends
returns-in_default-clause-ends g c known fits = (
  known-left known _ _ fits refl,
  λ unended k u.
      let s = whole c.args.eng.now known in
      let b = beside_at g.O.Sink g.F.Files c.args.desk.now in
      let same : told_now known (g.F.Files.files c.args.desk.now.files.now) ≡ known = known-still known _ _ fits refl in
      rw c.read_status.ensures
      (subst (λ x. EndsOr (script_machine c.args.desk.now.limits.now.file_bytes) s unended c.args.refused b b (whole c.args.eng.now x) (read_status c.args.refused)) (sym same)
      (ends-read (script_machine c.args.desk.now.limits.now.file_bytes) s unended c.args.refused _ _ _ c.args.refused
      (end-none (script_machine c.args.desk.now.limits.now.file_bytes) s unended c.args.lines.now c.args.refused _ k
      c.in_default.ensures.given))),
)

pub returns-in-Ok-clause-ends : goal.returns-in-Ok-clause-ends
returns-in-Ok-clause-ends g c = rw (c.read_status-in-Ok.ensures, c.either.ensures)
    (ended g (goal.at.returns-in-Ok-clause-ends g c).After-answer (Ok c.in-Ok.last) c.in-Ok.ensures.answered)

pub returns-in-Err-clause-ends : goal.returns-in-Err-clause-ends
returns-in-Err-clause-ends g c = rw c.stopped.ensures (ended g (goal.at.returns-in-Err-clause-ends g c).After-answer (Err c.in-Err.stop) c.in-Err.ensures.answered)
