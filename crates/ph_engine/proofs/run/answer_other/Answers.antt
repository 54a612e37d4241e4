use Rattle.std.proofs.Common.{refl}
use Rattle.ph_script.specs.declared.lines.Line.TheVariants.{Text}
use Rattle.ph_script.specs.Meaning.{command_of, bad_reply}
use Rattle.ph_engine.specs.Machine.{met, unmet}
use Rattle.ph_engine.proofs.Answered.{said-nothing, said-done, said-refused, said-stopped, known-done, known-left, done-later, text-reading}
use Rattle.ph_engine.proofs.run.answer_other.Goals as goal

pub returns-in-Ok-None-clause-answered : goal.returns-in-Ok-None-clause-answered
returns-in-Ok-None-clause-answered g c known fits = (
  known-left known _ _ fits refl,
  λ bytes h. record {
    met = unmet;
    said = said-nothing c.args.desk.now.limits.now.file_bytes c.args.eng.now known bytes _ fits
        (text-reading c.args.eng.now c.dims.result bytes (Text c.args.bytes) c.args.bytes _ c.dims.ensures.value
        refl h (rw c.in-Ok-None.field-0-is at c.in-Ok-None.ensures.meaning));
  },
)

pub returns-in-Ok-clause-answered : goal.returns-in-Ok-clause-answered
returns-in-Ok-clause-answered g c known fits = (
  known-done c.args.desk.now.limits.now.file_bytes c.args.eng.now c.exec.new.self (command_of c.in-Ok-Some.command) known _ _ c.exec.result fits c.exec.ensures.done,
  λ bytes h. record {
    met = met c.in-Ok.ensures.done.fault c.in-Ok.ensures.done.found;
    said =
        said-done c.args.desk.now.limits.now.file_bytes c.args.eng.now c.exec.new.self known bytes
        (command_of c.in-Ok-Some.command) _ _ fits c.in-Ok.answer c.is_refused.result c.in-Ok.ensures.done
        (text-reading c.args.eng.now c.dims.result bytes (Text c.args.bytes) c.args.bytes _ c.dims.ensures.value
        refl h (rw c.in-Ok-Some.field-0-is at c.in-Ok-Some.ensures.meaning)) c.is_refused.ensures;
  },
)

pub returns-in-Err-exec-clause-answered : goal.returns-in-Err-exec-clause-answered
returns-in-Err-exec-clause-answered g c known fits = (
  known-done c.args.desk.now.limits.now.file_bytes c.args.eng.now c.exec.new.self (command_of c.in-Ok-Some.command) known _ _ c.exec.result fits c.exec.ensures.done,
  λ bytes h.
      said-stopped c.args.desk.now.limits.now.file_bytes c.args.eng.now c.exec.new.self known bytes (command_of c.in-Ok-Some.command) _ _ fits c.in-Err-exec.stop
      (λ met. text-reading c.args.eng.now c.dims.result bytes (Text c.args.bytes) c.args.bytes _ c.dims.ensures.value
      refl h (rw c.in-Ok-Some.field-0-is at c.in-Ok-Some.ensures.meaning))
      c.in-Err-exec.ensures.done,
)

pub returns-in-Err-clause-answered : goal.returns-in-Err-clause-answered
returns-in-Err-clause-answered g c known fits = (
  known-left known _ _ fits refl,
  λ bytes h.
      said-refused c.args.desk.now.limits.now.file_bytes c.args.eng.now known bytes (bad_reply c.in-Err.bad) _ _ fits
      (record { files = refl; filings = refl; visits = refl; changes = refl })
      (text-reading c.args.eng.now c.dims.result bytes (Text c.args.bytes) c.args.bytes _ c.dims.ensures.value refl h c.in-Err.ensures.meaning)
      c.refuse.result (rw (← c.bad_reply.ensures) c.refuse.ensures.told) (rw (← c.bad_reply.ensures) c.refuse.ensures.front),
)

pub returns-in-Ok-clause-filings : goal.returns-in-Ok-clause-filings
returns-in-Ok-clause-filings g c = done-later c.args.desk.now.limits.now.file_bytes c.args.eng.now c.exec.new.self
    (command_of c.in-Ok-Some.command) _ _ c.exec.result c.exec.ensures.done

pub returns-in-Err-exec-clause-filings : goal.returns-in-Err-exec-clause-filings
returns-in-Err-exec-clause-filings g c = done-later c.args.desk.now.limits.now.file_bytes c.args.eng.now c.exec.new.self
    (command_of c.in-Ok-Some.command) _ _ c.exec.result c.exec.ensures.done
