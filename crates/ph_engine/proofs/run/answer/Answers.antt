use Rattle.std.proofs.Common.{refl}
use Rattle.ph_specs.specs.Reply.{Reply}
use Rattle.ph_script.specs.Meaning.{command_of}
use Rattle.ph_engine.specs.Machine.{met}
use Rattle.ph_engine.proofs.Answered.{said-done, said-refused, said-stopped, known-done, known-left, done-later, text-reading, long-reading}
use Rattle.ph_engine.proofs.run.answer.Goals as goal

pub returns-in_default-clause-answered : goal.returns-in_default-clause-answered
returns-in_default-clause-answered g c known fits = (
  known-left known _ _ fits refl,
  λ bytes h.
      said-refused c.args.desk.now.limits.now.file_bytes c.args.eng.now known bytes Reply.ErrorLong _ _ fits
      (record { files = refl; filings = refl; visits = refl; changes = refl })
      (long-reading c.args.eng.now bytes c.args.line c.in_default.is h)
      c.refuse.result c.refuse.ensures.told c.refuse.ensures.front,
)

pub returns-in-Ok-clause-answered : goal.returns-in-Ok-clause-answered
returns-in-Ok-clause-answered g c known fits = (
  known-done c.args.desk.now.limits.now.file_bytes c.args.eng.now c.exec.new.self (command_of c.in-Some.command) known _ _ c.exec.result fits c.exec.ensures.done,
  λ bytes h. record {
    met = met c.in-Ok.ensures.done.fault c.in-Ok.ensures.done.found;
    said =
        said-done c.args.desk.now.limits.now.file_bytes c.args.eng.now c.exec.new.self known bytes
        (command_of c.in-Some.command) _ _ fits c.in-Ok.answer c.is_refused.result c.in-Ok.ensures.done
        (text-reading c.args.eng.now c.dims.result bytes c.args.line c.in-Text.bytes _ c.dims.ensures.value
        c.in-Text.is h c.in-Some.ensures.meaning) c.is_refused.ensures;
  },
)

pub returns-in-Err-clause-answered : goal.returns-in-Err-clause-answered
returns-in-Err-clause-answered g c known fits = (
  known-done c.args.desk.now.limits.now.file_bytes c.args.eng.now c.exec.new.self (command_of c.in-Some.command) known _ _ c.exec.result fits c.exec.ensures.done,
  λ bytes h.
      said-stopped c.args.desk.now.limits.now.file_bytes c.args.eng.now c.exec.new.self known bytes (command_of c.in-Some.command) _ _ fits c.in-Err.stop
      (λ met. text-reading c.args.eng.now c.dims.result bytes c.args.line c.in-Text.bytes _ c.dims.ensures.value
      c.in-Text.is h c.in-Some.ensures.meaning)
      c.in-Err.ensures.done,
)

pub returns-in-Ok-clause-filings : goal.returns-in-Ok-clause-filings
returns-in-Ok-clause-filings g c = done-later c.args.desk.now.limits.now.file_bytes c.args.eng.now c.exec.new.self
    (command_of c.in-Some.command) _ _ c.exec.result c.exec.ensures.done

pub returns-in-Err-clause-filings : goal.returns-in-Err-clause-filings
returns-in-Err-clause-filings g c = done-later c.args.desk.now.limits.now.file_bytes c.args.eng.now c.exec.new.self
    (command_of c.in-Some.command) _ _ c.exec.result c.exec.ensures.done

pub returns-in-None-clause-answered : goal.returns-in-None-clause-answered
returns-in-None-clause-answered g c = rw c.in-Text.is c.answer_other.ensures.answered
