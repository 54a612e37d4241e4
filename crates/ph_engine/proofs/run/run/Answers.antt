use Rattle.std.proofs.Common.{refl}
use Rattle.ph_engine.specs.ScriptMachine.{script_machine}
use Rattle.ph_engine.proofs.Answered.{known-left}
use Rattle.ph_engine.proofs.Known.{starved-known}
use Rattle.ph_engine.proofs.run.run.Goals as goal

pub returns-in_default-clause-outcome : goal.returns-in_default-clause-outcome
returns-in_default-clause-outcome g c known fits = (
  known-left known _ _ fits refl,
  starved-known (script_machine c.args.desk.now.limits.now.file_bytes)
      c.args.desk.now.limits.now.script_bytes _ _ c.args.eng.now known _ fits,
)

pub returns-in_default-vec-clause-outcome : goal.returns-in_default-vec-clause-outcome
returns-in_default-vec-clause-outcome g c known fits = (
  known-left known _ _ fits refl,
  starved-known (script_machine c.args.desk.now.limits.now.file_bytes)
      c.args.desk.now.limits.now.script_bytes _ _ c.args.eng.now known _ fits,
)
