-- A run over a source, by the definition of a script's run, where the files are told.
use Rattle.std.specs.Prelude.{◌≡◌, ℕ, List, Bool, Option, Some}
use Rattle.std.specs.Io.KnownBytes.{Consumes, IsAtEnd}
use Rattle.ph_io.specs.Giving.{Given}
use Rattle.ph_specs.specs.Lines.{lines}
use Rattle.ph_specs.specs.Engine.{written}
use Rattle.ph_slot.specs.Beside.{Beside, Tells}
use Rattle.ph_engine.specs.ScriptMachine.{Whole, script_run}
use Rattle.ph_engine.specs.Machine.{faults_of}

-- What was written, and the state behind it, are those of a run over all lines of the
-- source. The files failed in no more of the lines than their count tells.
pub record RunsAsDefined (most : ℕ) (left now_left : Option (List ℕ)) (b now_b : Beside) (s now : Whole) : Type 0 where
  pub bytes : List ℕ
  pub consumed : Consumes left now_left bytes
  pub ended : IsAtEnd now_left
  pub faults : List Bool
  pub told : Given b.sink now_b.sink (written (script_run most s faults (lines bytes)))
  pub engine : now.engine ≡ (script_run most s faults (lines bytes)).engine
  pub files : now.files ≡ Some (script_run most s faults (lines bytes)).files
  pub filings : Tells b.filings now_b.filings (faults_of faults)
