-- An engine with what stands beside it, and the part of it that the definition of a run speaks of.
use Rattle.std.specs.Prelude.{ℕ, List, Option}
use Rattle.ph_specs.specs.State.{Engine, Files}
use Rattle.ph_slot.specs.Beside.{Beside, beside, AreTold}
use Rattle.ph_engine.specs.ScriptMachine.{Whole, whole}

pub record Standing : Type 0 where
  pub engine : Engine
  pub beside : Beside

abbrev pub standing : Option (List ℕ) → Option ℕ → Option Files → ℕ → ℕ → ℕ → Engine → Standing
standing written amount files filings visits changes engine = record { engine = engine; beside = beside written amount files filings visits changes }

-- the engine, and the files where they are told
abbrev pub whole_of : Standing → Whole
whole_of st = whole st.engine st.beside.files

-- the files are told
abbrev pub IsKnown : Standing → Type 0
IsKnown st = AreTold st.beside.files
