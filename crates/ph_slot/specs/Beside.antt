-- What stands beside an engine while it does commands: a sink, files, and the counters of the tree's work.
use Rattle.std.specs.Prelude.{◌≡◌, ◌⊎◌, ◌≤◌, ℕ, ◌+◌, ◌-◌, ◌^◌, Bool, false, List, Option, Some, None}
use Rattle.ph_io.specs.Giving.{Taken, taken_of}
use Rattle.ph_specs.specs.State.{Files}

-- what the sink and the files tell, how often the files have failed, and what was counted
pub record Beside : Type 0 where
  pub sink : Taken
  pub files : Option Files
  pub filings : ℕ
  pub visits : ℕ
  pub changes : ℕ

abbrev pub beside_sink : Taken → Option Files → ℕ → ℕ → ℕ → Beside
beside_sink sink files filings visits changes = record { sink = sink; files = files; filings = filings; visits = visits; changes = changes }

-- beside the engine of the code
abbrev pub beside : Option (List ℕ) → Option ℕ → Option Files → ℕ → ℕ → ℕ → Beside
beside written amount files filings visits changes = beside_sink (taken_of written amount) files filings visits changes

-- beside one where there is no sink: one that tells nothing stands in its place
abbrev pub aside : Option Files → ℕ → ℕ → ℕ → Beside
aside files filings visits changes = beside None None files filings visits changes

-- beside one that does its commands over no files
abbrev pub alone : Taken → ℕ → ℕ → Beside
alone sink visits changes = beside_sink sink None 0 visits changes

-- the same with no files
abbrev pub without_files : Beside → Beside
without_files b = alone b.sink b.visits b.changes

-- and with other counts
abbrev pub with_visits : ℕ → Beside → Beside
with_visits visits b = record b { visits = visits }

abbrev pub with_changes : ℕ → Beside → Beside
with_changes changes b = record b { changes = changes }

-- some files are told
abbrev pub AreTold : Option Files → Type 0
AreTold None = ⊥
AreTold (Some files) = Unit {0}

-- the files are those that are told, where some are told
abbrev pub IsTold : Option Files → Files → Type 0
IsTold None files = Unit {0}
IsTold (Some told) files = told ≡ files

-- where files were told, these are told now
abbrev pub StillTells : Option Files → Option Files → Files → Type 0
StillTells None now files = Unit {0}
StillTells (Some told) now files = now ≡ Some files

-- so many faults of the files are told by their count, which may stand at 2^64 - 1
abbrev pub Tells : ℕ → ℕ → ℕ → Type 0
Tells before now n = (2 ^ 64 - 1 ≤ now) ⊎ (before + n ≤ now)

-- The count tells so many faults. It never falls, and stays where no file was asked for.
pub record Filings (uses : Bool) (faults before now : ℕ) : Type 0 where
  pub told : Tells before now faults
  pub later : before ≤ now
  pub quiet : uses ≡ false → now ≡ before
