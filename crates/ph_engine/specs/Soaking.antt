-- What a run of generated commands leaves, over a sink that only counts.
use Rattle.std.specs.Prelude.{◌≡◌, ◌≤◌, ◌⊎◌, ℕ, ◌+◌, Bool, true, false, List, [], ◌∷◌, ◌++◌, Result, Ok, Err}
use Rattle.std.specs.List.{list_all}
use Rattle.ph_io.specs.Causes.{Rose}
use Rattle.ph_io.specs.Giving.{Given}
use Rattle.ph_io.specs.Writing.{WritesFront}
use Rattle.ph_specs.specs.Command.{Command}
use Rattle.ph_specs.specs.Generator.{generate}
use Rattle.ph_specs.specs.Program.{act_all, opened, soaked, soak_line}
use Rattle.ph_specs.specs.Reply.{replies_text}
use Rattle.ph_specs.specs.Engine.{act}
use Rattle.ph_specs.specs.State.{Engine, Files}
use Rattle.ph_slot.specs.Beside.{Beside, without_files}
use Rattle.ph_commands.specs.Working.{Work, work_of, nodes_of}
use Rattle.ph_slot.specs.Doing.{wants_memory}
use Rattle.ph_engine.specs.Seen.{Seen}
use Rattle.ph_engine.specs.declared.status.Status.{Status}
use Rattle.ph_engine.specs.declared.status.Status.TheVariants.{Clean, WriteFault, Memory}

-- the commands that are drawn
abbrev pub is_drawn : Command → Bool
is_drawn (Command.Put p v) = true
is_drawn (Command.Get p) = true
is_drawn (Command.Del p) = true
is_drawn (Command.Relocate p q) = true
is_drawn (Command.Window lo hi) = true
is_drawn (Command.Near q n) = true
is_drawn _ = false

abbrev pub AreDrawn : List Command → Type 0
AreDrawn commands = list_all is_drawn commands ≡ true

-- a bound summed over commands
abbrev pub sum_work : (Work → ℕ) → ℕ → Engine → Files → List Command → ℕ
sum_work bound most e files [] = 0
sum_work bound most e files (command ∷ commands) =
    let o = act most e files false command in bound (work_of most e files false command) + sum_work bound most o.engine o.files commands

abbrev pub visits_most : ℕ → Engine → Files → List Command → ℕ
visits_most = sum_work (λ w. w.most_visits)

abbrev pub visits_least : ℕ → Engine → Files → List Command → ℕ
visits_least = sum_work (λ w. w.least_visits)

abbrev pub changes_most : ℕ → Engine → Files → List Command → ℕ
changes_most = sum_work (λ w. w.most_changes)

abbrev pub changes_least : ℕ → Engine → Files → List Command → ℕ
changes_least = sum_work (λ w. w.least_changes)

-- Commands were done one after another, over files that never fail. Their replies were given to the sink, and their work was counted.
pub record Soaked (most : ℕ) (e : Engine) (files : Files) (commands : List Command) (b now_b : Beside) (now : Engine) : Type 0 where
  pub led : now ≡ (act_all most e files commands).engine
  pub kept : files ≡ (act_all most e files commands).files
  pub told : Given b.sink now_b.sink (replies_text (act_all most e files commands).replies)
  pub most_visits : now_b.visits ≤ b.visits + visits_most most e files commands
  pub most_changes : now_b.changes ≤ b.changes + changes_most most e files commands
  pub least_visits : b.visits + visits_least most e files commands ≤ now_b.visits
  pub least_changes : b.changes + changes_least most e files commands ≤ now_b.changes

-- Memory was missing behind some first commands, for the next one, which may want it.
pub record StoppedBehind (most : ℕ) (e : Engine) (commands : List Command) (now : Engine) : Type 0 where
  pub finished : List Command
  pub next : Command
  pub rest : List Command
  pub all : commands ≡ finished ++ next ∷ rest
  pub led : (files : Files) → now ≡ (act_all most e files finished).engine
  pub wanted : (files : Files) → wants_memory most now files false next ≡ true

-- The same, and no more work was done than all of them may do.
pub record SoakedInPart (most : ℕ) (e : Engine) (commands : List Command) (b now_b : Beside) (now : Engine) : Type 0 where
  pub stopped : StoppedBehind most e commands now
  pub most_visits : (files : Files) → now_b.visits ≤ b.visits + visits_most most e files commands
  pub most_changes : (files : Files) → now_b.changes ≤ b.changes + changes_most most e files commands

-- The commands know no files, so any will do.
abbrev pub SoakedOr : {T E : Type 0} → ℕ → Engine → List Command → Beside → Beside → Engine → Result T E → Type 0
SoakedOr most e commands b now_b now (Ok _) = (files : Files) → Soaked most e files commands b now_b now
SoakedOr most e commands b now_b now (Err _) = SoakedInPart most e commands b now_b now

-- How a soak ends, with files of at most so many bytes: the engine, the sink and the counters before and behind it.
pub record SoakDone (most n start : ℕ) (e now_e : Engine) (b now_b : Beside) (status : Status) : Type 0 where
  pub ends : (status ≡ Clean) ⊎ ((status ≡ WriteFault) ⊎ (status ≡ Memory))
  pub told : (files : Files) → status ≡ Clean → Given b.sink now_b.sink (soak_line most e files n start)
  pub cut : (files : Files) → status ≡ WriteFault → WritesFront b.sink now_b.sink (soak_line most e files n start)
  pub none : status ≡ Memory → Given b.sink now_b.sink []
  pub engine : (files : Files) → (status ≡ Clean) ⊎ (status ≡ WriteFault) → now_e ≡ (soaked most e files n start).engine
  pub stopped : status ≡ Memory → StoppedBehind most (opened e []) (generate n start) now_e
  pub most_visits : (files : Files)
      → now_b.visits ≤ b.visits + visits_most most (opened e files) files (generate n start) + nodes_of (soaked most e files n start).engine.a
  pub most_changes : (files : Files) → now_b.changes ≤ b.changes + changes_most most (opened e files) files (generate n start)
  pub least_visits : (files : Files) → status ≡ Clean → b.visits + visits_least most (opened e files) files (generate n start) ≤ now_b.visits
  pub least_changes : (files : Files) → status ≡ Clean → b.changes + changes_least most (opened e files) files (generate n start) ≤ now_b.changes

-- How a call of the program for a soak ends. Nothing but the sink, the engine and the counters is touched.
pub record SoakEnds (most n start : ℕ) (before now : Seen) (status : Status) : Type 0 where
  pub done : SoakDone most n start before.at.engine now.at.engine (without_files before.at.beside) (without_files now.at.beside) status
  pub write_cause : status ≡ WriteFault → Rose before.writes now.writes
  pub later : before.writes ≤ now.writes
  pub left : now.left ≡ before.left
  pub reads : now.reads ≡ before.reads
  pub files : now.at.beside.files ≡ before.at.beside.files
  pub filings : now.at.beside.filings ≡ before.at.beside.filings
