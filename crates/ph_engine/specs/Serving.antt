-- What the code that answers a script leaves: by the machine of a script, with files of at most so many bytes.
use Rattle.std.specs.Prelude.{◌≡◌, ◌≤◌, ℕ, Bool, List, length, Option, Some, None, Result}
use Rattle.ph_script.specs.declared.lines.Line.{Line}
use Rattle.ph_script.specs.Shown.{IsLine}
use Rattle.std.specs.Str.Lines.{strip_carriage_return}
use Rattle.ph_engine.specs.Answering.{SaysOr}
use Rattle.ph_slot.specs.Beside.{AreTold}
use Rattle.ph_specs.specs.State.{Files}
use Rattle.ph_io.specs.Shelf.{Stays}
use Rattle.ph_engine.specs.ScriptMachine.{Whole, whole, told_now, script_machine}
use Rattle.ph_engine.specs.Feeding.{Feeds, Ends}
use Rattle.ph_engine.specs.Outcomes.{Outcome}
use Rattle.ph_engine.specs.Standing.{Standing}
use Rattle.ph_engine.specs.declared.status.Status.{Status}
use Rattle.ph_commands.specs.declared.answer.Stop.{Stop}

-- the text is that of a line of at most so many bytes
abbrev pub IsText : List ℕ → List ℕ → Type 0
IsText line text = (length line ≤ 4096) × (text ≡ strip_carriage_return line)

-- where files were known, some are told now
abbrev pub StaysKnown : Option Files → Option Files → Type 0
StaysKnown None now = Unit {0}
StaysKnown (Some known) now = AreTold now

-- From a state to another, whatever is known of the files: their contents, if they are told, or nothing.
abbrev pub FromKnown : Standing → Standing → (Whole → Whole → Type 0) → Type 0
FromKnown st now leads =
    (known : Option Files) → Stays known st.beside.files →
    StaysKnown known now.beside.files × leads (whole st.engine known) (whole now.engine (told_now known now.beside.files))

-- a line that is shown
abbrev pub ServesLine : ℕ → Standing → Line → Standing → Result Bool Stop → Type 0
ServesLine file_bytes st line now result =
    FromKnown st now (λ s after. (bytes : List ℕ) → IsLine bytes line → SaysOr (script_machine file_bytes) s bytes st.beside now.beside after result)

-- a text: what is shown of a line that is short enough to be read
abbrev pub ServesText : ℕ → Standing → List ℕ → Standing → Result Bool Stop → Type 0
ServesText file_bytes st text now result =
    FromKnown st now (λ s after. (bytes : List ℕ) → IsText bytes text → SaysOr (script_machine file_bytes) s bytes st.beside now.beside after result)

-- a piece of a script, by the kept bytes of the unended line before and behind it
abbrev pub ServesPiece : ℕ → Standing → List ℕ → List ℕ → Standing → List ℕ → Result Bool Stop → Type 0
ServesPiece file_bytes st line piece now kept result =
    FromKnown st now (λ s after. Feeds (script_machine file_bytes) s line piece st.beside now.beside after kept result)

-- the end of a script
abbrev pub ServesEnd : ℕ → Standing → List ℕ → Bool → Standing → Status → Type 0
ServesEnd file_bytes st line refused now status =
    FromKnown st now (λ s after. Ends (script_machine file_bytes) s line refused st.beside now.beside after status)

-- a script of at most so many bytes
abbrev pub ServesScript : ℕ → ℕ → Option (List ℕ) → Standing → Option (List ℕ) → Standing → Status → Type 0
ServesScript file_bytes most left st now_left now status =
    FromKnown st now (λ s after. Outcome (script_machine file_bytes) most left now_left st.beside now.beside s after status)
