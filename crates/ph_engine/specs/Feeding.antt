-- What a piece of a script leads to, behind an unended line of which the first bytes are kept.
use Rattle.std.specs.Prelude.{◌≡◌, ◌<◌, ℕ, Bool, true, ◌||◌, List, [], ◌∷◌, ◌++◌, length, take, Result, Ok, Err}
use Rattle.ph_io.specs.Giving.{Given}
use Rattle.ph_slot.specs.Beside.{Beside}
use Rattle.ph_engine.specs.Machine.{Machine, Met, Turn, turn, answers, after, some_refused, lines_of, KEPT}
use Rattle.ph_engine.specs.Costs.{Spent, Worked}
use Rattle.ph_engine.specs.Cutting.{ended, is_unbroken, are_unbroken}
use Rattle.ph_engine.specs.Answering.{Answers, SaidFront, Unsaid}
use Rattle.ph_engine.specs.Statuses.{read_status}
use Rattle.ph_specs.specs.Lines.{lines}
use Rattle.ph_commands.specs.declared.answer.Stop.{Stop}
use Rattle.ph_commands.specs.declared.answer.Stop.TheVariants.{WriteFault, NoMemory}
use Rattle.ph_engine.specs.declared.status.Status.{Status}
use Rattle.ph_engine.specs.declared.status.Status.TheVariants as by
use Rattle.ph_engine.specs.declared.status.Status.TheVariants.{Clean, Refused, Usage, ReadFault, TooLong}

-- All lines that the piece ends were answered, and a new line is unended.
pub record Fed {S : Type 0} (m : Machine S) (s : S) (unended piece : List ℕ) (b now_b : Beside) (now : S) (kept : List ℕ) (refused : Bool) : Type 0 where
  pub done : List Turn
  pub rest : List ℕ
  pub split : unended ++ piece ≡ ended (lines_of done) ++ rest
  pub unbroken_done : are_unbroken (lines_of done) ≡ true
  pub unbroken_rest : is_unbroken rest ≡ true
  pub told : Given b.sink now_b.sink (answers m s done)
  pub state : now ≡ after m s done
  pub refusals : refused ≡ some_refused m s done
  pub front : kept ≡ take KEPT rest
  pub worked : Worked m s done b now_b

-- Some first lines were answered, and the next one was not.
pub record Halted {S : Type 0} (m : Machine S) (s : S) (unended piece : List ℕ) (b now_b : Beside) : Type 0 where
  pub done : List Turn
  pub last : Turn
  pub more : List ℕ
  pub split : unended ++ piece ≡ ended (lines_of done ++ last.line ∷ []) ++ more
  pub unbroken_done : are_unbroken (lines_of done) ≡ true
  pub unbroken_line : is_unbroken last.line ≡ true
  pub spent : Spent m s (done ++ last ∷ []) b now_b

-- A write failed in the answer to it.
pub record Cut {S : Type 0} (m : Machine S) (s : S) (unended piece : List ℕ) (b now_b : Beside) (now : S) : Type 0 where
  pub at : Halted m s unended piece b now_b
  pub count : ℕ
  pub short : count < length (m.answer (after m s at.done) at.last)
  pub told : Given b.sink now_b.sink (answers m s at.done ++ take count (m.answer (after m s at.done) at.last))
  pub state : now ≡ m.cut (after m s at.done) at.last

-- Memory was missing for it.
pub record Starved {S : Type 0} (m : Machine S) (s : S) (unended piece : List ℕ) (b now_b : Beside) (now : S) : Type 0 where
  pub at : Halted m s unended piece b now_b
  pub part : ℕ
  pub told : Given b.sink now_b.sink (answers m s at.done)
  pub state : now ≡ m.starved (after m s at.done) at.last part
  pub wanted : m.wants (after m s at.done) at.last ≡ true

-- what a call that feeds a piece answers, by its result and by what it leaves of the unended line
abbrev pub FedOr : {S : Type 0} → Machine S → S → List ℕ → List ℕ → Beside → Beside → S → List ℕ → Result Bool Stop → Type 0
FedOr m s unended piece b now_b now kept (Ok refused) = Fed m s unended piece b now_b now kept refused
FedOr m s unended piece b now_b now kept (Err WriteFault) = Cut m s unended piece b now_b now
FedOr m s unended piece b now_b now kept (Err NoMemory) = Starved m s unended piece b now_b now

-- the same for each unended line whose kept bytes these are
abbrev pub Feeds : {S : Type 0} → Machine S → S → List ℕ → List ℕ → Beside → Beside → S → List ℕ → Result Bool Stop → Type 0
Feeds m s line piece b now_b now kept result =
    (unended : List ℕ) → line ≡ take KEPT unended → is_unbroken unended ≡ true → FedOr m s unended piece b now_b now kept result

-- The unended line, if there is one, was answered as the last.
pub record AtEnd {S : Type 0} (m : Machine S) (s : S) (unended : List ℕ) (refused : Bool) (b now_b : Beside) (now : S) (status : Status) : Type 0 where
  pub answered : Answers m (lines unended) b now_b s now
  pub refusals : status ≡ read_status (refused || some_refused m s answered.turns)

-- There is an unended line, and a write failed in its answer.
pub record CutAtEnd {S : Type 0} (m : Machine S) (s : S) (unended : List ℕ) (b now_b : Beside) (now : S) : Type 0 where
  pub some : lines unended ≡ unended ∷ []
  pub met : Met
  pub said : SaidFront m s (turn unended met) b now_b now

-- There is an unended line, for which memory was missing.
pub record StarvedAtEnd {S : Type 0} (m : Machine S) (s : S) (unended : List ℕ) (b now_b : Beside) (now : S) : Type 0 where
  pub some : lines unended ≡ unended ∷ []
  pub met : Met
  pub unsaid : Unsaid m s (turn unended met) b now_b now

-- what the end of a script leads to, by the status
abbrev pub EndsOr : {S : Type 0} → Machine S → S → List ℕ → Bool → Beside → Beside → S → Status → Type 0
EndsOr m s unended refused b now_b now Clean = AtEnd m s unended refused b now_b now Clean
EndsOr m s unended refused b now_b now Refused = AtEnd m s unended refused b now_b now Refused
EndsOr m s unended refused b now_b now by.WriteFault = CutAtEnd m s unended b now_b now
EndsOr m s unended refused b now_b now by.Memory = StarvedAtEnd m s unended b now_b now
EndsOr m s unended refused b now_b now Usage = ⊥
EndsOr m s unended refused b now_b now ReadFault = ⊥
EndsOr m s unended refused b now_b now TooLong = ⊥

-- the same for each unended line whose kept bytes these are
abbrev pub Ends : {S : Type 0} → Machine S → S → List ℕ → Bool → Beside → Beside → S → Status → Type 0
Ends m s line refused b now_b now status =
    (unended : List ℕ) → line ≡ take KEPT unended → is_unbroken unended ≡ true → EndsOr m s unended refused b now_b now status
