-- What the answer to one line leaves.
use Rattle.std.specs.Prelude.{◌≡◌, ◌<◌, ℕ, Bool, true, List, [], ◌∷◌, length, take, Result, Ok, Err}
use Rattle.ph_io.specs.Giving.{Given}
use Rattle.ph_slot.specs.Beside.{Beside}
use Rattle.ph_engine.specs.Machine.{Machine, Met, Turn, turn, answers, after, lines_of}
use Rattle.ph_commands.specs.Telling.{is_refusal}
use Rattle.ph_engine.specs.Costs.{Spent, Worked}
use Rattle.ph_commands.specs.declared.answer.Stop.{Stop}
use Rattle.ph_commands.specs.declared.answer.Stop.TheVariants.{WriteFault, NoMemory}

-- the line was answered
pub record Said {S : Type 0} (m : Machine S) (s : S) (t : Turn) (b now_b : Beside) (now : S) (refused : Bool) : Type 0 where
  pub told : Given b.sink now_b.sink (m.answer s t)
  pub state : now ≡ m.next s t
  pub refusal : refused ≡ is_refusal (m.answer s t)
  pub worked : Worked m s (t ∷ []) b now_b

-- a front of the answer was written
pub record SaidFront {S : Type 0} (m : Machine S) (s : S) (t : Turn) (b now_b : Beside) (now : S) : Type 0 where
  pub count : ℕ
  pub short : count < length (m.answer s t)
  pub told : Given b.sink now_b.sink (take count (m.answer s t))
  pub state : now ≡ m.cut s t
  pub spent : Spent m s (t ∷ []) b now_b

-- memory was missing for the line, of which nothing was written
pub record Unsaid {S : Type 0} (m : Machine S) (s : S) (t : Turn) (b now_b : Beside) (now : S) : Type 0 where
  pub told : Given b.sink now_b.sink []
  pub part : ℕ
  pub state : now ≡ m.starved s t part
  pub wanted : m.wants s t ≡ true
  pub spent : Spent m s (t ∷ []) b now_b

abbrev pub SaidOr : {S : Type 0} → Machine S → S → Turn → Beside → Beside → S → Result Bool Stop → Type 0
SaidOr m s t b now_b now (Ok refused) = Said m s t b now_b now refused
SaidOr m s t b now_b now (Err WriteFault) = SaidFront m s t b now_b now
SaidOr m s t b now_b now (Err NoMemory) = Unsaid m s t b now_b now

-- the same of a line, whatever it met of the files
pub record SaysOr {S : Type 0} (m : Machine S) (s : S) (line : List ℕ) (b now_b : Beside) (now : S) (result : Result Bool Stop) : Type 0 where
  pub met : Met
  pub said : SaidOr m s (turn line met) b now_b now result

-- These lines were answered, and no other.
pub record Answers {S : Type 0} (m : Machine S) (ls : List (List ℕ)) (b now_b : Beside) (s now : S) : Type 0 where
  pub turns : List Turn
  pub all : lines_of turns ≡ ls
  pub told : Given b.sink now_b.sink (answers m s turns)
  pub state : now ≡ after m s turns
  pub worked : Worked m s turns b now_b
