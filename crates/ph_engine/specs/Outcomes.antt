-- What a run over a source leaves, by the way it ended. `bytes` are those that the run took.
use Rattle.std.specs.Prelude.{◌≡◌, ◌<◌, ◌≤◌, ◌+◌, ◌⊎◌, ℕ, true, List, [], ◌∷◌, ◌++◌, length, take, Option}
use Rattle.std.specs.Io.KnownBytes.{Consumes, IsAtEnd}
use Rattle.ph_io.specs.Giving.{Given}
use Rattle.ph_specs.specs.Lines.{lines, whole_lines}
use Rattle.ph_slot.specs.Beside.{Beside}
use Rattle.ph_engine.specs.Machine.{Machine, Turn, answers, after, some_refused, lines_of}
use Rattle.ph_engine.specs.Answering.{Answers}
use Rattle.ph_engine.specs.Costs.{Spent}
use Rattle.ph_engine.specs.declared.status.Status.{Status}
use Rattle.ph_engine.specs.declared.status.Status.TheVariants.{Clean, Refused, Usage, ReadFault, WriteFault, Memory, TooLong}
use Rattle.ph_engine.specs.Statuses.{read_status}

-- The source was read to its end, and all lines were answered.
pub record Answered {S : Type 0} (m : Machine S) (most : ℕ) (left now_left : Option (List ℕ)) (b now_b : Beside) (s now : S) (status : Status) : Type 0 where
  pub bytes : List ℕ
  pub consumed : Consumes left now_left bytes
  pub ended : IsAtEnd now_left
  pub within : length bytes ≤ most
  pub answered : Answers m (lines bytes) b now_b s now
  pub refusals : status ≡ read_status (some_refused m s answered.turns)

-- A read failed behind the bytes. The lines that a line feed ended were answered, and no other.
pub record Interrupted {S : Type 0} (m : Machine S) (most : ℕ) (left now_left : Option (List ℕ)) (b now_b : Beside) (s now : S) : Type 0 where
  pub bytes : List ℕ
  pub consumed : Consumes left now_left bytes
  pub within : length bytes ≤ most
  pub answered : Answers m (whole_lines bytes) b now_b s now

-- One byte too many came. The lines that a line feed ended before it were answered, and no other.
pub record Exceeded {S : Type 0} (m : Machine S) (most : ℕ) (left now_left : Option (List ℕ)) (b now_b : Beside) (s now : S) : Type 0 where
  pub bytes : List ℕ
  pub consumed : Consumes left now_left bytes
  pub over : length bytes ≡ most + 1
  pub answered : Answers m (whole_lines (take most bytes)) b now_b s now

-- The bytes that a run took have these lines within the limit: those that a line feed ends, or at the end of a source that has no more bytes all of them.
abbrev pub HasLines : ℕ → Option (List ℕ) → List ℕ → List (List ℕ) → Type 0
HasLines most now_left bytes ls = (whole_lines (take most bytes) ≡ ls) ⊎ ((length bytes ≤ most) × IsAtEnd now_left × (lines bytes ≡ ls))

-- A line was not answered whole. The lines before it were answered. It is within the limit. One byte more was taken only where it came with a line feed that ends this line.
pub record HaltedAt {S : Type 0} (m : Machine S) (most : ℕ) (left now_left : Option (List ℕ)) (b now_b : Beside) (s : S) : Type 0 where
  pub bytes : List ℕ
  pub consumed : Consumes left now_left bytes
  pub within : length bytes ≤ most + 1
  pub done : List Turn
  pub last : Turn
  pub more : List (List ℕ)
  pub taken : HasLines most now_left bytes (lines_of done ++ last.line ∷ more)
  pub spent : Spent m s (done ++ last ∷ []) b now_b

-- A write failed in the answer to it, of which `count` bytes were written.
pub record CutShort {S : Type 0} (m : Machine S) (most : ℕ) (left now_left : Option (List ℕ)) (b now_b : Beside) (s now : S) : Type 0 where
  pub at : HaltedAt m most left now_left b now_b s
  pub count : ℕ
  pub short : count < length (m.answer (after m s at.done) at.last)
  pub told : Given b.sink now_b.sink (answers m s at.done ++ take count (m.answer (after m s at.done) at.last))
  pub state : now ≡ m.cut (after m s at.done) at.last

-- Memory was missing for it, which may want it, and nothing of it was written.
pub record StarvedAt {S : Type 0} (m : Machine S) (most : ℕ) (left now_left : Option (List ℕ)) (b now_b : Beside) (s now : S) : Type 0 where
  pub at : HaltedAt m most left now_left b now_b s
  pub part : ℕ
  pub told : Given b.sink now_b.sink (answers m s at.done)
  pub state : now ≡ m.starved (after m s at.done) at.last part
  pub wanted : m.wants (after m s at.done) at.last ≡ true

-- Memory was missing before the first read, and nothing was taken, written or done.
pub record NotBegun {S : Type 0} (m : Machine S) (left now_left : Option (List ℕ)) (b now_b : Beside) (s now : S) : Type 0 where
  pub consumed : Consumes left now_left []
  pub answered : Answers m [] b now_b s now

abbrev pub OutOfMemory : {S : Type 0} → Machine S → ℕ → Option (List ℕ) → Option (List ℕ) → Beside → Beside → S → S → Type 0
OutOfMemory m most left now_left b now_b s now = NotBegun m left now_left b now_b s now ⊎ StarvedAt m most left now_left b now_b s now

-- what a run leaves, by its status
abbrev pub Outcome : {S : Type 0} → Machine S → ℕ → Option (List ℕ) → Option (List ℕ) → Beside → Beside → S → S → Status → Type 0
Outcome m most left now_left b now_b s now Clean = Answered m most left now_left b now_b s now Clean
Outcome m most left now_left b now_b s now Refused = Answered m most left now_left b now_b s now Refused
Outcome m most left now_left b now_b s now ReadFault = Interrupted m most left now_left b now_b s now
Outcome m most left now_left b now_b s now WriteFault = CutShort m most left now_left b now_b s now
Outcome m most left now_left b now_b s now Memory = OutOfMemory m most left now_left b now_b s now
Outcome m most left now_left b now_b s now TooLong = Exceeded m most left now_left b now_b s now
Outcome m most left now_left b now_b s now Usage = ⊥
