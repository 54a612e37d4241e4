-- A machine that answers lines, one after another, and what each of them meets of the files.
use Rattle.std.specs.Prelude.{◌≡◌, ℕ, ◌+◌, Bool, false, ◌||◌, List, [], ◌∷◌, ◌++◌, map, Option, None, refl}
use Rattle.ph_commands.specs.Working.{one_if, Work}
use Rattle.ph_commands.specs.Telling.{is_refusal}

-- what a line meets of the files: whether they fail in it, and the bytes of the file that it reads, where there is one
pub record Met : Type 0 where
  pub fault : Bool
  pub found : Option (List ℕ)

abbrev pub met : Bool → Option (List ℕ) → Met
met fault found = record { fault = fault; found = found }

-- nothing of them
abbrev pub unmet : Met
unmet = met false None

-- a line, and what it meets
pub record Turn : Type 0 where
  pub line : List ℕ
  pub met : Met

abbrev pub turn : List ℕ → Met → Turn
turn line met = record { line = line; met = met }

-- The bytes of the answer to a line in a state, and the state behind it. The state where a write of the answer failed, and
-- that in which memory is missing, behind so many parts of what the line asks for. Whether the line may want memory, whether
-- it asks for a file, and its work.
pub record Machine (S : Type 0) : Type 0 where
  pub answer : S → Turn → List ℕ
  pub next : S → Turn → S
  pub cut : S → Turn → S
  pub starved : S → Turn → ℕ → S
  pub wants : S → Turn → Bool
  pub uses : S → Turn → Bool
  pub work : S → Turn → Work

-- the answers to lines, and the state behind them
abbrev pub answers : {S : Type 0} → Machine S → S → List Turn → List ℕ
answers m s [] = []
answers m s (t ∷ ts) = m.answer s t ++ answers m (m.next s t) ts

abbrev pub after : {S : Type 0} → Machine S → S → List Turn → S
after m s [] = s
after m s (t ∷ ts) = after m (m.next s t) ts

-- whether some line is refused
abbrev pub some_refused : {S : Type 0} → Machine S → S → List Turn → Bool
some_refused m s [] = false
some_refused m s (t ∷ ts) = is_refusal (m.answer s t) || some_refused m (m.next s t) ts

-- whether some line asks for a file
abbrev pub some_uses : {S : Type 0} → Machine S → S → List Turn → Bool
some_uses m s [] = false
some_uses m s (t ∷ ts) = m.uses s t || some_uses m (m.next s t) ts

-- a bound summed over lines
abbrev pub total : {S : Type 0} → (Work → ℕ) → Machine S → S → List Turn → ℕ
total bound m s [] = 0
total bound m s (t ∷ ts) = bound (m.work s t) + total bound m (m.next s t) ts

-- the lines alone, and in how many of them the files fail
abbrev pub lines_of : List Turn → List (List ℕ)
lines_of ts = map (λ t. t.line) ts

abbrev pub faults_of : List Bool → ℕ
faults_of [] = 0
faults_of (fault ∷ faults) = one_if fault + faults_of faults

abbrev pub faults_in : List Turn → ℕ
faults_in ts = faults_of (map (λ t. t.met.fault) ts)

-- the most bytes of a line that are told apart, and one more, which tells that a line is too long
unfoldable pub KEPT : ℕ
KEPT = 4097

pub KEPT-is : KEPT ≡ 4097
unfolding KEPT
KEPT-is = refl
