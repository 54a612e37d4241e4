-- What a reader of records has left.
use Rattle.std.specs.Prelude.{◌≡◌, ℕ, ◌+◌, ◌<◌, Bool, true, false, List, [], ◌∷◌, length, Option, Some, None}
use Rattle.csv.specs.Machine.{ends_at_end}
use Rattle.csv.specs.Reading.{Ready, default_config, records_from, source_of}
use Rattle.csv.specs.declared.reader.Reader.{Reader}
use Rattle.csv.specs.declared.reader.Trim.TheVariants as trim
use Rattle.csv.specs.declared.parser.State.{State}

abbrev pub known : Option (List ℕ) → List ℕ
known None = []
known (Some bytes) = bytes

-- the bytes that are left, and the records among them
abbrev pub left_in : {R : Type 0} → (R → Option (List ℕ)) → Reader R → List ℕ
left_in rem r = known (source_of rem r)

abbrev pub rest_of : State → List ℕ → List (List (List ℕ))
rest_of s bytes = records_from default_config (length bytes + 1) s bytes

abbrev pub rest_in : {R : Type 0} → (R → Option (List ℕ)) → Reader R → List (List (List ℕ))
rest_in rem r = rest_of r.state (left_in rem r)

-- a reader between two records, of which no reading failed
pub record IsReading {R : Type 0} (rem : R → Option (List ℕ)) (r : Reader R) : Type 0 where
  pub untrimmed : r.trim ≡ trim.None
  pub ready : Ready r
  pub plain : r.config ≡ default_config
  pub between : ends_at_end r.state ≡ false
  pub source : source_of rem r ≡ Some (left_in rem r)

-- a record was read: it stood in front of the others, and took bytes
pub record IsNext {R : Type 0} (rem : R → Option (List ℕ)) (before after : Reader R) (fields : List (List ℕ)) : Type 0 where
  pub reading : IsReading rem after
  pub rest : rest_in rem before ≡ fields ∷ rest_in rem after
  pub less : length (left_in rem after) < length (left_in rem before)

-- what reading once more found
abbrev pub ReadsNext : {R : Type 0} → (R → Option (List ℕ)) → Reader R → Reader R → Bool → List (List ℕ) → Type 0
ReadsNext rem before after false fields = rest_in rem before ≡ []
ReadsNext rem before after true fields = IsNext rem before after fields
