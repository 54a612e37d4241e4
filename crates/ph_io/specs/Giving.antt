-- What a sink was given, where it tells its bytes or their number.
use Rattle.std.specs.Prelude.{◌≡◌, ℕ, ◌+◌, ◌-◌, ◌^◌, min, List, length, ⊤, None, Some}
use Rattle.std.specs.declared.option.Option.{Option}
use Rattle.std.specs.Io.KnownBytes.{Appends}

-- what a sink tells: the bytes that it has taken, and their number, or 2^64 - 1 where that is more
pub record Taken : Type 0 where
  pub written : Option (List ℕ)
  pub amount : Option ℕ

abbrev pub taken_of : Option (List ℕ) → Option ℕ → Taken
taken_of written amount = record { written = written; amount = amount }

-- a known amount grew by n, as far as 2^64 - 1 tells
abbrev pub Grew : Option ℕ → Option ℕ → ℕ → Type 0
Grew None new n = ⊤
Grew (Some a) None n = ⊥
Grew (Some a) (Some b) n = min b (2 ^ 64 - 1) ≡ min (a + n) (2 ^ 64 - 1)

-- the bytes were given to the sink, and no other
pub record Given (old new : Taken) (bytes : List ℕ) : Type 0 where
  pub written : Appends old.written new.written bytes
  pub amount : Grew old.amount new.amount (length bytes)
