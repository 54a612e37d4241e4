-- The columns of a linear record.
use Rattle.std.specs.Prelude.{ℕ, ◌+◌, List, take, drop, false}
use Rattle.ph_specs.specs.Record.{first_in, parts}
use Rattle.ph_model.specs.Layout.{fields_as}

abbrev pub kinds : ℕ → List ℕ → List ℕ
kinds dims words = take (first_in words).entries (fields_as false dims words)

abbrev pub addresses : ℕ → List ℕ → List ℕ
addresses dims words = let n = (first_in words).entries in take n (drop n (fields_as false dims words))

abbrev pub bodies : ℕ → List ℕ → List (List ℕ)
bodies dims words = let n = (first_in words).entries in parts n dims (drop (n + n) (fields_as false dims words))
