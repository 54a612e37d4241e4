-- The columns of a cube record, and its kinds by their digits.
use Rattle.std.specs.Prelude.{ℕ, zero, suc, ◌+◌, ◌*◌, ◌/◌, ◌^◌, List, take, drop, true}
use Rattle.std.specs.Int.RustNames.{count_ones}
use Rattle.std.specs.Int.Bits.{bit_and}
use Rattle.ph_model.specs.Digits.{digits_at}
use Rattle.ph_specs.specs.Record.{parts}
use Rattle.ph_model.specs.Layout.{fields_as}

abbrev pub kinds : ℕ → List ℕ → List ℕ
kinds dims words = take (2 ^ dims) (fields_as true dims words)

abbrev pub bodies : ℕ → List ℕ → List (List ℕ)
bodies dims words = parts (2 ^ dims) dims (drop (2 ^ dims) (fields_as true dims words))

-- how many of n kinds from a digit on have 1 as their first digit
abbrev pub twos_in : List ℕ → ℕ → ℕ → ℕ
twos_in words at zero = 0
twos_in words at (suc n) = twos_in words at n + digits_at words (at + n * 2) 2 / 2

-- the same of a number of at most 32 kinds
abbrev pub HIGH : ℕ → ℕ
HIGH x = count_ones (bit_and x 12297829382473034410)
