-- The entries that are written, and the digits of their tables.
use Rattle.std.specs.Prelude.{ℕ, zero, suc, ◌+◌, List, [], ◌∷◌, replicate, Some, Bool, if◌then◌else◌}
use Rattle.ph_specs.specs.Node.{Flat}
use Rattle.ph_specs.specs.Pack.{linear_digits, cube_digits}

-- n points from an address on, so far apart, with bodies of one number, and their addresses as values
abbrev pub points : ℕ → ℕ → ℕ → ℕ → ℕ → List Flat
points dims zero at step field = []
points dims (suc n) at step field =
    record { addr = at; body = replicate dims field; value = Some at } ∷ points dims n (at + step) step field

-- the digits of the tables of n entries
abbrev pub digits : Bool → ℕ → ℕ → ℕ → ℕ
digits cube dims level n = if cube then cube_digits dims level else linear_digits dims level n
