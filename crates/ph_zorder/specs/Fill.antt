-- A word that is filled with ones below a digit.
use Rattle.std.specs.Prelude.{◌≡◌, ℕ, ◌+◌, ◌-◌, ◌^◌, ◌<◌, ◌≤◌, ◌⊎◌}

-- a 1 at each place below the highest digit of a word
abbrev pub IsFill : ℕ → ℕ → Type 0
IsFill word fill =
    ((word ≡ 0) × (fill ≡ 0)) ⊎ ((t : ℕ) × (2 ^ t ≤ word) × (word < 2 ^ (t + 1)) × (fill ≡ 2 ^ t - 1))
