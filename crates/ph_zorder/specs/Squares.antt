-- How far apart coordinates can be.
use Rattle.std.specs.Prelude.{ℕ, ◌-◌, ◌*◌, ◌^◌}

-- the square of the greatest number of 62 binary digits
abbrev pub greatest_square : ℕ
greatest_square = (2 ^ 62 - 1) * (2 ^ 62 - 1)
