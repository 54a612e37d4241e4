-- Numbers among the binary digits of words, and lists of bytes.
use Rattle.std.specs.Prelude.{ℕ, ◌-◌, ◌*◌, ◌/◌, ◌%◌, ◌^◌, ◌<◌, List, length, map}
use Rattle.std.specs.List.{AllByRecursion as Each}
use Rattle.ph_specs.specs.Digits.{field, number_of}

-- the number of `width` digits that begins at digit `at` of words, counted from the most significant end of the first
abbrev pub digits_at : List ℕ → ℕ → ℕ → ℕ
digits_at words at width =
    (number_of (map (field 64) words) / 2 ^ (64 * length words - at - width)) % 2 ^ width

-- each number has at most eight binary digits
abbrev pub IsBytes : List ℕ → Type 0
IsBytes bytes = Each (λ b. b < 2 ^ 8) bytes
