-- What a text spells, with the numbers that are too wide for the code told apart.
use Rattle.std.specs.Prelude.{ℕ, ◌+◌, ◌-◌, ◌*◌, ◌^◌, nat_lt, Bool, true, false, if◌then◌else◌, List, fold, ℤ, pos, negsuc, neg_ℤ, Option, Some, None, option_map}
use Rattle.ph_specs.specs.Lines.{natural, number}
use Rattle.ph_coord.specs.declared.number.Number.{Number}
use Rattle.ph_coord.specs.declared.number.Number.TheVariants.{Whole, Wide, Not}

-- the number that decimal digits spell
abbrev pub size_of : List ℕ → ℕ
size_of digits = fold (λ n b. n * 10 + (b - 48)) 0 digits

abbrev pub sized : Bool → ℕ → Number
sized minus size = if nat_lt size (2 ^ 128) then Whole minus size else Wide

-- a number by its sign and its size
abbrev pub of_whole : Option ℤ → Number
of_whole None = Not
of_whole (Some (pos n)) = sized false n
of_whole (Some (negsuc n)) = sized true (n + 1)

-- what a text spells
abbrev pub number_of : List ℕ → Number
number_of text = of_whole (number text)

-- what digits behind a sign spell
abbrev pub signed_of : Bool → List ℕ → Number
signed_of false digits = of_whole (option_map pos (natural digits))
signed_of true digits = of_whole (option_map (λ n. neg_ℤ (pos n)) (natural digits))
