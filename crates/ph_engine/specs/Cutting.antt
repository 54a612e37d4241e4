-- Bytes as lines that a line feed ends, and what follows.
use Rattle.std.specs.Prelude.{ℕ, ◌==◌, Bool, not, List, [], ◌∷◌, ◌++◌}
use Rattle.std.specs.List.{list_all}
use Rattle.ph_specs.specs.Lines.{LF}

-- lines, each with its line feed
abbrev pub ended : List (List ℕ) → List ℕ
ended [] = []
ended (line ∷ lines) = line ++ LF ∷ ended lines

-- whether no byte is a line feed
abbrev pub is_unbroken : List ℕ → Bool
is_unbroken line = list_all (λ b. not (b == LF)) line

abbrev pub are_unbroken : List (List ℕ) → Bool
are_unbroken lines = list_all is_unbroken lines
