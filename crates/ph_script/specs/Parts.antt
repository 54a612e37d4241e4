-- The parts of a command that its words spell, as the code keeps them.
use Rattle.std.specs.Prelude.{ℕ, ◌^◌, nat_lt, nat_le, Bool, true, false, bytes_eq, if◌then◌else◌, List, [], ◌∷◌, ◌++◌, pos, neg_ℤ, Option, Some, None}
use Rattle.std.specs.Option.{option_to_list}
use Rattle.ph_coord.specs.declared.number.Number.{Number}
use Rattle.ph_coord.specs.declared.number.Number.TheVariants.{Whole, Wide, Not}
use Rattle.ph_coord.specs.Spelling.{number_of}
use Rattle.ph_specs.specs.Command.{Place}
use Rattle.ph_specs.specs.Command.Place.{Coordinate, Below, CursorName, FileName, OneOf}
use Rattle.ph_specs.specs.declared.Kind.{Kind}
use Rattle.ph_specs.specs.declared.Kind.TheVariants.{Points, Boxes}
use Rattle.ph_specs.specs.declared.Which.{Which}
use Rattle.ph_specs.specs.declared.Which.TheVariants.{A, B}
use Rattle.ph_script.specs.declared.coords.Coord.{Coord}
use Rattle.ph_script.specs.declared.coords.Coord.TheVariants.{Whole as WholeCoord, Far}

-- the coordinate that a number is
abbrev pub coord_of : Number → Option Coord
coord_of (Whole false n) = Some (if nat_lt n (2 ^ 63) then WholeCoord (pos n) else Far)
coord_of (Whole true n) = Some (if nat_le n (2 ^ 63) then WholeCoord (neg_ℤ (pos n)) else Far)
coord_of Wide = Some Far
coord_of Not = None

-- the number from 0 to below a limit
abbrev pub count_of : ℕ → Number → Option ℕ
count_of limit (Whole false n) = if nat_lt n limit then Some n else None
count_of limit (Whole true n) = None
count_of limit Wide = None
count_of limit Not = None

-- what a word in a place adds to the coordinates, and to the other numbers
abbrev pub coords_in : Place → List ℕ → List Coord
coords_in Coordinate word = option_to_list (coord_of (number_of word))
coords_in _ word = []

abbrev pub counts_in : Place → List ℕ → List ℕ
counts_in (Below limit) word = option_to_list (count_of limit (number_of word))
counts_in _ word = []

abbrev pub coords_at : List Place → List (List ℕ) → List Coord
coords_at [] ws = []
coords_at (place ∷ places) [] = []
coords_at (place ∷ places) (word ∷ ws) = coords_in place word ++ coords_at places ws

abbrev pub counts_at : List Place → List (List ℕ) → List ℕ
counts_at [] ws = []
counts_at (place ∷ places) [] = []
counts_at (place ∷ places) (word ∷ ws) = counts_in place word ++ counts_at places ws

-- what words in their places make, one behind the other, of what was got before
abbrev pub by_words : {T : Type 0} → (T → Place → List ℕ → T) → T → List Place → List (List ℕ) → T
by_words next got [] ws = got
by_words next got (place ∷ places) [] = got
by_words next got (place ∷ places) (word ∷ ws) = by_words next (next got place word) places ws

-- the name that was read last, behind one that was read before or none: with one word in its place, and with all
abbrev pub named : Option (List ℕ) → Place → List ℕ → Option (List ℕ)
named got CursorName word = Some word
named got _ word = got

abbrev pub name_from : Option (List ℕ) → List Place → List (List ℕ) → Option (List ℕ)
name_from got places ws = by_words named got places ws

-- the file's name, in the same way
abbrev pub filed : Option (List ℕ) → Place → List ℕ → Option (List ℕ)
filed got FileName word = Some word
filed got _ word = got

abbrev pub file_from : Option (List ℕ) → List Place → List (List ℕ) → Option (List ℕ)
file_from got places ws = by_words filed got places ws

-- whether the last word in a place for one of two words is the second: with one word in its place, and with all
abbrev pub second_in : Bool → Place → List ℕ → Bool
second_in got (OneOf (first ∷ second ∷ [])) word = bytes_eq word second
second_in got _ word = got

abbrev pub second_from : Bool → List Place → List (List ℕ) → Bool
second_from got places ws = by_words second_in got places ws

-- what the first and the second of two words say: `points` and `boxes`, or `a` and `b`
abbrev pub kind_by : Bool → Kind
kind_by is_second = if is_second then Boxes else Points

abbrev pub slot_by : Bool → Which
slot_by is_second = if is_second then B else A

-- how many coordinates and other numbers a place may add
abbrev pub coords_room : Place → ℕ
coords_room Coordinate = 1
coords_room _ = 0

abbrev pub counts_room : Place → ℕ
counts_room (Below limit) = 1
counts_room _ = 0
