-- What the calls answer, by name.
use Rattle.std.specs.Prelude.{◌≡◌, ℕ, true, List, nat_eq}
use Rattle.std.specs.List.{list_any}

abbrev pub done : ℕ
done = 0

abbrev pub replaced : ℕ
replaced = 1

abbrev pub absent : ℕ
absent = 2

abbrev pub taken : ℕ
taken = 3

abbrev pub no_tree : ℕ
no_tree = 10

abbrev pub no_dimensions : ℕ
no_dimensions = 11

abbrev pub no_width : ℕ
no_width = 12

abbrev pub no_point : ℕ
no_point = 13

abbrev pub reversed : ℕ
reversed = 14

abbrev pub full : ℕ
full = 15

abbrev pub no_memory : ℕ
no_memory = 16

abbrev pub no_room : ℕ
no_room = 17

abbrev pub unlike : ℕ
unlike = 18

abbrev pub no_boxes : ℕ
no_boxes = 19

abbrev pub damaged : ℕ
damaged = 20

-- an answer is one of these
abbrev pub IsOneOf : List ℕ → ℕ → Type 0
IsOneOf answers answer = list_any (nat_eq answer) answers ≡ true
