-- What one pass over a text finds, with few bits for its number.
use Rattle.std.specs.Prelude.{◌≡◌, ℕ, List, true, false}
use Rattle.std.specs.Char.{is_ascii_digit}
use Rattle.std.specs.List.{list_all}
use Rattle.ph_coord.specs.Spelling.{size_of}
use Rattle.ph_coord.specs.declared.number.Narrow.{Narrow}
use Rattle.ph_coord.specs.declared.number.Narrow.TheVariants.{Size, Other, Long}

-- the number of digits, or that not all are digits; that it is long says nothing
abbrev pub Narrows : List ℕ → Narrow → Type 0
Narrows text (Size n) = (list_all is_ascii_digit text ≡ true) × (n ≡ size_of text)
Narrows text Other = list_all is_ascii_digit text ≡ false
Narrows text Long = Unit {0}
