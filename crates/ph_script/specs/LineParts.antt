-- The line of a reply by its parts.
use Rattle.std.specs.Prelude.{◌≤◌, ℕ, List, [], ◌∷◌, ◌++◌, codes, decimal, length}
use Rattle.ph_specs.specs.Reply.{line_of}
use Rattle.ph_script.specs.declared.text.LineParts.{LineParts}
use Rattle.ph_script.specs.declared.text.LineParts.TheVariants.{Fixed, Numbered, Wide, Record}

abbrev pub text_by : LineParts → List ℕ
text_by (Fixed words) = words.now
text_by (Numbered word number) = word.now ++ 32 ∷ decimal number ++ 10 ∷ []
text_by (Wide word number) = word.now ++ 32 ∷ decimal number ++ 10 ∷ []
text_by (Record number fault) = line_of (codes "bad" ∷ codes "record" ∷ decimal number ∷ fault.now ∷ [])

-- its words are short
abbrev pub IsShort : LineParts → Type 0
IsShort (Fixed words) = length words.now ≤ 32
IsShort (Numbered word number) = length word.now ≤ 32
IsShort (Wide word number) = length word.now ≤ 32
IsShort (Record number fault) = length fault.now ≤ 16
