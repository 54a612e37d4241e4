-- The plain lines: the words of some commands with one form each, their coordinates, and the number behind these.
use Rattle.std.specs.Prelude.{◌≡◌, ℕ, ◌+◌, ◌-◌, ◌^◌, true, List, [], ◌∷◌, ◌++◌, length, map, codes, Option, Some, None}
use Rattle.std.specs.Cmp.Lexicographic.{pointwise}
use Rattle.ph_coord.specs.Spelling.{number_of}
use Rattle.ph_specs.specs.Lines.{words}
use Rattle.ph_specs.specs.Command.{Place, number_fits, name_fits, value, count, radius}
use Rattle.ph_script.specs.declared.coords.Coord.{Coord}
use Rattle.ph_script.specs.declared.numbers.Short.{Short}
use Rattle.ph_script.specs.declared.forms.Verb.{Verb}
use Rattle.ph_script.specs.declared.forms.Verb.TheVariants as by
use Rattle.ph_script.specs.declared.plain.Plain.{Plain}
use Rattle.ph_script.specs.declared.plain.Plain.TheVariants.{Put, Get, Del, Relocate, Window, Near, Within, Overlap, Inside, Covers}
use Rattle.ph_script.specs.Words.{IsShort}
use Rattle.ph_script.specs.Forms.{places_by}
use Rattle.ph_script.specs.Parts.{coord_of, coords_at, counts_at}

abbrev pub verb_of : Plain → Verb
verb_of Put = by.Put
verb_of Get = by.Get
verb_of Del = by.Del
verb_of Relocate = by.Relocate
verb_of Window = by.Window
verb_of Near = by.Near
verb_of Within = by.Within
verb_of Overlap = by.Overlap
verb_of Inside = by.Inside
verb_of Covers = by.Covers

abbrev pub word_of : Plain → List ℕ
word_of Put = codes "put"
word_of Get = codes "get"
word_of Del = codes "del"
word_of Relocate = codes "move"
word_of Window = codes "window"
word_of Near = codes "near"
word_of Within = codes "within"
word_of Overlap = codes "overlap"
word_of Inside = codes "inside"
word_of Covers = codes "covers"

-- how many coordinates it has, and the place behind them where it has one there
abbrev pub coords_of : Plain → ℕ → ℕ
coords_of Relocate dims = dims + dims
coords_of Window dims = dims + dims
coords_of _ dims = dims

abbrev pub last_of : Plain → List Place
last_of Put = value ∷ []
last_of Near = count ∷ []
last_of Within = radius ∷ []
last_of _ = []

-- the most that the number there may be in a plain line, where it has one
abbrev pub most_of : Plain → Option ℕ
most_of Put = Some (2 ^ 64 - 1)
most_of Near = Some (2 ^ 32 - 1)
most_of Within = Some (2 ^ 64 - 1)
most_of _ = None

-- the number behind the coordinates, where it has one
abbrev pub number_by : Plain → ℕ → List ℕ
number_by Put n = n ∷ []
number_by Near n = n ∷ []
number_by Within n = n ∷ []
number_by _ n = []

-- the first word of a text spells this number, and behind it stands the rest
pub record IsNext (text : List ℕ) (s : Short) (rest : List ℕ) : Type 0 where
  pub word : List ℕ
  pub first : words text ≡ word ∷ words rest
  pub number : IsShort word s

-- the first words of a text spell these coordinates, and behind them stands the rest
pub record IsSpelled (text : List ℕ) (coords : List Coord) (rest : List ℕ) : Type 0 where
  pub front : List (List ℕ)
  pub before : words text ≡ front ++ words rest
  pub spelled : map (λ w. coord_of (number_of w)) front ≡ map Some coords

-- the words behind the coordinates are one that spells this number, or none, as the command asks, and behind them stands the rest
pub record IsLast (plain : Plain) (text : List ℕ) (n : ℕ) (rest : List ℕ) : Type 0 where
  pub front : List (List ℕ)
  pub before : words text ≡ front ++ words rest
  pub size : length (last_of plain) ≡ length front
  pub numbers : pointwise number_fits (last_of plain) front ≡ true
  pub names : pointwise name_fits (last_of plain) front ≡ true
  pub counts : counts_at (last_of plain) front ≡ number_by plain n

-- the words of a line are the command's, and fit in its places, where they spell these coordinates and this number
pub record IsPlain (plain : Plain) (dims : ℕ) (ws : List (List ℕ)) (coords : List Coord) (n : ℕ) : Type 0 where
  pub behind : List (List ℕ)
  pub line : ws ≡ word_of plain ∷ behind
  pub size : length (places_by (verb_of plain) dims) ≡ length behind
  pub numbers : pointwise number_fits (places_by (verb_of plain) dims) behind ≡ true
  pub names : pointwise name_fits (places_by (verb_of plain) dims) behind ≡ true
  pub coords_are : coords ≡ coords_at (places_by (verb_of plain) dims) behind
  pub counts_are : number_by plain n ≡ counts_at (places_by (verb_of plain) dims) behind
