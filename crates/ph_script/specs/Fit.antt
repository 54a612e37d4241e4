-- What a form asks of the parts in its places, the fault of words there, and how many coordinates a command has.
use Rattle.std.specs.Prelude.{◌≡◌, ◌<◌, ◌≤◌, ◌+◌, ◌^◌, ℕ, Bool, true, false, List, [], length, slice_index, codes, bytes_eq, Option, Some, None, IsSome, Result, Ok, Err}
use Rattle.ph_script.specs.declared.coords.Coord.{Coord}
use Rattle.ph_script.specs.declared.command.Bad.{Bad}
use Rattle.ph_script.specs.declared.command.Bad.TheVariants.{Word, Count as BadCount, Number, Name}
use Rattle.ph_script.specs.declared.command.Command.{Command}
use Rattle.ph_script.specs.declared.command.Command.TheVariants as by
use Rattle.ph_script.specs.declared.forms.Verb.{Verb}
use Rattle.ph_script.specs.declared.forms.Verb.TheVariants.{Open, OpenBits, OpenMax, OpenBitsMax, Put, Get, Del, Relocate, Count, Clear, Window}
use Rattle.ph_script.specs.declared.forms.Verb.TheVariants.{Cursor, Page, Near, Within, Overlap, Inside, Covers, Save, Load, Import}
use Rattle.ph_script.specs.declared.forms.Verb.TheVariants.{ImportHeader, Export, Stats, Select, Same, Join, Combine, Keep, Back}
use Rattle.std.specs.Cmp.Lexicographic.{pointwise}
use Rattle.ph_specs.specs.Command.{Place, first_word, number_fits, name_fits}
use Rattle.ph_script.specs.Parts.{coords_at, counts_at, name_from, file_from, second_from}

abbrev pub IsFit : Verb → ℕ → List Coord → List ℕ → Option (List ℕ) → Option (List ℕ) → Type 0
IsFit Open dims coords counts name file = (coords ≡ []) × (length counts ≡ 1) × (slice_index counts 0 < 2 ^ 32)
IsFit OpenBits dims coords counts name file = (coords ≡ []) × (length counts ≡ 2) × (slice_index counts 0 < 2 ^ 32) × (slice_index counts 1 < 2 ^ 32)
IsFit OpenMax dims coords counts name file = (coords ≡ []) × (length counts ≡ 2) × (slice_index counts 0 < 2 ^ 32) × (slice_index counts 1 < 2 ^ 64)
IsFit OpenBitsMax dims coords counts name file =
    (coords ≡ []) × (length counts ≡ 3) × (slice_index counts 0 < 2 ^ 32) × (slice_index counts 1 < 2 ^ 32) × (slice_index counts 2 < 2 ^ 64)
IsFit Put dims coords counts name file = (length coords ≡ dims) × (length counts ≡ 1) × (slice_index counts 0 < 2 ^ 64)
IsFit Get dims coords counts name file = (length coords ≡ dims) × (counts ≡ [])
IsFit Del dims coords counts name file = (length coords ≡ dims) × (counts ≡ [])
IsFit Relocate dims coords counts name file = (length coords ≡ dims + dims) × (counts ≡ [])
IsFit Count dims coords counts name file = Unit {0}
IsFit Clear dims coords counts name file = Unit {0}
IsFit Window dims coords counts name file = (length coords ≡ dims + dims) × (counts ≡ [])
IsFit Cursor dims coords counts name file = (length coords ≡ dims + dims) × (counts ≡ []) × IsSome name
IsFit Page dims coords counts name file = (coords ≡ []) × (length counts ≡ 1) × (slice_index counts 0 < 2 ^ 32) × IsSome name
IsFit Near dims coords counts name file = (length coords ≡ dims) × (length counts ≡ 1) × (slice_index counts 0 < 2 ^ 32)
IsFit Within dims coords counts name file = (length coords ≡ dims) × (length counts ≡ 1)
IsFit Overlap dims coords counts name file = (length coords ≡ dims) × (counts ≡ [])
IsFit Inside dims coords counts name file = (length coords ≡ dims) × (counts ≡ [])
IsFit Covers dims coords counts name file = (length coords ≡ dims) × (counts ≡ [])
IsFit Save dims coords counts name file = IsSome file
IsFit Load dims coords counts name file = IsSome file
IsFit Import dims coords counts name file = IsSome file
IsFit ImportHeader dims coords counts name file = IsSome file
IsFit Export dims coords counts name file = IsSome file
IsFit Stats dims coords counts name file = Unit {0}
IsFit Select dims coords counts name file = Unit {0}
IsFit Same dims coords counts name file = Unit {0}
IsFit Join dims coords counts name file = Unit {0}
IsFit (Combine operation) dims coords counts name file = Unit {0}
IsFit Keep dims coords counts name file = (coords ≡ []) × (length counts ≡ 1) × (slice_index counts 0 < 65537)
IsFit Back dims coords counts name file = (coords ≡ []) × (length counts ≡ 1) × (slice_index counts 0 < 2 ^ 32)

-- the first of a command's words that are no numbers tells its name, its file's name, or which of two words it has
abbrev pub IsNamed : Verb → Option (List ℕ) → Option (List ℕ) → Bool → List (List ℕ) → Type 0
IsNamed Open name file second texts = second ≡ bytes_eq (first_word texts) (codes "boxes")
IsNamed OpenBits name file second texts = second ≡ bytes_eq (first_word texts) (codes "boxes")
IsNamed OpenMax name file second texts = second ≡ bytes_eq (first_word texts) (codes "boxes")
IsNamed OpenBitsMax name file second texts = second ≡ bytes_eq (first_word texts) (codes "boxes")
IsNamed Cursor name file second texts = name ≡ Some (first_word texts)
IsNamed Page name file second texts = name ≡ Some (first_word texts)
IsNamed Save name file second texts = file ≡ Some (first_word texts)
IsNamed Load name file second texts = file ≡ Some (first_word texts)
IsNamed Import name file second texts = file ≡ Some (first_word texts)
IsNamed ImportHeader name file second texts = file ≡ Some (first_word texts)
IsNamed Export name file second texts = file ≡ Some (first_word texts)
IsNamed Select name file second texts = second ≡ bytes_eq (first_word texts) (codes "b")
IsNamed _ name file second texts = Unit {0}

-- the first fault of words in places, by whether there are as many words as places and whether all numbers and all names fit
abbrev pub IsFault : Bad → Bool → Bool → Bool → Type 0
IsFault Word sized numbers names = ⊥
IsFault BadCount sized numbers names = sized ≡ false
IsFault Number sized numbers names = (sized ≡ true) × (numbers ≡ false)
IsFault Name sized numbers names = (sized ≡ true) × (numbers ≡ true) × (names ≡ false)

-- words that fit in as many places, and the parts that they spell there
abbrev pub IsRead : List Place → List (List ℕ) → List Coord → List ℕ → Option (List ℕ) → Option (List ℕ) → Bool → Type 0
IsRead places ws coords counts name file second =
    (length places ≡ length ws) × (pointwise number_fits places ws ≡ true) × (pointwise name_fits places ws ≡ true)
    × (coords ≡ coords_at places ws) × (counts ≡ counts_at places ws)
    × (name ≡ name_from None places ws) × (file ≡ file_from None places ws) × (second ≡ second_from false places ws)

-- each point of the command has so many coordinates
abbrev pub HasDims : ℕ → Command → Type 0
HasDims dims (by.Begin kind k width max) = Unit {0}
HasDims dims (by.Put at value) = length at ≡ dims
HasDims dims (by.Get at) = length at ≡ dims
HasDims dims (by.Del at) = length at ≡ dims
HasDims dims (by.Relocate from to) = (length from ≡ dims) × (length to ≡ dims)
HasDims dims by.Count = Unit {0}
HasDims dims by.Clear = Unit {0}
HasDims dims (by.Window lo hi) = (length lo ≡ dims) × (length hi ≡ dims)
HasDims dims (by.Cursor name lo hi) = (length lo ≡ dims) × (length hi ≡ dims)
HasDims dims (by.Page name n) = Unit {0}
HasDims dims (by.Near q n) = length q ≡ dims
HasDims dims (by.Within q r) = length q ≡ dims
HasDims dims (by.Overlap bounds) = length bounds ≡ dims
HasDims dims (by.Inside bounds) = length bounds ≡ dims
HasDims dims (by.Covers bounds) = length bounds ≡ dims
HasDims dims (by.Save file) = Unit {0}
HasDims dims (by.Load file) = Unit {0}
HasDims dims (by.Import file header) = Unit {0}
HasDims dims (by.Export file) = Unit {0}
HasDims dims by.Stats = Unit {0}
HasDims dims (by.Select slot) = Unit {0}
HasDims dims by.Same = Unit {0}
HasDims dims by.Join = Unit {0}
HasDims dims (by.Combine operation) = Unit {0}
HasDims dims (by.Keep n) = n ≤ 65536
HasDims dims (by.Back n) = Unit {0}

-- the same of the command that was read, if there is one
abbrev pub ReadsDims : ℕ → Result (Option Command) Bad → Type 0
ReadsDims dims (Ok (Some c)) = HasDims dims c
ReadsDims dims (Ok None) = Unit {0}
ReadsDims dims (Err b) = Unit {0}
