-- The forms of the code's table in the definitions, and the search among forms.
use Rattle.std.specs.Prelude.{◌≡◌, ℕ, ◌+◌, ◌-◌, ◌^◌, ◌==◌, true, false, if◌then◌else◌, List, [], ◌∷◌, ◌++◌, length, replicate, take, drop, codes, bytes_eq, ℤ}
use Rattle.std.specs.Cmp.Lexicographic.{pointwise}
use Rattle.ph_specs.specs.Command.{Command as Asked, Place as Asks, Form as Spelling, Reading, form, read_form, number_fits, fixed_fits}
use Rattle.ph_specs.specs.Command.{count, value, radius, kinds, fixed, coordinates, number_at, first_word, kind_of, slot_of}
use Rattle.ph_specs.specs.Command.Command.{Begin as AskBegin, Put as AskPut, Get as AskGet, Del as AskDel, Relocate as AskRelocate, Count as AskCount}
use Rattle.ph_specs.specs.Command.Command.{Clear as AskClear, Window as AskWindow, Cursor as AskCursor, Page as AskPage, Near as AskNear}
use Rattle.ph_specs.specs.Command.Command.{Within as AskWithin, Overlap as AskOverlap, Inside as AskInside, Covers as AskCovers, Save as AskSave}
use Rattle.ph_specs.specs.Command.Command.{Load as AskLoad, Import as AskImport, Export as AskExport, Statistics as AskStatistics, Select as AskSelect}
use Rattle.ph_specs.specs.Command.Command.{Compare as AskCompare, Join as AskJoin, Combine as AskCombine, Keep as AskKeep, Back as AskBack}
use Rattle.ph_specs.specs.Command.Place.{Coordinate as AsksCoordinate, Below, CursorName, FileName as AsksFileName, OneOf}
use Rattle.ph_script.specs.declared.command.Bad.{Bad}
use Rattle.ph_script.specs.declared.command.Bad.TheVariants.{Word as BadWord, Count as BadCount, Number as BadNumber, Name as BadName}
use Rattle.ph_script.specs.Meaning.{bad_reply}
use Rattle.ph_script.specs.declared.forms.Verb.{Verb}
use Rattle.ph_script.specs.declared.forms.Verb.TheVariants.{Open, OpenBits, OpenMax, OpenBitsMax, Put, Get, Del, Relocate, Count, Clear, Window}
use Rattle.ph_script.specs.declared.forms.Verb.TheVariants.{Cursor, Page, Near, Within, Overlap, Inside, Covers, Save, Load, Import}
use Rattle.ph_script.specs.declared.forms.Verb.TheVariants.{ImportHeader, Export, Stats, Select, Same, Join, Combine, Keep, Back}
use Rattle.ph_script.specs.declared.forms.Place.{Place}
use Rattle.ph_script.specs.declared.forms.Place.TheVariants.{Coordinate, UpTo, Name, FileName, Fixed, Either}
use Rattle.ph_script.specs.declared.forms.Form.{Form}
use Rattle.ph_script.specs.declared.spread.Spread.{Spread}

abbrev pub place_of : Place → Asks
place_of Coordinate = AsksCoordinate
place_of (UpTo most) = Below (most + 1)
place_of Name = CursorName
place_of FileName = AsksFileName
place_of (Fixed word) = fixed word.now
place_of (Either first second) = OneOf (first.now ∷ second.now ∷ [])

-- the words that one of a form stands for
abbrev pub group_of : ℕ → Place → List Asks
group_of dims Coordinate = coordinates dims
group_of dims (UpTo most) = Below (most + 1) ∷ []
group_of dims Name = CursorName ∷ []
group_of dims FileName = AsksFileName ∷ []
group_of dims (Fixed word) = fixed word.now ∷ []
group_of dims (Either first second) = OneOf (first.now ∷ second.now ∷ []) ∷ []

-- those that a form has
abbrev pub places_of : ℕ → List Place → List Asks
places_of dims [] = []
places_of dims (place ∷ []) = group_of dims place
places_of dims (place ∷ next ∷ more) = group_of dims place ++ places_of dims (next ∷ more)

-- those that are still to come
abbrev pub spread_of : Spread → List Asks
spread_of s = replicate s.times (place_of s.place) ++ places_of s.dims s.more.now

-- the places of a command, and what it makes of the numbers and the words there
abbrev pub places_by : Verb → ℕ → List Asks
places_by Open dims = kinds ∷ count ∷ []
places_by OpenBits dims = kinds ∷ count ∷ fixed (codes "bits") ∷ count ∷ []
places_by OpenMax dims = kinds ∷ count ∷ fixed (codes "max") ∷ value ∷ []
places_by OpenBitsMax dims = kinds ∷ count ∷ fixed (codes "bits") ∷ count ∷ fixed (codes "max") ∷ value ∷ []
places_by Put dims = coordinates dims ++ value ∷ []
places_by Get dims = coordinates dims
places_by Del dims = coordinates dims
places_by Relocate dims = coordinates dims ++ coordinates dims
places_by Count dims = []
places_by Clear dims = []
places_by Window dims = coordinates dims ++ coordinates dims
places_by Cursor dims = CursorName ∷ coordinates dims ++ coordinates dims
places_by Page dims = CursorName ∷ count ∷ []
places_by Near dims = coordinates dims ++ count ∷ []
places_by Within dims = coordinates dims ++ radius ∷ []
places_by Overlap dims = coordinates dims
places_by Inside dims = coordinates dims
places_by Covers dims = coordinates dims
places_by Save dims = AsksFileName ∷ []
places_by Load dims = AsksFileName ∷ []
places_by Import dims = AsksFileName ∷ []
places_by ImportHeader dims = AsksFileName ∷ fixed (codes "header") ∷ []
places_by Export dims = AsksFileName ∷ []
places_by Stats dims = []
places_by Select dims = OneOf (codes "a" ∷ codes "b" ∷ []) ∷ []
places_by Same dims = []
places_by Join dims = []
places_by (Combine operation) dims = []
places_by Keep dims = Below 65537 ∷ []
places_by Back dims = count ∷ []

abbrev pub command_by : Verb → ℕ → List ℤ → List (List ℕ) → Asked
command_by Open dims = λ n t. AskBegin (kind_of t) (number_at n 0) 32 (2 ^ 64 - 1)
command_by OpenBits dims = λ n t. AskBegin (kind_of t) (number_at n 0) (number_at n 1) (2 ^ 64 - 1)
command_by OpenMax dims = λ n t. AskBegin (kind_of t) (number_at n 0) 32 (number_at n 1)
command_by OpenBitsMax dims = λ n t. AskBegin (kind_of t) (number_at n 0) (number_at n 1) (number_at n 2)
command_by Put dims = λ n t. AskPut (take dims n) (number_at n dims)
command_by Get dims = λ n t. AskGet n
command_by Del dims = λ n t. AskDel n
command_by Relocate dims = λ n t. AskRelocate (take dims n) (drop dims n)
command_by Count dims = λ n t. AskCount
command_by Clear dims = λ n t. AskClear
command_by Window dims = λ n t. AskWindow (take dims n) (drop dims n)
command_by Cursor dims = λ n t. AskCursor (first_word t) (take dims n) (drop dims n)
command_by Page dims = λ n t. AskPage (first_word t) (number_at n 0)
command_by Near dims = λ n t. AskNear (take dims n) (number_at n dims)
command_by Within dims = λ n t. AskWithin (take dims n) (number_at n dims)
command_by Overlap dims = λ n t. AskOverlap n
command_by Inside dims = λ n t. AskInside n
command_by Covers dims = λ n t. AskCovers n
command_by Save dims = λ n t. AskSave (first_word t)
command_by Load dims = λ n t. AskLoad (first_word t)
command_by Import dims = λ n t. AskImport (first_word t) false
command_by ImportHeader dims = λ n t. AskImport (first_word t) true
command_by Export dims = λ n t. AskExport (first_word t)
command_by Stats dims = λ n t. AskStatistics
command_by Select dims = λ n t. AskSelect (slot_of t)
command_by Same dims = λ n t. AskCompare
command_by Join dims = λ n t. AskJoin
command_by (Combine operation) dims = λ n t. AskCombine operation
command_by Keep dims = λ n t. AskKeep (number_at n 0)
command_by Back dims = λ n t. AskBack (number_at n 0)

abbrev pub form_of : ℕ → Form → Spelling
form_of dims f = form f.word.now (places_of dims f.places.now) (command_by f.verb dims)

-- a form has the places of its command
abbrev pub IsRow : Form → Type 0
IsRow f = (dims : ℕ) → places_of dims f.places.now ≡ places_by f.verb dims

-- what is wrong once a form of the word was seen that has another number of places
abbrev pub counted : Bad → Bad
counted BadWord = BadCount
counted bad = bad

-- what is wrong with words by a form whose own words are not there
abbrev pub bad_in : Spelling → List (List ℕ) → Bad
bad_in f ws = if pointwise number_fits f.places ws then BadName else BadNumber

-- what the words behind a command's word are by the first form of the word that has so many places and whose own words are there; behind
-- some forms that are not this one, by which so much is wrong
unfoldable pub read_among : Bad → List ℕ → List (List ℕ) → List Spelling → Reading
read_among bad word ws [] = Reading.Refused (bad_reply bad)
read_among bad word ws (f ∷ fs) =
    let own : Reading = if pointwise fixed_fits f.places ws then read_form f ws else read_among (bad_in f ws) word ws fs in
    let sized : Reading = if length f.places == length ws then own else read_among (counted bad) word ws fs in
    if bytes_eq f.word word then sized else read_among bad word ws fs

-- a form of the word with these places is passed over, behind which so much is wrong
abbrev pub IsPassed : Bad → Bad → List Asks → List (List ℕ) → Type 0
IsPassed bad next places ws =
    (f : Spelling) (word : List ℕ) (fs : List Spelling) → f.places ≡ places → bytes_eq f.word word ≡ true
    → read_among bad word ws (f ∷ fs) ≡ read_among next word ws fs

-- it refuses the words
abbrev pub IsRefusing : Bad → Bad → List Asks → List (List ℕ) → Type 0
IsRefusing bad b places ws =
    (f : Spelling) (word : List ℕ) (fs : List Spelling) → f.places ≡ places → bytes_eq f.word word ≡ true
    → read_among bad word ws (f ∷ fs) ≡ Reading.Refused (bad_reply b)
