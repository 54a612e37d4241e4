-- A record in a layout that is given, whether or not it is the smaller one: cube where the test is true.
use Rattle.std.specs.Prelude.{◌≡◌, ℕ, ◌+◌, ◌-◌, ◌/◌, ◌%◌, ◌^◌, ◌<◌, ◌≤◌, List, [], ◌∷◌, length, map, take, drop, Bool, true, false, if◌then◌else◌, Option, Some, None}
use Rattle.ph_specs.specs.Node.{Flat}
use Rattle.ph_model.specs.Lawful.{IsBody}
use Rattle.ph_specs.specs.Digits.{field, number_of, words_for, read_fields}
use Rattle.ph_specs.specs.Pack.{linear_digits, cube_digits}
use Rattle.ph_specs.specs.Record.{First, first_in, widths, padding, Tables, tables_in, Read, read_point, read_child}

-- ---- the tables

-- the digits of the tables
abbrev pub digits_as : Bool → ℕ → First → ℕ
digits_as cube dims f = if cube then cube_digits dims f.level else linear_digits dims f.level f.entries

-- the number that the words of the tables make
abbrev pub number_as : Bool → ℕ → List ℕ → ℕ
number_as cube dims words =
    number_of (map (field 64) (take (words_for (digits_as cube dims (first_in words))) (drop 1 words)))

-- the numbers in the fields of the tables
abbrev pub fields_as : Bool → ℕ → List ℕ → List ℕ
fields_as cube dims words =
    let digits = digits_as cube dims (first_in words) in
    read_fields digits (widths cube dims (first_in words)) (number_as cube dims words / 2 ^ padding digits)

-- the tables that these numbers make
abbrev pub tables_as : Bool → ℕ → List ℕ → Tables
tables_as cube dims words = tables_in cube dims (first_in words) (fields_as cube dims words)

-- the entries of the tables
abbrev pub entries_as : Bool → ℕ → List ℕ → List Read
entries_as cube dims words = (tables_as cube dims words).entries

-- the values behind the tables
abbrev pub values_as : Bool → ℕ → List ℕ → List ℕ
values_as cube dims words = drop (1 + words_for (digits_as cube dims (first_in words))) words

-- words that are a record of the layout
pub record IsRecord (cube : Bool) (dims : ℕ) (words : List ℕ) : Type 0 where
  pub some : 1 ≤ dims
  pub few : dims ≤ 16
  pub low : (first_in words).level ≤ 61
  pub least : 1 ≤ (first_in words).entries
  pub most : (first_in words).entries ≤ 2 ^ dims
  pub kids : (first_in words).children ≤ (first_in words).entries
  pub bottom : (first_in words).level ≡ 0 → (first_in words).children ≡ 0
  pub long : length words ≡ 1 + words_for (digits_as cube dims (first_in words)) + ((first_in words).entries - (first_in words).children)
  pub tables : (tables_as cube dims words).is_lawful ≡ true
  pub padded : number_as cube dims words % 2 ^ padding (digits_as cube dims (first_in words)) ≡ 0

-- ---- entries

-- the address of an entry of the tables
abbrev pub read_address : Read → ℕ
read_address (read_point a body) = a
read_address (read_child a body) = a

-- whether an entry of the tables is a child
abbrev pub is_child : Read → Bool
is_child (read_point a body) = false
is_child (read_child a body) = true

-- an entry of the tables by what a list keeps: a point where it has a value
abbrev pub read_kept : Option ℕ → ℕ → List ℕ → Read
read_kept (Some v) a body = read_point a body
read_kept None a body = read_child a body

-- an entry of a list without its value
abbrev pub unvalued : Flat → Read
unvalued e = read_kept e.value e.addr e.body

-- entries whose addresses rise from `least` on, with a body each: what is lawful of a node's own entries, whatever is below its children
abbrev pub AreRising : ℕ → ℕ → ℕ → List Flat → Type 0
AreRising dims level least [] = Unit {0}
AreRising dims level least (e ∷ es) =
    (least ≤ e.addr) × (e.addr < 2 ^ dims) × IsBody dims level e.body × AreRising dims level (e.addr + 1) es
