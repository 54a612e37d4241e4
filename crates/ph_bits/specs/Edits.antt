-- The entries of a record with their values, and with one edit; and how many words the record of some entries wants.
use Rattle.std.specs.Prelude.{ℕ, zero, suc, ◌+◌, ◌-◌, Bool, List, [], ◌∷◌, ◌++◌, Some, None, take, drop, replicate, if◌then◌else◌}
use Rattle.ph_specs.specs.Digits.{words_for}
use Rattle.ph_specs.specs.Node.{Flat}
use Rattle.ph_specs.specs.Pack.{is_cube, cube_digits, linear_digits}
use Rattle.ph_specs.specs.Record.{Read, read_point, read_child, entries_in, values_in}
use Rattle.ph_model.specs.Layout.{entries_as, values_as}
use Rattle.ph_bits.specs.declared.edits.Edit.{Edit}
use Rattle.ph_bits.specs.declared.entries.Packed.{Packed}

-- entries that were read, each point with its value
abbrev pub flats : List Read → List ℕ → List Flat
flats (read_point a body ∷ rs) (v ∷ vs) = record { addr = a; body = body; value = Some v } ∷ flats rs vs
flats (read_child a body ∷ rs) vs = record { addr = a; body = body; value = None } ∷ flats rs vs
flats _ _ = []

abbrev pub flats_in : ℕ → List ℕ → List Flat
flats_in dims words = flats (entries_in dims words) (values_in dims words)

-- ---- one edit

-- a list with so many elements less from a place on, and so many copies of x there
abbrev pub edited : {A : Type 0} → ℕ → ℕ → ℕ → A → List A → List A
edited zero less more x xs = replicate more x ++ drop less xs
edited (suc place) less more x [] = replicate more x
edited (suc place) less more x (y ∷ ys) = y ∷ edited place less more x ys

-- an entry that is written, and its value where it is a point
abbrev pub new_flat : ℕ → Packed → ℕ → Flat
new_flat dims p v = record { addr = p.addr; body = take dims p.body; value = if p.child then None else Some v }

-- the entries of an old record with an edit
abbrev pub edit_of : ℕ → List ℕ → ℕ → ℕ → ℕ → Packed → ℕ → List Flat
edit_of dims words place less more p v = edited place less more (new_flat dims p v) (flats_in dims words)

-- the same of a record in a layout that is given
abbrev pub edited_as : Bool → ℕ → List ℕ → Edit → List Flat
edited_as cube dims words e =
    edited e.place e.less e.more (new_flat dims e.entry e.value) (flats (entries_as cube dims words) (values_as cube dims words))

-- how many of n entries there are then
abbrev pub count_edited : ℕ → Edit → ℕ
count_edited n e = e.place + e.more + (n - (e.place + e.less))

-- ---- words

-- the digits of the tables in the smaller layout
abbrev pub least_digits : ℕ → ℕ → ℕ → ℕ
least_digits dims level n = if is_cube dims level n then cube_digits dims level else linear_digits dims level n

-- the words of the record of n entries in that layout, so many of which are points
abbrev pub words_wanted : ℕ → ℕ → ℕ → ℕ → ℕ
words_wanted dims level n points = 1 + words_for (least_digits dims level n) + points
