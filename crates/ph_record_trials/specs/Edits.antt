-- Edits of one entry, at a place and an address.
use Rattle.std.specs.Prelude.{ℕ, Bool, true, false, List, replicate}
use Rattle.ph_bits.specs.declared.edits.Edit.{Edit}

-- so many entries less and more: a child or a point
abbrev edit_of : ℕ × ℕ → ℕ → ℕ → Bool → List ℕ → ℕ → Edit
edit_of at less more child body value =
    record { place = at.0; less = less; more = more; entry = record { addr = at.1; child = child; body = body; rank = 0 }; value = value }

-- a point that is put in
abbrev pub insert_of : ℕ × ℕ → List ℕ → ℕ → Edit
insert_of at body value = edit_of at 0 1 false body value

-- a point that is left out
abbrev pub remove_of : ℕ × ℕ → Edit
remove_of at = edit_of at 1 0 false (replicate 16 9) 0

-- an entry that becomes a child
abbrev pub child_of : ℕ × ℕ → List ℕ → Edit
child_of at body = edit_of at 1 1 true body 0

-- an entry that becomes a point
abbrev pub point_of : ℕ × ℕ → List ℕ → ℕ → Edit
point_of at body value = edit_of at 1 1 false body value
