-- How much room blocks have.
use Rattle.std.specs.Prelude.{◌≡◌, ℕ, ◌+◌, ◌*◌, ◌<◌, ◌≤◌, Bool, nat_le, List, length, Result, IsOk, OnOk}
use Rattle.ph_specs.specs.Pack.{is_cube}
use Rattle.ph_specs.specs.Record.{first_in, has_cube}
use Rattle.ph_bits.specs.Filled.{Filled}
use Rattle.ph_bits.specs.declared.edits.Edit.{Edit}
use Rattle.ph_node.specs.RecordEdit.{with_edit, words_with}

-- the places of a block: those of its words, those of its values, and the spare ones
abbrev pub places_of : {X : Type 0} → Filled X → ℕ
places_of b = length b.words + b.spare + length b.values

-- whether a block has at most half as many places more than its words and its values want, and a few
abbrev pub is_used : {X : Type 0} → Filled X → Bool
is_used b = nat_le (2 * places_of b) (3 * (length b.words + length b.values) + 4)

abbrev pub IsUsed : {X : Type 0} → Filled X → Type 0
IsUsed b = 2 * places_of b ≤ 3 * (length b.words + length b.values) + 4

-- a record keeps its layout with an edit
abbrev pub IsLayoutKept : ℕ → List ℕ → Edit → Type 0
IsLayoutKept dims words e = is_cube dims (first_in words).level (length (with_edit dims words e)) ≡ has_cube dims (first_in words)

-- the record of a block keeps its layout with an edit, and the block has places for the words that it has then
abbrev pub HasPlaces : {X : Type 0} → ℕ → Filled X → Edit → Type 0
HasPlaces dims old e = IsLayoutKept dims old.words e × (words_with dims old.words e ≤ length old.words + old.spare)

-- a block has at most a quarter more places than the record with an edit and the values behind it want
abbrev pub IsFitting : {X : Type 0} → ℕ → Filled X → Edit → Filled X → Type 0
IsFitting dims old e new = 4 * places_of new ≤ 5 * (words_with dims old.words e + length old.values)

-- what room the block of a record has after an edit. Where it has the places, no call fails and it keeps them; else it has a fitting room.
-- Either way most of it stays in use
pub record IsRoomFor {A E X : Type 0} (dims : ℕ) (old : Filled X) (e : Edit) (r : Result A E) (new : Filled X) : Type 0 where
  pub lean : HasPlaces dims old e → IsOk r
  pub same : HasPlaces dims old e → places_of new ≡ places_of old
  pub longer : length old.words + old.spare < words_with dims old.words e → OnOk r (IsFitting dims old e new)
  pub changed : (IsLayoutKept dims old.words e → ⊥) → OnOk r (IsFitting dims old e new)
  pub used : IsUsed old → OnOk r (IsUsed new)
