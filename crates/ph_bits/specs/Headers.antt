-- What the header of a block says, and what its parts are.
use Rattle.std.specs.Prelude.{◌≡◌, ℕ, zero, suc, ◌+◌, ◌-◌, ◌*◌, ◌/◌, ◌%◌, ◌≤◌, ◌^◌, Bool, true, false, List, [], ◌∷◌, length, Option, Some}
use Rattle.std.specs.declared.alloc.Global.{Global}
use Rattle.ph_bits.specs.Filled.{Filled}
use Rattle.ph_bits.specs.Slots.{given, words_in}
use Rattle.ph_bits.specs.declared.places.Start.{Start}
use Rattle.ph_bits.specs.declared.places.Places.{Places}
use Rattle.ph_bits.specs.declared.places.Right.{Right}
use Rattle.ph_bits.specs.declared.kids.Kids.{Kids}

-- the numbers of places for words, of words and of values, as one number
abbrev pub header : ℕ → ℕ → ℕ → ℕ
header room words values = room * 2 ^ 42 + words * 2 ^ 21 + values

-- the first place has it
abbrev pub header_of : List (Option ℕ) → ℕ
header_of [] = 0
header_of (c ∷ cs) = given c

abbrev pub len_of : List (Option ℕ) → ℕ
len_of cs = header_of cs / 2 ^ 21 % 2 ^ 21

-- each of the first n places has a word
abbrev pub are_written : ℕ → List (Option ℕ) → Bool
are_written zero cs = true
are_written (suc n) (Some x ∷ cs) = are_written n cs
are_written (suc n) _ = false

-- what the places and the values behind them are seen as
abbrev pub shown : {X : Type 0} → List (Option ℕ) → List X → Global → Filled X
shown cs xs heap = record { words = words_in (len_of cs) cs; spare = length cs - 1 - len_of cs; values = xs; heap = heap }

-- the parts are those of one block, in which the values lie behind the words' places
abbrev pub IsFilled : {X : Type 0} → Start → Places → Right Global → Global → Kids X → Type 0
IsFilled s p r heap k = (s.at ≡ p.at) × (r.at ≡ p.at) × (r.alloc ≡ heap) × (k.at ≡ p.at) × (k.from ≡ length p.slots) × (r.room ≡ length p.slots + length k.items)
    × (length p.slots + length k.items ≤ 2 ^ 21) × (are_written (len_of p.slots + 1) p.slots ≡ true)
    × (header_of p.slots + 2 ^ 42 ≡ header (length p.slots) (len_of p.slots) (length k.items))
