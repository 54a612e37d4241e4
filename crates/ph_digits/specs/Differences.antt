-- The word whose digits tell at which places numbers differ, and the greatest of these places.
use Rattle.std.specs.Prelude.{◌≡◌, ℕ, ◌+◌, ◌<◌, List, [], ◌∷◌}
use Rattle.std.specs.Int.Bits.{bit_or, bit_xor}
use Rattle.ph_model.specs.PutTree.{digits_from}

-- a word, joined with the exclusive or of each two numbers
abbrev pub differences : ℕ → List ℕ → List ℕ → ℕ
differences places [] ys = places
differences places (x ∷ xs) [] = places
differences places (x ∷ xs) (y ∷ ys) = differences (bit_or places (bit_xor x y)) xs ys

-- the greatest place at which two lists of numbers differ
pub record IsTopDifference (xs ys : List ℕ) (place : ℕ) : Type 0 where
  pub within : place < 64
  pub agree : digits_from (place + 1) xs ≡ digits_from (place + 1) ys
  pub differ : digits_from place xs ≡ digits_from place ys → ⊥
