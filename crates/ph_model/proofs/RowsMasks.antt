-- Worked rows: masks, next addresses, windows and what is left of them.
use Rattle.std.proofs.Common.{◌≡◌, refl, length, List, [], ◌∷◌, pos, negsuc, false}
use Rattle.std.specs.Prelude.{Some, None}
use Rattle.ph_specs.specs.Table.{Row, row}
use Rattle.ph_specs.specs.Region.{Region}
use Rattle.ph_specs.specs.WorkSets.{meets}
use Rattle.ph_model.specs.Masks.{masks, fits_masks, next_address, next_fitting}
use Rattle.ph_specs.specs.Window.{window, rest}

-- coordinates from -4 to 3, and everything as a region
abbrev all : Region
all = record { corner = pos 0 ∷ pos 0 ∷ []; level = 2 }

-- the first coordinates are in both halves, the second in the upper alone
upper_strip : masks 3 all (negsuc 3 ∷ pos 1 ∷ []) (pos 3 ∷ pos 3 ∷ []) ≡ Some (1, 3)
upper_strip = refl

one_quarter : masks 3 all (negsuc 3 ∷ pos 0 ∷ []) (negsuc 0 ∷ pos 0 ∷ []) ≡ Some (1, 1)
one_quarter = refl

-- a window with reversed bounds, and one beside the quarter in which both coordinates are negative
reversed : masks 3 all (pos 1 ∷ pos 1 ∷ []) (pos 0 ∷ pos 2 ∷ []) ≡ None
reversed = refl

beside : masks 3 (record { corner = negsuc 0 ∷ negsuc 0 ∷ []; level = 1 }) (pos 0 ∷ negsuc 3 ∷ []) (pos 3 ∷ pos 3 ∷ []) ≡ None
beside = refl

-- of three digits those that have the last and not the first: 1 and 3
first_next : next_address 3 1 1 3 ≡ 3
first_next = refl

-- 0, 1, 4 and 5 have no middle digit
over_a_gap : next_address 3 1 0 5 ≡ 4
over_a_gap = refl

-- in a word of 64 digits
in_a_word : next_address 64 1 0 5 ≡ 4
in_a_word = refl

gap_fits : fits_masks 2 0 5 ≡ false
gap_fits = refl

abbrev five : List Row
five =
    row (negsuc 3 ∷ negsuc 3 ∷ []) 1
    ∷ row (negsuc 2 ∷ pos 1 ∷ []) 2
    ∷ row (negsuc 0 ∷ pos 1 ∷ []) 3
    ∷ row (pos 0 ∷ pos 0 ∷ []) 4
    ∷ row (pos 3 ∷ pos 3 ∷ []) 5
    ∷ []

listing : window (negsuc 3 ∷ pos 0 ∷ []) (pos 0 ∷ pos 3 ∷ []) five ≡
    row (negsuc 2 ∷ pos 1 ∷ []) 2 ∷ row (negsuc 0 ∷ pos 1 ∷ []) 3 ∷ row (pos 0 ∷ pos 0 ∷ []) 4 ∷ []
listing = refl

going_on : rest 3 (record
    { lo = negsuc 3 ∷ pos 0 ∷ []; hi = pos 0 ∷ pos 3 ∷ []; last = Some (negsuc 2 ∷ pos 1 ∷ []) }) five ≡
    row (negsuc 0 ∷ pos 1 ∷ []) 3 ∷ row (pos 0 ∷ pos 0 ∷ []) 4 ∷ []
going_on = refl

-- behind a number that does not fit itself, and at the last one that does
behind_a_gap : next_fitting 3 2 0 5 ≡ Some 4
behind_a_gap = refl

behind_the_last : next_fitting 3 5 0 5 ≡ None
behind_the_last = refl

opening_all : length (meets 3 2 five (negsuc 3 ∷ pos 0 ∷ []) (pos 0 ∷ pos 3 ∷ [])) ≡ 3
opening_all = refl
