-- What the numbers that the code keeps are in the definitions.
use Rattle.std.proofs.Common.{◌≡◌, ℕ, ◌+◌, ◌^◌, ◌<◌, ◌≤◌, true, false, refl, add-one, arith, inl, inr}
use Rattle.std.specs.Prelude.{ℤ, pos, negsuc, Option, Some, None, is_some, option_map, nat_lt, nat_le}
use Rattle.std.proofs.lemmas.Bool.Decides.{nat_tests}
use Rattle.ph_coord.specs.Spelling.{of_whole}
use Rattle.ph_specs.specs.Coordinate.{fits}
use Rattle.ph_specs.specs.Command.{kept_coordinate, is_number_below}
use Rattle.ph_specs.proofs.laws.Put.{either}
use Rattle.ph_script.specs.declared.coords.Coord.{Coord}
use Rattle.ph_script.specs.declared.coords.Coord.TheVariants.{Whole, Far}
use Rattle.ph_script.specs.Meaning.{number_of_coord}
use Rattle.ph_script.specs.Parts.{coord_of, count_of}

fits-pos : (n : ℕ) → fits 64 (pos n) ≡ nat_lt n (2 ^ 63)
fits-pos n = grind (arith, nat_tests)

fits-negsuc : (n : ℕ) → fits 64 (negsuc n) ≡ nat_le (n + 1) (2 ^ 63)
fits-negsuc n = grind (arith, nat_tests)

-- a coordinate that a word spells, as the code keeps it and as the definitions do
pub record KeepsCoord (z : Option ℤ) : Type 0 where
  pub kept : Coord
  pub code : coord_of (of_whole z) ≡ Some kept
  pub same : option_map kept_coordinate z ≡ Some (number_of_coord kept)

far-pos : (n : ℕ) → nat_lt n (2 ^ 63) ≡ false → coord_of (of_whole (Some (pos n))) ≡ Some Far
far-pos n far =
    elim (either (nat_lt n (2 ^ 128))) [
      | inl sized ↦ rw (sized, far) refl
      | inr wide ↦ rw wide refl
    ]

far-negsuc : (n : ℕ) → nat_le (n + 1) (2 ^ 63) ≡ false → coord_of (of_whole (Some (negsuc n))) ≡ Some Far
far-negsuc n far =
    elim (either (nat_lt (n + 1) (2 ^ 128))) [
      | inl sized ↦ rw (sized, far) refl
      | inr wide ↦ rw wide refl
    ]

keeps-pos : (n : ℕ) → KeepsCoord (Some (pos n))
keeps-pos n =
    elim (either (nat_lt n (2 ^ 63))) [
      | inl near ↦ (let l : nat_lt n (2 ^ 128) ≡ true = grind (arith, nat_tests) in
          record { kept = Whole (pos n); code = rw (l, near) refl; same = rw (fits-pos n, near) refl })
      | inr far ↦ record { kept = Far; code = far-pos n far; same = rw (fits-pos n, far) refl }
    ]

keeps-negsuc : (n : ℕ) → KeepsCoord (Some (negsuc n))
keeps-negsuc n =
    elim (either (nat_le (n + 1) (2 ^ 63))) [
      | inl near ↦ (let l : nat_lt (n + 1) (2 ^ 128) ≡ true = grind (arith, nat_tests) in
          record { kept = Whole (negsuc n); code = rw (l, near, add-one n) refl; same = rw (fits-negsuc n, near) refl })
      | inr far ↦ record { kept = Far; code = far-negsuc n far; same = rw (fits-negsuc n, far) refl }
    ]

pub keeps-coord : (z : Option ℤ) → is_some z ≡ true → KeepsCoord z
keeps-coord None h = absurd (let k : false ≡ true = h in cc)
keeps-coord (Some (pos n)) h = keeps-pos n
keeps-coord (Some (negsuc n)) h = keeps-negsuc n

-- the same of a number below a limit
pub record KeepsCount (limit : ℕ) (z : Option ℤ) : Type 0 where
  pub kept : ℕ
  pub below : kept < limit
  pub code : count_of limit (of_whole z) ≡ Some kept
  pub same : z ≡ Some (pos kept)

pub keeps-count : (limit : ℕ) (z : Option ℤ) → limit ≤ 2 ^ 128 → is_number_below limit z ≡ true → KeepsCount limit z
keeps-count limit None l h = absurd (let k : false ≡ true = h in cc)
keeps-count limit (Some (pos n)) l h =
    let b : n < limit = grind (arith, nat_tests) in
    let w : nat_lt n (2 ^ 128) ≡ true = grind (arith, nat_tests) in
    record { kept = n; below = b; code = rw (w, h) refl; same = refl }
keeps-count limit (Some (negsuc n)) l h = absurd (let k : false ≡ true = h in cc)
