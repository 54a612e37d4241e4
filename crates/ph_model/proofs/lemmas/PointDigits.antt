-- The digits of a point, above a place, at it and below it.
use Rattle.std.proofs.Common.{◌≡◌, ℕ, suc, ◌+◌, ◌*◌, ◌/◌, ◌^◌, ◌<◌, ◌≤◌, refl, sym, ◌∙◌, ap, arith, List, [], ◌∷◌, length, map, replicate, true, false, eqb-true}
use Rattle.std.specs.Prelude.{ℤ}
use Rattle.std.specs.List.{list_all}
use Rattle.std.specs.Cmp.Lexicographic.{pointwise_decides}
use Rattle.std.proofs.lemmas.Bool.Decides.{Decides-eqb}
use Rattle.std.proofs.lemmas.Bool.{and_parts}
use Rattle.std.proofs.Math.Nat.{mul-mod_left, div-eq_of_lt}
use Rattle.ph_specs.specs.Coordinate.{offset, coordinate, fits, is_point}
use Rattle.ph_specs.specs.ZOrder.{address}
use Rattle.ph_specs.specs.Shape.{digits_below, digits_between}
use Rattle.ph_specs.specs.TreeRows.{put_together}
use Rattle.ph_model.specs.Lawful.{HasZerosFrom, IsAbove}
use Rattle.ph_specs.specs.DelTree.{same_digits}
use Rattle.ph_specs.proofs.laws.Order.{offset_small}
use Rattle.ph_model.proofs.laws.TableShape.{coordinate-offset}
use Rattle.ph_model.proofs.lemmas.Joined.{offsets, number_at, address_from-is}
use Rattle.ph_model.proofs.lemmas.Assembled.{cleared, number_at-small, put_together-digits, cleared-zero, length-cleared}
use Rattle.ph_model.proofs.lemmas.Shaped.{below-between, between-between}

pub same_digits-true : (xs ys : List ℕ) → same_digits xs ys ≡ true → xs ≡ ys
same_digits-true xs ys h = (pointwise_decides Decides-eqb xs ys).0 h

pub same_digits-refl : (xs ys : List ℕ) → xs ≡ ys → same_digits xs ys ≡ true
same_digits-refl xs ys e = (pointwise_decides Decides-eqb xs ys).1 e

pub same_digits-false : (xs ys : List ℕ) → same_digits xs ys ≡ false → xs ≡ ys → ⊥
same_digits-false xs ys h e = let clash : true ≡ false = sym (same_digits-refl xs ys e) ∙ h in cc

-- a list of so many coordinates, each of which its offset gives back
pub record IsWhole (w dims : ℕ) (p : List ℤ) : Type 0 where
  pub long : length (offsets w p) ≡ dims
  pub back : map (coordinate w) (offsets w p) ≡ p

pub point-whole : (w dims : ℕ) (p : List ℤ) → is_point w dims p ≡ true → IsWhole w dims p
point-whole w dims p h =
    record { long = long p ∙ eqb-true (length p) dims (and_parts _ _ h).0; back = back p (and_parts _ _ h).1 }
  where
    long : (p : List ℤ) → length (offsets w p) ≡ length p
    long [] = refl
    long (c ∷ p) = ap suc (long p)

    back : (p : List ℤ) → list_all (fits w) p ≡ true → map (coordinate w) (offsets w p) ≡ p
    back [] k = refl
    back (c ∷ p) k =
        ap (λ t. t ∷ map (coordinate w) (offsets w p)) (coordinate-offset w c (and_parts _ _ k).0) ∙ ap {B = List ℤ} (λ t. c ∷ t) (back p (and_parts _ _ k).1)

-- above all places of the width a point has zeros
pub none-known : (w dims : ℕ) (p : List ℤ) → 1 ≤ w → is_point w dims p ≡ true → replicate dims 0 ≡ cleared w (offsets w p)
none-known w dims p l h =
    ap (λ n. replicate n 0) (sym (eqb-true (length p) dims (and_parts _ _ h).0)) ∙ zeros p (and_parts _ _ h).1
  where
    zeros : (p : List ℤ) → list_all (fits w) p ≡ true → replicate (length p) 0 ≡ cleared w (offsets w p)
    zeros [] k = refl
    zeros (c ∷ p) k =
        let z : offset w c / 2 ^ w ≡ 0 = div-eq_of_lt (offset_small w c l (and_parts _ _ k).0) in
        let o : 0 ≡ 0 * 2 ^ w = omega arith in
        let e : 0 ≡ offset w c / 2 ^ w * 2 ^ w = o ∙ sym (ap (λ n. n * 2 ^ w) z) in
        ap (λ t. t ∷ replicate (length p) 0) e ∙ ap {B = List ℕ} (λ t. offset w c / 2 ^ w * 2 ^ w ∷ t) (zeros p (and_parts _ _ k).1)

pub zeros-cleared : (c : ℕ) (xs : List ℕ) → HasZerosFrom c (cleared (c + 1) xs)
zeros-cleared c [] = tt
zeros-cleared c (x ∷ xs) = (mul-mod_left (x / 2 ^ (c + 1)) (2 ^ (c + 1)), zeros-cleared c xs)

-- what is known of a point above a level
pub above-point : (w dims b : ℕ) (p : List ℤ) → IsWhole w dims p → IsAbove dims b (cleared (b + 1) (offsets w p))
above-point w dims b p h = record { long = length-cleared (b + 1) (offsets w p) ∙ h.long; zeros = zeros-cleared b (offsets w p) }

pub address-is : (w b : ℕ) (p : List ℤ) → address w p b ≡ number_at 0 b (offsets w p)
address-is w b p = address_from-is w 0 b p

-- the digits above a place, the address at it and the digits below it are the point
pub known-point : (w b : ℕ) (p : List ℤ) → put_together b (address w p b) (cleared (b + 1) (offsets w p)) (digits_below w b p) ≡ offsets w p
known-point w b p =
    ap (λ t. put_together b t (cleared (b + 1) (offsets w p)) (digits_below w b p)) (address-is w b p)
    ∙ ap (put_together b (number_at 0 b (offsets w p)) (cleared (b + 1) (offsets w p))) (below-between w b p)
    ∙ put_together-digits 0 b 0 (offsets w p) (omega arith)
    ∙ cleared-zero (offsets w p)

pub known-between : (w b c : ℕ) (p : List ℤ) → c < b →
    put_together b (address w p b) (cleared (b + 1) (offsets w p)) (digits_between w b c p) ≡ cleared (c + 1) (offsets w p)
known-between w b c p l =
    ap (λ t. put_together b t (cleared (b + 1) (offsets w p)) (digits_between w b c p)) (address-is w b p)
    ∙ ap (put_together b (number_at 0 b (offsets w p)) (cleared (b + 1) (offsets w p))) (between-between w b c p)
    ∙ put_together-digits 0 b (c + 1) (offsets w p) (omega (arith, l))

pub address-below : (w dims b : ℕ) (p : List ℤ) → IsWhole w dims p → address w p b < 2 ^ dims
address-below w dims b p h =
    let l : number_at 0 b (offsets w p) < 2 ^ length (offsets w p) = number_at-small b (offsets w p) in
    let m : 2 ^ length (offsets w p) ≡ 2 ^ dims = ap (λ n. 2 ^ n) h.long in
    omega (arith, address-is w b p, l, m)
