-- Bodies and addresses, cut from the offsets of a point.
use Rattle.std.proofs.Common.{◌≡◌, ℕ, suc, ◌+◌, ◌-◌, ◌*◌, ◌/◌, ◌%◌, ◌^◌, ◌≤◌, List, [], ◌∷◌, length, take}
use Rattle.std.proofs.Common.{drop, replicate, map, refl, ap, sym, ◌∙◌, subst, true, eqb-true}
use Rattle.std.specs.Prelude.{ℤ}
use Rattle.std.specs.List.{list_all}
use Rattle.std.proofs.lemmas.Bool.{and_parts}
use Rattle.ph_digits.proofs.Cuts.{take-below, is_body-below}
use Rattle.ph_specs.specs.Coordinate.{offset, coordinate, fits, is_point}
use Rattle.ph_specs.specs.ZOrder.{address, address_from}
use Rattle.ph_specs.specs.Shape.{digits_below}
use Rattle.ph_model.specs.Lawful.{IsBody}
use Rattle.ph_model.specs.PutTree.{body_address, body_address_from, body_below}
use Rattle.ph_specs.proofs.laws.Order.{offset_small}
use Rattle.ph_model.proofs.lemmas.Joined.{offsets, offsets-coordinate}
use Rattle.ph_model.proofs.lemmas.PointDigits.{point-whole}
use Rattle.ph_model.proofs.lemmas.Splits.{below-offsets}
use Rattle.ph_node.specs.Bodies.{IsBodyArray}
use Rattle.ph_node.proofs.BodyArrays.{filled-below, filled-behind}
use Rattle.ph_tree.specs.Key.{Key, key, IsKey}

address-from : (start place w : ℕ) (p : List ℤ) → body_address_from start place (offsets w p) ≡ address_from start w p place
address-from start place w [] = refl
address-from start place w (c ∷ p) = address-from (start * 2 + offset w c / 2 ^ place % 2) place w p

-- offsets in range are a body at the width
is_body-offsets : (w : ℕ) (p : List ℤ) → 1 ≤ w → list_all (fits w) p ≡ true → IsBody (length p) w (offsets w p)
is_body-offsets w [] l h = (refl, tt)
is_body-offsets w (c ∷ p) l h =
    let ih : IsBody (length p) w (offsets w p) = is_body-offsets w p l (and_parts _ _ h).1 in
    (ap suc ih.0, (offset_small w c l (and_parts _ _ h).0, ih.1))

pub point-long : (w dims : ℕ) (p : List ℤ) → is_point w dims p ≡ true → length p ≡ dims
point-long w dims p h = eqb-true (length p) dims (and_parts _ _ h).0

pub point-fits : (w dims : ℕ) (p : List ℤ) → is_point w dims p ≡ true → list_all (fits w) p ≡ true
point-fits w dims p h = (and_parts _ _ h).1

-- the offsets of a point make a key, and the point is given back
pub made : (w dims : ℕ) (p : List ℤ) (os : List ℕ) → 1 ≤ dims → dims ≤ 16 → 1 ≤ w → w ≤ 62 →
    is_point w dims p ≡ true → take (length p) os ≡ offsets w p → drop (length p) os ≡ replicate (16 - length p) 0 →
    IsKey dims w os
made w dims p os a b l u h e f =
    let long : length p ≡ dims = point-long w dims p h in
    let body : IsBody (length p) w (offsets w p) = is_body-offsets w p l (point-fits w dims p h) in
    record {
      some = a;
      few = b;
      wide = l;
      narrow = u;
      body = subst (λ n. IsBodyArray n w os) long (record { fields = subst (IsBody (length p) w) (sym e) body; filled = filled-behind (length p) os f });
    }

pub given_back : (w dims : ℕ) (p : List ℤ) (os : List ℕ) → is_point w dims p ≡ true → take (length p) os ≡ offsets w p → map (coordinate w) (take dims os) ≡ p
given_back w dims p os h e =
    ap (λ n. map (coordinate w) (take n os)) (sym (point-long w dims p h)) ∙ ap (map (coordinate w)) e ∙ (point-whole w dims p h).back

-- ---- of a key

module _ (dims w : ℕ) (os : List ℕ) (k : Key) (is : key dims w os ≡ k) where
  pub offsets_are : take dims os ≡ offsets k.width k.point
  offsets_are =
      sym (offsets-coordinate w (take dims os)) ∙ ap (λ u. offsets u.width u.point) is

  pub address_is : (level : ℕ) → body_address level (take dims os) ≡ address k.width k.point level
  address_is level = ap (body_address level) offsets_are ∙ address-from 0 level k.width k.point

  pub below_is : (level : ℕ) → take dims (body_below level os) ≡ digits_below k.width level k.point
  below_is level = take-below level dims os ∙ ap (body_below level) offsets_are ∙ sym (below-offsets k.width level k.point)

  pub body_is : (level : ℕ) → IsKey dims w os → IsBodyArray dims level (body_below level os)
  body_is level h = record {
    fields = subst (IsBody dims level) (sym (take-below level dims os)) (is_body-below dims level (take dims os) h.body.fields.0);
    filled = filled-below dims level os h.body.filled;
  }
