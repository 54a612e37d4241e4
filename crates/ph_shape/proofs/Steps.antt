-- One step of a node's making: the rows in front that share an address become an entry.
use Rattle.std.proofs.Common.{◌≡◌, ℕ, zero, suc, ◌+◌, ◌-◌, ◌<◌, ◌≤◌, refl, sym, ◌∙◌, ap, subst, arith, List, []}
use Rattle.std.proofs.Common.{◌∷◌, ◌++◌, length, get_or, take, drop, map, eqb-true, Bool, true}
use Rattle.std.specs.Prelude.{ℤ, Some, None, slice_get}
use Rattle.std.specs.List.{AllByRecursion as Each, list_all}
use Rattle.std.proofs.Math.Seq.{take-append_seam}
use Rattle.std.proofs.lemmas.List.{take-append-drop, length-map}
use Rattle.std.proofs.lemmas.Bool.{and_parts}
use Rattle.ph_specs.specs.Coordinate.{is_point}
use Rattle.ph_specs.specs.Table.{Row, IsTable}
use Rattle.ph_specs.specs.Node.{PlainNode}
use Rattle.ph_model.specs.EntryList.{Entry, What, in_front, value}
use Rattle.ph_specs.specs.Shape.{row_address, digits_below, digits_between, entries_of, groups}
use Rattle.ph_zorder.specs.Compared.{IsTopDifference}
use Rattle.ph_shape.specs.Bodies.{filled, IsFilled}
use Rattle.ph_shape.specs.Groups.{HaveAddress, IsGroup, FirstDiffers, IsCut, group_entry}
use Rattle.ph_shape.proofs.Fronts.{item-is}
use Rattle.ph_shape.proofs.Groups.{entries-of_front, group-parts, point-entry, child-entry, IsChildEntry}

-- ---- the first rows

pub first-is : {X : Type 0} (xs : List X) (x : X) → Some x ≡ slice_get xs 0 → (1 ≤ length xs) × (x ≡ get_or xs 0 x)
first-is [] x e = cc
first-is (y ∷ ys) x e = (omega arith, cc)

pub none-is : {X : Type 0} (xs : List X) → None ≡ slice_get xs 0 → xs ≡ []
none-is [] e = refl
none-is (y ∷ ys) e = cc

map-append : {X : Type 0} (f : X → Row) (xs ys : List X) → map f (xs ++ ys) ≡ map f xs ++ map f ys
map-append f [] ys = refl
map-append f (x ∷ xs) ys = ap {B = List Row} (λ t. f x ∷ t) (map-append f xs ys)

map-take : {X : Type 0} (f : X → Row) (n : ℕ) (xs : List X) → map f (take n xs) ≡ take n (map f xs)
map-take f zero xs = refl
map-take f (suc n) [] = refl
map-take f (suc n) (x ∷ xs) = ap {B = List Row} (λ t. f x ∷ t) (map-take f n xs)

map-drop : {X : Type 0} (f : X → Row) (n : ℕ) (xs : List X) → map f (drop n xs) ≡ drop n (map f xs)
map-drop f zero xs = refl
map-drop f (suc n) [] = refl
map-drop f (suc n) (x ∷ xs) = map-drop f n xs

some-front : {X : Type 0} (f : X → Row) (w place a n : ℕ) (xs : List X) (x : X) → Some x ≡ slice_get xs 0 →
    row_address w place (f x) ≡ a → IsCut w place a (map f xs) n → 1 ≤ length (take n xs)
some-front f w place a n [] x e h k = cc
some-front f w place a zero (y ∷ ys) x e h k =
    let same : x ≡ y = cc in
    absurd (k.next (sym h ∙ ap (λ z. row_address w place (f z)) same))
some-front f w place a (suc n) (y ∷ ys) x e h k = omega arith

pub record IsStep {X : Type 0} (f : X → Row) (w dims place a : ℕ) (below : List Row → PlainNode) (rest front back : List X) : Type 0 where
  pub some : 1 ≤ length front
  pub group : IsGroup w dims place (map f front)
  pub addr : HaveAddress w place a (map f front)
  pub behind : IsGroup w dims (place + 1) (map f back)
  pub next : entries_of w place below (groups w place (map f rest)) ≡
      in_front (group_entry w place below (map f front)).addr (group_entry w place below (map f front)).body
      (group_entry w place below (map f front)).what (entries_of w place below (groups w place (map f back)))

pub step : {X : Type 0} (f : X → Row) (w dims place a n : ℕ) (below : List Row → PlainNode) (rest front back : List X)
    (x : X) → IsGroup w dims (place + 1) (map f rest) → Some x ≡ slice_get rest 0 → row_address w place (f x) ≡ a →
    IsCut w place a (map f rest) n → front ≡ take n rest → back ≡ drop n rest → IsStep f w dims place a below rest front back
step {X} f w dims place a n below rest front back x g e h k p q =
    let whole : map f rest ≡ map f front ++ map f back = ap (map f) (sym (take-append-drop n rest)) ∙
    map-append f (take n rest) (drop n rest) ∙ ap (λ (t : List X). map f t ++ map f (drop n rest)) (sym p) ∙
    ap (λ (t : List X). map f front ++ map f t) (sym q) in
    let one : HaveAddress w place a (map f front) = subst (HaveAddress w place a) (sym (ap (map f) p ∙ map-take f n rest)) k.front in
    let other : FirstDiffers w place a (map f back) = subst (FirstDiffers w place a) (sym (ap (map f) q ∙ map-drop f n rest)) k.next in
    let some : 1 ≤ length front = subst (λ (t : List X). 1 ≤ length t) (sym p) (some-front f w place a n rest x e h k) in
    let parts = group-parts w dims place a (map f front) (map f back) (subst (IsGroup w dims (place + 1)) whole g) one in
    record {
      some = some;
      group = parts.0;
      addr = one;
      behind = parts.1;
      next = ap (λ t. entries_of w place below (groups w place t)) whole ∙ entries-of_front w place a below
          (map f front) (map f back) (omega (arith, some, length-map front f)) one other;
    }

-- ---- the entry of a group

last-of-map : {X : Type 0} (f : X → Row) (xs : List X) (y : X) → y ≡ get_or xs (length xs - 1) y → f y ≡ get_or (map f xs) (length (map f xs) - 1) (f y)
last-of-map f xs y e =
    sym (item-is f xs (length xs - 1) y e) ∙ ap (λ n. get_or (map f xs) (n - 1) (f y)) (sym (length-map xs f))

pub point-of-map : {X : Type 0} (f : X → Row) (w dims place : ℕ) (below : List Row → PlainNode) (xs : List X)
    (x y : X) → IsGroup w dims place (map f xs) → 1 ≤ length xs → x ≡ get_or xs 0 x →
    y ≡ get_or xs (length xs - 1) y → (f x).point ≡ (f y).point →
    group_entry w place below (map f xs) ≡
    record { addr = row_address w place (f x); body = digits_below w place (f x).point; what = value (f x).value }
point-of-map f w dims place below xs x y g l e h same =
    point-entry w dims place below (map f xs) (f x) (f y) g (omega (arith, l, length-map xs f)) (sym (item-is f xs 0 x e)) (last-of-map f xs y h) same

pub child-of-map : {X : Type 0} (f : X → Row) (w dims place t : ℕ) (xs : List X) (x y : X) → place < w →
    IsGroup w dims place (map f xs) → 1 ≤ length xs → x ≡ get_or xs 0 x → y ≡ get_or xs (length xs - 1) y →
    IsTopDifference w (f x).point (f y).point t → IsChildEntry w dims place t (map f xs) (f x)
child-of-map f w dims place t xs x y p g l e h d =
    child-entry w dims place t (map f xs) (f x) (f y) p g (omega (arith, l, length-map xs f)) (sym (item-is f xs 0 x e)) (last-of-map f xs y h) d

-- ---- bodies

pub take-filled : (dims : ℕ) (ds : List ℕ) → length ds ≡ dims → take dims (filled ds) ≡ ds
take-filled dims ds e = ap (λ n. take n (filled ds)) (sym e) ∙ take-append_seam ds _

pub filled-is : (dims : ℕ) (ds body : List ℕ) → body ≡ filled ds → length ds ≡ dims → IsFilled dims body
filled-is dims ds body e l = e ∙ ap filled (sym (ap (take dims) e ∙ take-filled dims ds l))

-- an entry as it is made
pub entry-made : (dims a b : ℕ) (body ds : List ℕ) (what : What) → a ≡ b → body ≡ filled ds → length ds ≡ dims →
    ◌≡◌ {A = Entry} (record { addr = a; body = take dims body; what = what }) (record { addr = b; body = ds; what = what })
entry-made dims a b body ds what e f l =
    ap {B = Entry} (λ t. record { addr = t; body = take dims body; what = what }) e ∙
    ap {B = Entry} (λ t. record { addr = b; body = t; what = what }) (ap (take dims) f ∙ take-filled dims ds l)

long : (w dims : ℕ) (p : List ℤ) → is_point w dims p ≡ true → length p ≡ dims
long w dims p h = eqb-true (length p) dims (and_parts _ _ h).0

pub length-below : (w dims place : ℕ) (p : List ℤ) → is_point w dims p ≡ true → length (digits_below w place p) ≡ dims
length-below w dims place p h = length-map p _ ∙ long w dims p h

pub length-between : (w dims place low : ℕ) (p : List ℤ) → is_point w dims p ≡ true → length (digits_between w place low p) ≡ dims
length-between w dims place low p h = length-map (digits_below w place p) _ ∙ length-below w dims place p h

-- ---- the root

each-test : {X : Type 0} (p : X → Bool) (xs : List X) → list_all p xs ≡ true → Each (λ x. p x ≡ true) xs
each-test p [] h = tt
each-test p (x ∷ xs) h = ((and_parts _ _ h).0, each-test p xs (and_parts _ _ h).1)

-- a table is a group from its width on
pub table-group : (w dims : ℕ) (rows : List Row) → IsTable w dims rows → IsGroup w dims w rows
table-group w dims rows h = record {
  points = each-test (λ r. is_point w dims r.point) rows (and_parts _ _ (and_parts _ _ h).1).0;
  rise = (and_parts _ _ h).0;
  alike = λ k l m. absurd (let no : ⊥ = omega (arith, l, m) in no);
}
