-- Lists of rows by the rows of code that they are seen of.
use Rattle.std.proofs.Common.{◌≡◌, ℕ, zero, suc, ◌+◌, ◌<◌, ◌≤◌, refl, sym, ◌∙◌, ap, subst, arith, List, [], ◌∷◌, length, get_or, take, drop, map, ◌≢◌}
use Rattle.std.specs.List.{AllByRecursion as Each}
use Rattle.std.proofs.Math.ListN.{get_or-map}
use Rattle.std.proofs.lemmas.List.{take_more}
use Rattle.ph_specs.specs.Table.{Row}
use Rattle.ph_specs.specs.Shape.{row_address}
use Rattle.ph_shape.specs.Groups.{HaveAddress, FirstDiffers, IsCut}
use Rattle.ph_model.proofs.lemmas.RowsBehind.{Each-append}

-- what holds of each holds of one
pub each-at : {X : Type 0} (P : X → Type 0) (xs : List X) (i : ℕ) (d : X) → Each P xs → i < length xs → P (get_or xs i d)
each-at P [] i d h l = absurd (let no : ⊥ = omega (arith, l) in no)
each-at P (x ∷ xs) zero d h l = h.0
each-at P (x ∷ xs) (suc i) d h l = each-at P xs i d h.1 (omega (arith, l))

-- the item of a list that another is seen of
pub item-is : {X Y : Type 0} (f : X → Y) (xs : List X) (i : ℕ) (x : X) → x ≡ get_or xs i x → get_or (map f xs) i (f x) ≡ f x
item-is f xs i x e = get_or-map f xs i x ∙ ap f (sym e)

pub each-item : {X Y : Type 0} (P : Y → Type 0) (f : X → Y) (xs : List X) (i : ℕ) (x : X) → Each P (map f xs) → i < length (map f xs) → x ≡ get_or xs i x → P (f x)
each-item P f xs i x h l e = subst P (item-is f xs i x e) (each-at P (map f xs) i (f x) h l)

-- one more in front
pub each-more : {X : Type 0} (P : X → Type 0) (xs : List X) (i : ℕ) (d : X) → i < length xs → Each P (take i xs) → P (get_or xs i d) → Each P (take (i + 1) xs)
each-more P xs i d l h p =
    subst (Each P) (sym (take_more xs i d l)) (Each-append P (take i xs) (get_or xs i d ∷ []) h (p, tt))

-- the first of what is behind
pub drop-first : {X : Type 0} (xs : List X) (i : ℕ) (d : X) → i < length xs → (more : List X) × (drop i xs ≡ get_or xs i d ∷ more)
drop-first [] i d l = absurd (let no : ⊥ = omega (arith, l) in no)
drop-first (x ∷ xs) zero d l = (xs, refl)
drop-first (x ∷ xs) (suc i) d l = drop-first xs i d (omega (arith, l))

-- a cut in front of a row with another address
pub cut-here : (w place a : ℕ) (rows : List Row) (i : ℕ) (r : Row) → i < length rows →
    HaveAddress w place a (take i rows) → get_or rows i r ≡ r → row_address w place r ≢ a → IsCut w place a rows i
cut-here w place a rows i r l h e n =
    let d : (more : List Row) × (drop i rows ≡ get_or rows i r ∷ more) = drop-first rows i r l in
    record {
      within = omega (arith, l);
      front = h;
      next = subst (FirstDiffers w place a) (sym d.1) (λ q. n (ap (row_address w place) (sym e) ∙ sym q));
    }

drop-all : {X : Type 0} (i : ℕ) (xs : List X) → length xs ≤ i → drop i xs ≡ []
drop-all zero [] l = refl
drop-all zero (x ∷ xs) l = absurd (let no : ⊥ = omega (arith, l) in no)
drop-all (suc i) [] l = refl
drop-all (suc i) (x ∷ xs) l = drop-all i xs (omega (arith, l))

-- and behind all rows
pub cut-all : (w place a : ℕ) (rows : List Row) (i : ℕ) → i ≡ length rows → HaveAddress w place a (take i rows) → IsCut w place a rows i
cut-all w place a rows i e h =
    record { within = omega (arith, e); front = h; next = subst (FirstDiffers w place a) (sym (drop-all i rows (omega (arith, e)))) tt }
