-- Entries in the order of their names, and the place of a name among them.
use Rattle.std.proofs.Common.{◌≡◌, ◌≤◌, ◌<◌, ◌+◌, ℕ, zero, suc, Bool, true, false, List, [], ◌∷◌, ◌++◌, length, take, drop, refl, ap, sym, ◌∙◌, subst}
use Rattle.std.proofs.Common.{arith, cond, get_or, add-one, ◌&&◌}
use Rattle.std.specs.Prelude.{Option, Some, Result, Ok, Err, is_some, is_ok, slice_get, option_map, IfOk}
use Rattle.std.specs.List.{AllByRecursion, refill}
use Rattle.std.specs.Ordering.{nat_cmp, is_eq}
use Rattle.std.specs.declared.cmp.Ordering.{Ordering}
use Rattle.std.specs.declared.cmp.Ordering.TheVariants.{Less, Equal, Greater}
use Rattle.std.specs.Cmp.Lexicographic.{slice_cmp, nat_list_cmp_total}
use Rattle.std.specs.FinMap.Entries.{by_order, put, below_all, is_sorted, is_sorted-put, length-put}
use Rattle.std.proofs.Math.Dec.{T}
use Rattle.std.proofs.lemmas.List.{length-map, append-nil}
use Rattle.std.proofs.Math.ListN.{drop_of_length-le}
use Rattle.std.proofs.Math.Seq.{drop-cons, take-length}
use Rattle.std.proofs.lemmas.Map.Lookups.{exact_bytes}
use Rattle.ph_specs.specs.Named.{Named, lookup, has_name, enter}
use Rattle.ph_slot.specs.Naming.{place, shifted, under, entered_at}

-- a list of so many, or of one more
longer : (b : Bool) (n : ℕ) → suc n ≡ cond b n (n + 1) → b ≡ false
longer true n h = absurd (omega (arith, h))
longer false n h = refl

pub true-is : (b : Bool) → b ≡ true → T b
true-is b h = subst T (sym h) tt

pub is-true : (b : Bool) → T b → b ≡ true
is-true true h = refl
is-true false h = absurd h

second-part : (a b : Bool) → T (a && b) → T b
second-part true b h = h
second-part false b h = absurd h

ok-shifted : (r : Result ℕ ℕ) → is_ok (shifted r) ≡ is_ok r
ok-shifted (Ok i) = refl
ok-shifted (Err i) = refl

-- a name that comes before all is not there
missing : {X : Type 0} (name : List ℕ) (e : List ℕ × X) (es : Named X) → T (is_sorted (slice_cmp nat_cmp) (e ∷ es)) →
    slice_cmp nat_cmp name e.0 ≡ Less → has_name name (e ∷ es) ≡ false
missing name e es h l =
    longer (has_name name (e ∷ es)) (length (e ∷ es))
    (sym (ap (λ o. length (by_order o ((name, e.1) ∷ e ∷ es) ((e.0, e.1) ∷ es)
    (e ∷ put (slice_cmp nat_cmp) name e.1 es))) l) ∙ length-put (slice_cmp nat_cmp) nat_list_cmp_total name e.1 (e ∷ es) h)

-- a name is there exactly where it has a place of its own
pub has-place : {X : Type 0} (name : List ℕ) (es : Named X) → T (is_sorted (slice_cmp nat_cmp) es) → has_name name es ≡ is_ok (place name es)
has-place name [] h = refl
has-place name (e ∷ es) h =
    elim (slice_cmp nat_cmp name e.0) as (λ o. slice_cmp nat_cmp name e.0 ≡ o →
    is_some (cond (is_eq o) (Some e.1) (lookup name es)) ≡ is_ok (by_order o (Err 0) (Ok 0) (shifted (place name es)))) [
      | Less ↦ λ l. ap (λ o. is_some (cond (is_eq o) (Some e.1) (lookup name es))) (sym l) ∙ missing name e es h l
      | Equal ↦ λ l. refl
      | Greater ↦ λ l. has-place name es (second-part (below_all (slice_cmp nat_cmp) e.0 es) (is_sorted (slice_cmp nat_cmp) es) h) ∙ sym (ok-shifted (place name es))
    ] refl

-- ---- a list whose elements have names

entered-shifted : {A : Type 0} (r : Result ℕ ℕ) (a b : A) (xs : List A) → entered_at (shifted r) a (b ∷ xs) ≡ b ∷ entered_at r a xs
entered-shifted (Ok i) a b xs = refl
entered-shifted (Err i) a b xs = refl

-- one that is entered at its place is entered in the map
pub under-entered : {A X : Type 0} (key : A → List ℕ) (value : A → X) (a : A) (xs : List A) →
    enter (key a) (value a) (under key value xs) ≡ under key value (entered_at (place (key a) (under key value xs)) a xs)
under-entered key value a [] = refl
under-entered key value a (b ∷ xs) =
    elim (slice_cmp nat_cmp (key a) (key b)) as (λ o. slice_cmp nat_cmp (key a) (key b) ≡ o →
    by_order o ((key a, value a) ∷ under key value (b ∷ xs)) ((key b, value a) ∷ under key value xs)
    ((key b, value b) ∷ enter (key a) (value a) (under key value xs)) ≡
    under key value (entered_at (by_order o (Err 0) (Ok 0) (shifted (place (key a) (under key value xs)))) a (b ∷ xs))) [
      | Less ↦ λ l. refl
      | Equal ↦ λ l. ap (λ k. (k, value a) ∷ under key value xs) (sym (exact_bytes (key a) (key b) l))
      | Greater ↦ λ l. ap (λ es. (key b, value b) ∷ es) (under-entered key value a xs) ∙
          sym (ap (under key value) (entered-shifted (place (key a) (under key value xs)) a b xs))
    ] refl

-- so the names stay in order
pub sorted-entered : {A X : Type 0} (key : A → List ℕ) (value : A → X) (a : A) (xs : List A) →
    T (is_sorted (slice_cmp nat_cmp) (under key value xs)) →
    T (is_sorted (slice_cmp nat_cmp) (under key value (entered_at (place (key a) (under key value xs)) a xs)))
sorted-entered key value a xs h =
    subst (λ (es : Named _). T (is_sorted (slice_cmp nat_cmp) es)) (under-entered key value a xs)
    (is_sorted-put (slice_cmp nat_cmp) nat_list_cmp_total (key a) (value a) (under key value xs) h)

-- and the list is longer by one where the name is new
pub length-entered : {A X : Type 0} (key : A → List ℕ) (value : A → X) (a : A) (xs : List A) →
    T (is_sorted (slice_cmp nat_cmp) (under key value xs)) →
    length (entered_at (place (key a) (under key value xs)) a xs) ≡ cond (has_name (key a) (under key value xs))
    (length xs) (length xs + 1)
length-entered key value a xs h =
    let new = entered_at (place (key a) (under key value xs)) a xs in
    sym (length-map new (λ b. (key b, value b))) ∙ sym (ap (λ es. length es) (under-entered key value a xs)) ∙
    length-put (slice_cmp nat_cmp) nat_list_cmp_total (key a) (value a) (under key value xs) h
    ∙ ap (λ n. cond (has_name (key a) (under key value xs)) n (n + 1)) (length-map xs (λ b. (key b, value b)))

-- what holds of each and of the new one holds of each then
pub all-entered : {A X : Type 0} (P : A → Type 0) (key : A → List ℕ) (value : A → X) (a : A) (xs : List A) →
    AllByRecursion P xs → P a → AllByRecursion P (entered_at (place (key a) (under key value xs)) a xs)
all-entered P key value a [] h p = (p, tt)
all-entered P key value a (b ∷ xs) h p =
    elim (slice_cmp nat_cmp (key a) (key b))
    as (λ o. AllByRecursion P (entered_at
    (by_order o (Err 0) (Ok 0) (shifted (place (key a) (under key value xs)))) a (b ∷ xs))) [
      | Less ↦ (p, h)
      | Equal ↦ (p, h.1)
      | Greater ↦ subst (AllByRecursion P) (sym (entered-shifted (place (key a) (under key value xs)) a b xs)) (h.0, all-entered P key value a xs h.1 p)
    ]

-- ---- places

-- what stands at a name's own place is what is found under it
found-shifted : {X : Type 0} (r : Result ℕ ℕ) (x : Option X) (e : List ℕ × X) (es : Named X) →
    IfOk r (λ i. x ≡ option_map (λ f. f.1) (slice_get es i)) →
    IfOk (shifted r) (λ i. x ≡ option_map (λ f. f.1) (slice_get (e ∷ es) i))
found-shifted (Ok i) x e es h = h
found-shifted (Err i) x e es h = tt

pub found-at : {X : Type 0} (name : List ℕ) (es : Named X) → IfOk (place name es) (λ i. lookup name es ≡ option_map (λ f. f.1) (slice_get es i))
found-at name [] = tt
found-at name (e ∷ es) =
    elim (slice_cmp nat_cmp name e.0)
    as (λ o. IfOk (by_order o (Err 0) (Ok 0) (shifted (place name es)))
    (λ i. cond (is_eq o) (Some e.1) (lookup name es) ≡ option_map (λ f. f.1) (slice_get (e ∷ es) i))) [
      | Less ↦ tt
      | Equal ↦ refl
      | Greater ↦ found-shifted (place name es) (lookup name es) e es (found-at name es)
    ]

get-under : {A X : Type 0} (key : A → List ℕ) (value : A → X) (xs : List A) (i : ℕ) (d : A) → i < length xs →
    option_map (λ f. f.1) (slice_get (under key value xs) i) ≡ Some (value (get_or xs i d))
get-under key value [] i d h = absurd (omega (arith, h))
get-under key value (x ∷ xs) zero d h = refl
get-under key value (x ∷ xs) (suc i) d h = get-under key value xs i d (omega (arith, h))

pub found-in : {A X : Type 0} (key : A → List ℕ) (value : A → X) (name : List ℕ) (xs : List A) (i : ℕ) (d : A) →
    place name (under key value xs) ≡ Ok i → i < length xs → lookup name (under key value xs) ≡ Some (value (get_or xs i d))
found-in key value name xs i d e h =
    subst (λ (r : Result ℕ ℕ). IfOk r
    (λ j. lookup name (under key value xs) ≡ option_map (λ f. f.1) (slice_get (under key value xs) j))) e
    (found-at name (under key value xs)) ∙ get-under key value xs i d h

-- what holds of each holds of one
pub all-at : {A : Type 0} (P : A → Type 0) (xs : List A) (i : ℕ) (d : A) → AllByRecursion P xs → i < length xs → P (get_or xs i d)
all-at P [] i d h l = absurd (omega arith)
all-at P (x ∷ xs) zero d h l = h.0
all-at P (x ∷ xs) (suc i) d h l = all-at P xs i d h.1 (omega arith)

-- ---- going over the entries one by one

abbrev pub moved : ℕ → Result ℕ ℕ → Result ℕ ℕ
moved zero r = r
moved (suc n) r = moved n (shifted r)

moved-err : (n m : ℕ) → moved n (Err m) ≡ Err (n + m)
moved-err zero m = let e : m ≡ 0 + m = omega arith in ap (λ k. Err k) e
moved-err (suc n) m = moved-err n (suc m) ∙ (let e : n + suc m ≡ suc n + m = omega arith in ap (λ k. Err k) e)

moved-ok : (n m : ℕ) → moved n (Ok m) ≡ Ok (n + m)
moved-ok zero m = let e : m ≡ 0 + m = omega arith in ap (λ k. Ok k) e
moved-ok (suc n) m = moved-ok n (suc m) ∙ (let e : n + suc m ≡ suc n + m = omega arith in ap (λ k. Ok k) e)

-- the place of a name behind the first n elements, as a place among all
abbrev pub place_behind : {A X : Type 0} → (A → List ℕ) → (A → X) → ℕ → List ℕ → List A → Result ℕ ℕ
place_behind key value n name xs = moved n (place name (under key value (drop n xs)))

-- by the order of the name to that of the next element
behind-next : {A X : Type 0} (key : A → List ℕ) (value : A → X) (n : ℕ) (name : List ℕ) (xs : List A) (d : A)
    (o : Ordering) → n < length xs → slice_cmp nat_cmp name (key (get_or xs n d)) ≡ o →
    place_behind key value n name xs ≡
    moved n (by_order o (Err 0) (Ok 0) (shifted (place name (under key value (drop (suc n) xs)))))
behind-next key value n name xs d o h l =
    ap (λ ys. moved n (place name (under key value ys))) (drop-cons xs n d h)
    ∙ ap (λ r. moved n (by_order r (Err 0) (Ok 0) (shifted (place name (under key value (drop (suc n) xs)))))) l

pub behind-less : {A X : Type 0} (key : A → List ℕ) (value : A → X) (n : ℕ) (name : List ℕ) (xs : List A) (d : A) →
    n < length xs → slice_cmp nat_cmp name (key (get_or xs n d)) ≡ Less → place_behind key value n name xs ≡ Err n
behind-less key value n name xs d h l =
    behind-next key value n name xs d Less h l ∙ moved-err n 0 ∙ (let e : n + 0 ≡ n = omega arith in ap (λ k. Err k) e)

pub behind-equal : {A X : Type 0} (key : A → List ℕ) (value : A → X) (n : ℕ) (name : List ℕ) (xs : List A) (d : A) →
    n < length xs → slice_cmp nat_cmp name (key (get_or xs n d)) ≡ Equal → place_behind key value n name xs ≡ Ok n
behind-equal key value n name xs d h l =
    behind-next key value n name xs d Equal h l ∙ moved-ok n 0 ∙ (let e : n + 0 ≡ n = omega arith in ap (λ k. Ok k) e)

pub behind-greater : {A X : Type 0} (key : A → List ℕ) (value : A → X) (n : ℕ) (name : List ℕ) (xs : List A) (d : A) →
    n < length xs → slice_cmp nat_cmp name (key (get_or xs n d)) ≡ Greater →
    place_behind key value n name xs ≡ place_behind key value (n + 1) name xs
behind-greater key value n name xs d h l = rw add-one (behind-next key value n name xs d Greater h l)

pub behind-all : {A X : Type 0} (key : A → List ℕ) (value : A → X) (n : ℕ) (name : List ℕ) (xs : List A) → length xs ≤ n → place_behind key value n name xs ≡ Err n
behind-all key value n name xs h =
    ap (λ ys. moved n (place name (under key value ys))) (drop_of_length-le xs h) ∙ moved-err n 0 ∙ (let e : n + 0 ≡ n = omega arith in ap (λ k. Err k) e)

-- where a name has no place of its own there is room for it, if there is none only where it is there
pub room-for : {A X : Type 0} (key : A → List ℕ) (value : A → X) (name : List ℕ) (xs : List A) (i : ℕ) →
    is_sorted (slice_cmp nat_cmp) (under key value xs) ≡ true → length xs ≤ 16 →
    (length xs ≡ 16 → has_name name (under key value xs) ≡ true) → place name (under key value xs) ≡ Err i → length xs < 16
room-for key value name xs i s l h e =
    let no : has_name name (under key value xs) ≡ false = has-place name (under key value xs)
    (true-is (is_sorted (slice_cmp nat_cmp) (under key value xs)) s) ∙ ap (λ r. is_ok r) e in
    less (length xs) l (λ k. absurd (let f : true ≡ false = sym (h k) ∙ no in cc))
  where
    less : (n : ℕ) → n ≤ 16 → (n ≡ 16 → ⊥) → n < 16
    less n h k = omega arith

-- a list that is filled with another as long is that one
pub refilled : {A : Type 0} (xs ys : List A) → length ys ≡ length xs → refill (length xs) xs ys ≡ ys
refilled xs ys e =
    let none : drop (length ys) xs ≡ [] = drop_of_length-le xs (omega (arith, e)) in
    ap (λ t. take (length xs) (ys ++ t)) none ∙ ap (take (length xs)) (append-nil ys) ∙ ap (λ n. take n ys) (sym e) ∙ take-length ys
