-- Laws of groups: they hold the rows in order, each has one address, and the addresses rise.
use Rattle.std.proofs.Common.{◌≡◌, ◌≢◌, ℕ, suc, ◌+◌, ◌*◌, ◌/◌, ◌%◌, ◌^◌, ◌<◌, ◌≤◌, refl, sym, ◌∙◌, ap, subst, arith, List, []}
use Rattle.std.proofs.Common.{◌∷◌, ◌++◌, length, get_or, drop, eqb-true, ltb-true, true, false, Bool, ◌&&◌, ◌||◌}
use Rattle.std.specs.Prelude.{ℤ, ◌==◌, nat_lt}
use Rattle.std.specs.List.{AllByRecursion as Each}
use Rattle.std.proofs.lemmas.Nat.{div-add-mod'}
use Rattle.std.proofs.lemmas.Bool.{eqb-false}
use Rattle.ph_specs.specs.ZOrder.{address, before_below}
use Rattle.ph_specs.specs.Table.{Row}
use Rattle.ph_specs.specs.Shape.{Group, row_address, put_in_front, groups}
use Rattle.ph_specs.proofs.lemmas.Places.{div-pow-add}
use Rattle.ph_model.proofs.lemmas.Joined.{from_place, number_at}
use Rattle.ph_model.proofs.lemmas.Assembled.{number_at-digit}

-- ---- lists

pub Each-front : {X : Type 0} (P : X → Type 0) (xs ys : List X) → Each P (xs ++ ys) → Each P xs
Each-front P [] ys h = tt
Each-front P (x ∷ xs) ys h = (h.0, Each-front P xs ys h.1)

pub Each-back : {X : Type 0} (P : X → Type 0) (xs ys : List X) → Each P (xs ++ ys) → Each P ys
Each-back P [] ys h = h
Each-back P (x ∷ xs) ys h = Each-back P xs ys h.1

-- each row comes before all later ones by the places below one
abbrev pub Rises : ℕ → ℕ → List Row → Type 0
Rises w b [] = Unit {0}
Rises w b (r ∷ rs) = Each (λ s. before_below b w r.point s.point ≡ true) rs × Rises w b rs

pub Rises-front : (w b : ℕ) (xs ys : List Row) → Rises w b (xs ++ ys) → Rises w b xs
Rises-front w b [] ys h = tt
Rises-front w b (x ∷ xs) ys h =
    (Each-front (λ s. before_below b w x.point s.point ≡ true) xs ys h.0, Rises-front w b xs ys h.1)

pub Rises-back : (w b : ℕ) (xs ys : List Row) → Rises w b (xs ++ ys) → Rises w b ys
Rises-back w b [] ys h = h
Rises-back w b (x ∷ xs) ys h = Rises-back w b xs ys h.1

-- ---- the order of two points

by_test : (w b : ℕ) (p q : List ℤ) (lt eq : Bool) → nat_lt (address w p b) (address w q b) ≡ lt →
    (address w p b == address w q b) ≡ eq → (lt || (eq && before_below b w p q)) ≡ true →
    (address w p b ≤ address w q b) × (address w p b ≡ address w q b → before_below b w p q ≡ true)
by_test w b p q true eq l e h =
    let k : address w p b < address w q b = ltb-true (address w p b) (address w q b) l in
    (omega (arith, k), λ s. absurd (omega (arith, k, s)))
by_test w b p q false true l e h =
    let k : address w p b ≡ address w q b = eqb-true (address w p b) (address w q b) e in
    (omega (arith, k), λ s. h)
by_test w b p q false false l e h = cc

pub before_parts : (w b : ℕ) (p q : List ℤ) → before_below (suc b) w p q ≡ true → (address w p b ≤ address w q b) ×
    (address w p b ≡ address w q b → before_below b w p q ≡ true)
before_parts w b p q h = by_test w b p q (nat_lt (address w p b) (address w q b)) (address w p b == address w q b) refl refl h

-- ---- groups

abbrev pub ungrouped : List Group → List Row
ungrouped [] = []
ungrouped (g ∷ gs) = g.first ∷ (g.others ++ ungrouped gs)

abbrev pub NextDiffers : ℕ → ℕ → ℕ → List Group → Type 0
NextDiffers w b a [] = Unit {0}
NextDiffers w b a (g ∷ gs) = a ≢ row_address w b g.first

-- the rows of each group have one address, and the next group has another
abbrev pub AreGroups : ℕ → ℕ → List Group → Type 0
AreGroups w b [] = Unit {0}
AreGroups w b (g ∷ gs) =
    Each (λ s. row_address w b s ≡ row_address w b g.first) g.others × NextDiffers w b (row_address w b g.first) gs × AreGroups w b gs

abbrev group : Row → List Row → Group
group r more = record { first = r; others = more }

pub front-ungrouped : (w b : ℕ) (r : Row) (gs : List Group) → ungrouped (put_in_front w b r gs) ≡ r ∷ ungrouped gs
front-ungrouped w b r [] = refl
front-ungrouped w b r (g ∷ gs) = by_same (row_address w b r == row_address w b g.first)
  where
    by_same : (same : Bool) → ungrouped (elim same [ true ↦ group r (g.first ∷ g.others) ∷ gs | false ↦ group r [] ∷ g ∷ gs ]) ≡ r ∷ ungrouped (g ∷ gs)
    by_same true = refl
    by_same false = refl

pub ungrouped-groups : (w b : ℕ) (rs : List Row) → ungrouped (groups w b rs) ≡ rs
ungrouped-groups w b [] = refl
ungrouped-groups w b (r ∷ rs) =
    front-ungrouped w b r (groups w b rs) ∙ ap {B = List Row} (λ t. r ∷ t) (ungrouped-groups w b rs)

Each-same : (w b a c : ℕ) (rs : List Row) → a ≡ c → Each (λ s. row_address w b s ≡ a) rs → Each (λ s. row_address w b s ≡ c) rs
Each-same w b a c rs e h = subst (λ n. Each (λ s. row_address w b s ≡ n) rs) e h

NextDiffers-same : (w b a c : ℕ) (gs : List Group) → a ≡ c → NextDiffers w b a gs → NextDiffers w b c gs
NextDiffers-same w b a c gs e h = subst (λ n. NextDiffers w b n gs) e h

pub front-groups : (w b : ℕ) (r : Row) (gs : List Group) → AreGroups w b gs → AreGroups w b (put_in_front w b r gs)
front-groups w b r [] h = (tt, tt, tt)
front-groups w b r (g ∷ gs) h = by_same (row_address w b r == row_address w b g.first) refl
  where
    by_same : (same : Bool) → (row_address w b r == row_address w b g.first) ≡ same →
        AreGroups w b (elim same [ true ↦ group r (g.first ∷ g.others) ∷ gs | false ↦ group r [] ∷ g ∷ gs ])
    by_same true e =
        let k : row_address w b g.first ≡ row_address w b r = sym (eqb-true (row_address w b r) (row_address w b g.first) e) in (
          (k, Each-same w b (row_address w b g.first) (row_address w b r) g.others k h.0),
          NextDiffers-same w b (row_address w b g.first) (row_address w b r) gs k h.1,
          h.2,
        )
    by_same false e = (tt, eqb-false (row_address w b r) (row_address w b g.first) e, h)

pub groups-groups : (w b : ℕ) (rs : List Row) → AreGroups w b (groups w b rs)
groups-groups w b [] = tt
groups-groups w b (r ∷ rs) = front-groups w b r (groups w b rs) (groups-groups w b rs)

-- ---- rows of one group agree one place further down

pub same_place : (s b : ℕ) (xs ys : List ℕ) → from_place (b + 1) xs ≡ from_place (b + 1) ys → number_at s b xs ≡ number_at s b ys → from_place b xs ≡ from_place b ys
same_place s b [] [] e n = refl
same_place s b [] (y ∷ ys) e n = cc
same_place s b (x ∷ xs) [] e n = cc
same_place s b (x ∷ xs) (y ∷ ys) e n =
    let tails : from_place (b + 1) xs ≡ from_place (b + 1) ys = ap (drop 1) e in
    let long : length xs ≡ length ys = sym (length-from_place (b + 1) xs) ∙ ap (λ t. length t) tails ∙ length-from_place (b + 1) ys in
    let d : x / 2 ^ b % 2 ≡ y / 2 ^ b % 2 = sym (number_at-digit s b x xs) ∙ ap (λ t. t / 2 ^ length xs % 2) n ∙
    ap (λ t. number_at (s * 2 + y / 2 ^ b % 2) b ys / 2 ^ t % 2) long ∙ number_at-digit s b y ys in
    let h : x / 2 ^ (b + 1) ≡ y / 2 ^ (b + 1) = ap (λ t. get_or t 0 0) e in
    let hx : x / 2 ^ (b + 1) ≡ x / 2 ^ b / 2 = div-pow-add x b 1 in
    let hy : y / 2 ^ (b + 1) ≡ y / 2 ^ b / 2 = div-pow-add y b 1 in
    let p : x / 2 ^ b ≡ y / 2 ^ b = omega (arith, d, h, hx, hy, div-add-mod' (x / 2 ^ b) 2, div-add-mod' (y / 2 ^ b) 2) in
    let m : number_at (s * 2 + x / 2 ^ b % 2) b xs ≡ number_at (s * 2 + x / 2 ^ b % 2) b ys = n ∙ ap (λ t. number_at (s * 2 + t) b ys) (sym d) in
    ap (λ t. t ∷ from_place b xs) p ∙ ap {B = List ℕ} (λ r. y / 2 ^ b ∷ r) (same_place (s * 2 + x / 2 ^ b % 2) b xs ys tails m)
  where
    length-from_place : (k : ℕ) (xs : List ℕ) → length (from_place k xs) ≡ length xs
    length-from_place k [] = refl
    length-from_place k (x ∷ xs) = ap suc (length-from_place k xs)
