-- The shape of a table is lawful and holds the rows of the table, by induction over levels.
use Rattle.std.proofs.Common.{◌≡◌, ◌≢◌, ℕ, zero, suc, ◌+◌, ◌-◌, ◌*◌, ◌/◌, ◌%◌, ◌^◌, ◌<◌, ◌≤◌, refl, sym, ◌∙◌, ap}
use Rattle.std.proofs.Common.{subst, arith, List, [], ◌∷◌, ◌++◌, length, map, replicate, true, false, Bool}
use Rattle.std.specs.Prelude.{ℤ}
use Rattle.std.specs.List.{AllByRecursion as Each}
use Rattle.std.proofs.Math.Nat.{mod-lt, mul-mod_left, div-mul-le_self}
use Rattle.std.proofs.lemmas.Nat.{pow_pos}
use Rattle.std.proofs.lemmas.List.{append-nil}
use Rattle.ph_specs.specs.Coordinate.{offset, coordinate}
use Rattle.ph_specs.specs.ZOrder.{before_below}
use Rattle.ph_specs.specs.Table.{Row, row}
use Rattle.ph_specs.specs.Node.{Entries, PlainNode}
use Rattle.ph_specs.specs.Shape.{Group, row_address, digits_below, digits_between, groups, entries_of, node_at, is_one_group, node_below, shape}
use Rattle.ph_specs.specs.TreeRows.{put_together, rows_behind, rows, count}
use Rattle.ph_model.specs.Lawful.{IsBody, HasZerosFrom, IsLawfulFrom, IsLawful}
use Rattle.ph_model.proofs.lemmas.Joined.{offsets, from_place, number_at, address_from-is}
use Rattle.ph_model.proofs.lemmas.Assembled.{cleared, between, number_at-small, put_together-digits, cleared-zero}
use Rattle.ph_model.proofs.lemmas.Grouped.{Each-front, Each-back, Rises, Rises-front, Rises-back, before_parts, ungrouped}
use Rattle.ph_model.proofs.lemmas.Grouped.{NextDiffers, AreGroups, ungrouped-groups, groups-groups, same_place}
use Rattle.ph_model.proofs.laws.Unique.{count-entries_of}

-- a row of so many coordinates, each of which its offset gives back, with a value of 64 binary digits
pub record IsRow (w dims : ℕ) (r : Row) : Type 0 where
  pub long : length (offsets w r.point) ≡ dims
  pub back : map (coordinate w) (offsets w r.point) ≡ r.point
  pub small : r.value < 2 ^ 64

-- a number with the digits of another from a place on, and zeros below it
abbrev pub raised : ℕ → List ℕ → List ℕ
raised k qs = map (λ q. q * 2 ^ k) qs

cleared-raised : (k : ℕ) (xs : List ℕ) → cleared k xs ≡ raised k (from_place k xs)
cleared-raised k [] = refl
cleared-raised k (x ∷ xs) = ap {B = List ℕ} (λ t. x / 2 ^ k * 2 ^ k ∷ t) (cleared-raised k xs)

-- ---- bodies

pub below-between : (w b : ℕ) (p : List ℤ) → digits_below w b p ≡ between b 0 (offsets w p)
below-between w b [] = refl
below-between w b (c ∷ p) =
    let e : offset w c % 2 ^ b ≡ offset w c % 2 ^ b / 1 * 1 = omega arith in
    ap (λ t. t ∷ digits_below w b p) e ∙ ap {B = List ℕ} (λ t. offset w c % 2 ^ b / 1 * 1 ∷ t) (below-between w b p)

pub between-between : (w b c : ℕ) (p : List ℤ) → digits_between w b c p ≡ between b (c + 1) (offsets w p)
between-between w b c [] = refl
between-between w b c (x ∷ p) =
    ap {B = List ℕ} (λ t. offset w x % 2 ^ b / 2 ^ (c + 1) * 2 ^ (c + 1) ∷ t) (between-between w b c p)

pub body-between : (b k : ℕ) (xs : List ℕ) → IsBody (length xs) b (between b k xs)
body-between b k [] = (refl, tt)
body-between b k (x ∷ xs) =
    let ih : IsBody (length xs) b (between b k xs) = body-between b k xs in
    let l : x % 2 ^ b < 2 ^ b = mod-lt x (pow_pos b) in
    let m : x % 2 ^ b / 2 ^ k * 2 ^ k ≤ x % 2 ^ b = div-mul-le_self (x % 2 ^ b) (2 ^ k) in
    (ap suc ih.0, (omega (arith, l, m), ih.1))

pub zeros-between : (b c : ℕ) (xs : List ℕ) → HasZerosFrom c (between b (c + 1) xs)
zeros-between b c [] = tt
zeros-between b c (x ∷ xs) = (mul-mod_left (x % 2 ^ b / 2 ^ (c + 1)) (2 ^ (c + 1)), zeros-between b c xs)

-- ---- one entry

address-small : (w dims b : ℕ) (r : Row) → IsRow w dims r → row_address w b r < 2 ^ dims
address-small w dims b r h =
    let e : row_address w b r ≡ number_at 0 b (offsets w r.point) = address_from-is w 0 b r.point in
    let l : number_at 0 b (offsets w r.point) < 2 ^ length (offsets w r.point) = number_at-small b (offsets w r.point) in
    let m : 2 ^ length (offsets w r.point) ≡ 2 ^ dims = ap (λ n. 2 ^ n) h.long in
    omega (arith, e, l, m)

-- what is known behind an entry that is made of a row
known-digits : (w b k : ℕ) (common : List ℕ) (r : Row) → k ≤ b → from_place (b + 1) (offsets w r.point) ≡ common →
    put_together b (row_address w b r) (raised (b + 1) common) (between b k (offsets w r.point)) ≡ cleared k (offsets w r.point)
known-digits w b k common r l u =
    let xs : List ℕ = offsets w r.point in
    ap (λ a. put_together b a (raised (b + 1) common) (between b k xs)) (address_from-is w 0 b r.point)
    ∙ ap (λ q. put_together b (number_at 0 b xs) q (between b k xs)) (sym (cleared-raised (b + 1) xs ∙ ap (raised (b + 1)) u))
    ∙ put_together-digits 0 b k xs l

row-again : (w dims b : ℕ) (common : List ℕ) (r : Row) → IsRow w dims r →
    from_place (b + 1) (offsets w r.point) ≡ common →
    row (map (coordinate w) (put_together b (row_address w b r) (raised (b + 1) common) (digits_below w b r.point))) r.value ≡ r
row-again w dims b common r h u =
    let z : 0 ≤ b = omega arith in
    ap (λ t. row (map (coordinate w) (put_together b (row_address w b r) (raised (b + 1) common) t)) r.value) (below-between w b r.point)
    ∙ ap (λ t. row (map (coordinate w) t) r.value) (known-digits w b 0 common r z u ∙ cleared-zero (offsets w r.point))
    ∙ ap (λ t. row t r.value) h.back

-- ---- what makes the children

-- a lawful node below a level, with two entries or more, that holds the rows
pub record IsMade (w dims b : ℕ) (r : Row) (more : List Row) (n : PlainNode) : Type 0 where
  pub lower : n.level < b
  pub many : 2 ≤ count n.chain
  pub lawful : IsLawfulFrom dims n.level 0 n.chain
  pub holds : rows_behind w n.level (cleared (n.level + 1) (offsets w r.point)) n.chain ≡ r ∷ more

abbrev pub Makes : ℕ → ℕ → ℕ → (List Row → PlainNode) → Type 0
Makes w dims b below =
    (r s : Row) (more : List Row) (common : List ℕ) → Each (IsRow w dims) (r ∷ s ∷ more) →
    Each (λ t. from_place b (offsets w t.point) ≡ common) (r ∷ s ∷ more) → Rises w b (r ∷ s ∷ more) →
    IsMade w dims b r (s ∷ more) (below (r ∷ s ∷ more))

Rises-down : (w b a : ℕ) (rs : List Row) → Each (λ s. row_address w b s ≡ a) rs → Rises w (suc b) rs → Rises w b rs
Rises-down w b a [] h k = tt
Rises-down w b a (r ∷ rs) h k = (each rs h.1 k.0, Rises-down w b a rs h.1 k.1)
  where
    each : (ss : List Row) → Each (λ s. row_address w b s ≡ a) ss →
        Each (λ s. before_below (suc b) w r.point s.point ≡ true) ss → Each (λ s. before_below b w r.point s.point ≡ true) ss
    each [] h' k' = tt
    each (s ∷ ss) h' k' = ((before_parts w b r.point s.point k'.0).1 (h.0 ∙ sym h'.0), each ss h'.1 k'.1)

-- rows of one address have the same digits one place further down
same-down : (w b : ℕ) (common : List ℕ) (r : Row) (ss : List Row) → from_place (b + 1) (offsets w r.point) ≡ common →
    Each (λ s. from_place (b + 1) (offsets w s.point) ≡ common) ss →
    Each (λ s. row_address w b s ≡ row_address w b r) ss →
    Each (λ s. from_place b (offsets w s.point) ≡ from_place b (offsets w r.point)) ss
same-down w b common r [] e h k = tt
same-down w b common r (s ∷ ss) e h k = (
  same_place 0 b (offsets w s.point) (offsets w r.point) (h.0 ∙ sym e)
      (sym (address_from-is w 0 b s.point) ∙ k.0 ∙ address_from-is w 0 b r.point),
  same-down w b common r ss e h.1 k.1,
)

abbrev pub LeastIs : ℕ → ℕ → ℕ → List Group → Type 0
LeastIs w b least [] = Unit {0}
LeastIs w b least (g ∷ gs) = least ≤ row_address w b g.first

next_least : (w b : ℕ) (r : Row) (gs : List Group) → NextDiffers w b (row_address w b r) gs →
    Each (λ s. before_below (suc b) w r.point s.point ≡ true) (ungrouped gs) → LeastIs w b (row_address w b r + 1) gs
next_least w b r [] h k = tt
next_least w b r (g ∷ gs) h k =
    let l : row_address w b r ≤ row_address w b g.first = (before_parts w b r.point g.first.point k.0).0 in
    let n : row_address w b r ≢ row_address w b g.first = h in
    omega (arith, l, n)

-- ---- the entries of groups

pub record AreMade (w dims b least : ℕ) (common : List ℕ) (gs : List Group) (e : Entries) : Type 0 where
  pub lawful : IsLawfulFrom dims b least e
  pub holds : rows_behind w b (raised (b + 1) common) e ≡ ungrouped gs

pub entries-made : (w dims b least : ℕ) (below : List Row → PlainNode) → Makes w dims b below →
    (common : List ℕ) (gs : List Group) → AreGroups w b gs → LeastIs w b least gs →
    Each (IsRow w dims) (ungrouped gs) → Each (λ t. from_place (b + 1) (offsets w t.point) ≡ common) (ungrouped gs) →
    Rises w (suc b) (ungrouped gs) → AreMade w dims b least common gs (entries_of w b below gs)
entries-made w dims b least below mk common [] g l ok u s = record { lawful = tt; holds = refl }
entries-made w dims b least below mk common (g ∷ gs) a l ok u s =
    let rest : AreMade w dims b (row_address w b g.first + 1) common gs (entries_of w b below gs) =
    entries-made w dims b (row_address w b g.first + 1) below mk common gs a.2
    (next_least w b g.first gs a.1
    (Each-back (λ t. before_below (suc b) w g.first.point t.point ≡ true) g.others (ungrouped gs) s.0))
    (Each-back (IsRow w dims) g.others (ungrouped gs) ok.1)
    (Each-back (λ t. from_place (b + 1) (offsets w t.point) ≡ common) g.others (ungrouped gs) u.1)
    (Rises-back w (suc b) g.others (ungrouped gs) s.1) in
    by_others g.first g.others l a.0 ok.0 (Each-front (IsRow w dims) g.others (ungrouped gs) ok.1) u.0
    (Each-front (λ t. from_place (b + 1) (offsets w t.point) ≡ common) g.others (ungrouped gs) u.1)
    (Rises-front w (suc b) (g.first ∷ g.others) (ungrouped gs) s) rest
  where
    by_others : (r : Row) (others : List Row) → least ≤ row_address w b r →
        Each (λ t. row_address w b t ≡ row_address w b r) others → IsRow w dims r → Each (IsRow w dims) others →
        from_place (b + 1) (offsets w r.point) ≡ common →
        Each (λ t. from_place (b + 1) (offsets w t.point) ≡ common) others → Rises w (suc b) (r ∷ others) →
        AreMade w dims b (row_address w b r + 1) common gs (entries_of w b below gs) →
        AreMade w dims b least common (record { first = r; others = others } ∷ gs)
        (entries_of w b below (record { first = r; others = others } ∷ gs))
    by_others r [] l' a' ok' oks u' us s' rest =
        let bd : IsBody (length (offsets w r.point)) b (between b 0 (offsets w r.point)) = body-between b 0 (offsets w r.point) in
        let bd' : IsBody dims b (digits_below w b r.point) = subst (IsBody dims b) (sym (below-between w b r.point))
        (subst (λ d. IsBody d b (between b 0 (offsets w r.point))) ok'.long bd) in
        record {
          lawful = (l', address-small w dims b r ok', bd', rest.lawful, ok'.small);
          holds = ap {B = List Row} (λ t. t ∷ rows_behind w b (raised (b + 1) common) (entries_of w b below gs))
              (row-again w dims b common r ok' u') ∙ ap {B = List Row} (λ t. r ∷ t) rest.holds;
        }
    by_others r (s ∷ more) l' a' ok' oks u' us s' rest =
        let m : IsMade w dims b r (s ∷ more) (below (r ∷ s ∷ more)) = mk r s more (from_place b (offsets w r.point))
        (ok', oks) (refl, same-down w b common r (s ∷ more) u' us a')
        (Rises-down w b (row_address w b r) (r ∷ s ∷ more) (refl, a') s') in
        let n : PlainNode = below (r ∷ s ∷ more) in
        let bd : IsBody (length (offsets w r.point)) b
        (between b ((below (r ∷ s ∷ more)).level + 1) (offsets w r.point)) =
        body-between b ((below (r ∷ s ∷ more)).level + 1) (offsets w r.point) in
        let bb : digits_between w b (below (r ∷ s ∷ more)).level r.point ≡
        between b ((below (r ∷ s ∷ more)).level + 1) (offsets w r.point) =
        between-between w b (below (r ∷ s ∷ more)).level r.point in
        let bd' : IsBody dims b (digits_between w b (below (r ∷ s ∷ more)).level r.point) =
        subst (IsBody dims b) (sym bb)
        (subst (λ d. IsBody d b (between b ((below (r ∷ s ∷ more)).level + 1) (offsets w r.point))) ok'.long bd) in
        let zs : HasZerosFrom (below (r ∷ s ∷ more)).level (digits_between w b (below (r ∷ s ∷ more)).level r.point) =
        subst (HasZerosFrom (below (r ∷ s ∷ more)).level) (sym bb)
        (zeros-between b (below (r ∷ s ∷ more)).level (offsets w r.point)) in
        let kn : put_together b (row_address w b r) (raised (b + 1) common)
        (digits_between w b (below (r ∷ s ∷ more)).level r.point) ≡ cleared ((below (r ∷ s ∷ more)).level + 1)
        (offsets w r.point) = ap (put_together b (row_address w b r) (raised (b + 1) common)) bb ∙
        known-digits w b ((below (r ∷ s ∷ more)).level + 1) common r (omega (arith, m.lower)) u' in
        record {
          lawful = (l', address-small w dims b r ok', bd', m.lower, zs, m.many, m.lawful, rest.lawful);
          holds = ap (λ t. rows_behind w n.level t n.chain ++ rows_behind w b (raised (b + 1) common)
              (entries_of w b below gs)) kn ∙
              ap (λ t. t ++ rows_behind w b (raised (b + 1) common) (entries_of w b below gs)) m.holds ∙
              ap (λ t. (r ∷ s ∷ more) ++ t) rest.holds;
        }

-- ---- levels

-- of several groups, the node splits the rows here
splits : (w dims place : ℕ) (below : List Row → PlainNode) → Makes w dims place below →
    (r s : Row) (more : List Row) (common : List ℕ) → Each (IsRow w dims) (r ∷ s ∷ more) →
    Each (λ t. from_place (suc place) (offsets w t.point) ≡ common) (r ∷ s ∷ more) →
    Rises w (suc place) (r ∷ s ∷ more) → 2 ≤ length (groups w place (r ∷ s ∷ more)) →
    IsMade w dims (suc place) r (s ∷ more) (node_at w place below (r ∷ s ∷ more))
splits w dims place below mk r s more common ok u up l =
    let rs : List Row = r ∷ s ∷ more in
    let gs : List Group = groups w place (r ∷ s ∷ more) in
    let n : suc place ≡ place + 1 = omega arith in
    let un : ungrouped (groups w place (r ∷ s ∷ more)) ≡ r ∷ s ∷ more = ungrouped-groups w place (r ∷ s ∷ more) in
    let ok' : Each (IsRow w dims) (ungrouped (groups w place (r ∷ s ∷ more))) = subst (Each (IsRow w dims)) (sym un) ok in
    let u1 : Each (λ t. from_place (place + 1) (offsets w t.point) ≡ common) (r ∷ s ∷ more) =
    subst (λ k. Each (λ t. from_place k (offsets w t.point) ≡ common) (r ∷ s ∷ more)) n u in
    let u' : Each (λ t. from_place (place + 1) (offsets w t.point) ≡ common)
    (ungrouped (groups w place (r ∷ s ∷ more))) =
    subst (Each (λ t. from_place (place + 1) (offsets w t.point) ≡ common)) (sym un) u1 in
    let up' : Rises w (suc place) (ungrouped (groups w place (r ∷ s ∷ more))) = subst (Rises w (suc place)) (sym un) up in
    let m : AreMade w dims place 0 common (groups w place (r ∷ s ∷ more))
    (entries_of w place below (groups w place (r ∷ s ∷ more))) = entries-made w dims place 0 below mk common gs
    (groups-groups w place rs) (least_zero (groups w place (r ∷ s ∷ more))) ok' u' up' in
    record {
      lower = omega arith;
      many = omega (arith, l, count-entries_of w place below (groups w place (r ∷ s ∷ more)));
      lawful = m.lawful;
      holds = ap (λ t. rows_behind w place t (entries_of w place below (groups w place (r ∷ s ∷ more))))
          (cleared-raised (place + 1) (offsets w r.point) ∙ ap (raised (place + 1)) u1.0) ∙ m.holds ∙ un;
    }
  where
    least_zero : (gs : List Group) → LeastIs w place 0 gs
    least_zero [] = tt
    least_zero (g ∷ gs) = omega arith

-- whether the rows are one group
one_or_more : (w place : ℕ) (r : Row) (rs : List Row) →
    (is_one_group (groups w place (r ∷ rs)) ≡ true →
    Each (λ t. row_address w place t ≡ row_address w place r) (r ∷ rs)) ×
    (is_one_group (groups w place (r ∷ rs)) ≡ false → 2 ≤ length (groups w place (r ∷ rs)))
one_or_more w place r rs = by_groups (groups w place (r ∷ rs)) (groups-groups w place (r ∷ rs)) (ungrouped-groups w place (r ∷ rs))
  where
    all : (ts : List Row) (g : Group) → g.first ∷ (g.others ++ []) ≡ ts →
        Each (λ t. row_address w place t ≡ row_address w place g.first) g.others →
        Each (λ t. row_address w place t ≡ row_address w place g.first) ts
    all ts g e h = subst (Each (λ t. row_address w place t ≡ row_address w place g.first))
        (ap {B = List Row} (λ t. g.first ∷ t) (sym (append-nil g.others)) ∙ e) (refl, h)

    head_is : (g : Group) (t : List Row) → g.first ∷ t ≡ r ∷ rs → g.first ≡ r
    head_is g t e = ap (λ xs. first_or xs) e
      where
        first_or : List Row → Row
        first_or [] = r
        first_or (x ∷ xs) = x

    by_groups : (gs : List Group) → AreGroups w place gs → ungrouped gs ≡ r ∷ rs →
        (is_one_group gs ≡ true → Each (λ t. row_address w place t ≡ row_address w place r) (r ∷ rs)) ×
        (is_one_group gs ≡ false → 2 ≤ length gs)
    by_groups [] a e = (λ h. cc, λ h. cc)
    by_groups (g ∷ []) a e =
        (λ h. subst (λ q. Each (λ t. row_address w place t ≡ row_address w place q) (r ∷ rs)) (head_is g (g.others ++ []) e) (all (r ∷ rs) g e a.0), λ h. cc)
    by_groups (g ∷ g' ∷ gs) a e = (λ h. cc, λ h. omega arith)

pub below-makes : (w dims place : ℕ) → Makes w dims place (node_below w place)
below-makes w dims zero r s more common ok u up = cc
below-makes w dims (suc place) r s more common ok u up =
    by_test (is_one_group (groups w place (r ∷ s ∷ more))) refl (below-makes w dims place)
  where
    by_test : (b : Bool) → is_one_group (groups w place (r ∷ s ∷ more)) ≡ b →
        Makes w dims place (node_below w place) →
        IsMade w dims (suc place) r (s ∷ more)
        (elim b [ true ↦ node_below w place (r ∷ s ∷ more) | false ↦ node_at w place (node_below w place) (r ∷ s ∷ more) ])
    by_test true e ih =
        let n : suc place ≡ place + 1 = omega arith in
        let u1 : Each (λ t. from_place (place + 1) (offsets w t.point) ≡ common) (r ∷ s ∷ more) =
        subst (λ k. Each (λ t. from_place k (offsets w t.point) ≡ common) (r ∷ s ∷ more)) n u in
        let a : Each (λ t. row_address w place t ≡ row_address w place r) (r ∷ s ∷ more) = (one_or_more w place r (s ∷ more)).0 e in
        let m : IsMade w dims place r (s ∷ more) (node_below w place (r ∷ s ∷ more)) =
        ih r s more (from_place place (offsets w r.point)) ok
        (same-down w place common r (r ∷ s ∷ more) u1.0 u1 a)
        (Rises-down w place (row_address w place r) (r ∷ s ∷ more) a up) in
        record { lower = omega (arith, m.lower); many = m.many; lawful = m.lawful; holds = m.holds }
    by_test false e ih = splits w dims place (node_below w place) ih r s more common ok u up ((one_or_more w place r (s ∷ more)).1 e)

-- ---- the root

pub root-made : (w dims : ℕ) (r : Row) (rs : List Row) → 1 ≤ w → Each (IsRow w dims) (r ∷ rs) →
    Each (λ t. from_place w (offsets w t.point) ≡ replicate dims 0) (r ∷ rs) → Rises w w (r ∷ rs) →
    IsLawful w dims (shape w (r ∷ rs)) × (rows w dims (shape w (r ∷ rs)) ≡ r ∷ rs)
root-made w dims r rs l ok u up =
    let b : ℕ = w - 1 in
    let n : w ≡ (w - 1) + 1 = omega (arith, l) in
    let k : w ≡ suc (w - 1) = omega (arith, l) in
    let gs : List Group = groups w (w - 1) (r ∷ rs) in
    let un : ungrouped (groups w (w - 1) (r ∷ rs)) ≡ r ∷ rs = ungrouped-groups w (w - 1) (r ∷ rs) in
    let u1 : Each (λ t. from_place ((w - 1) + 1) (offsets w t.point) ≡ replicate dims 0) (r ∷ rs) =
    subst (λ k. Each (λ t. from_place k (offsets w t.point) ≡ replicate dims 0) (r ∷ rs)) n u in
    let up1 : Rises w (suc (w - 1)) (r ∷ rs) = subst (λ k. Rises w k (r ∷ rs)) k up in
    let m : AreMade w dims (w - 1) 0 (replicate dims 0) (groups w (w - 1) (r ∷ rs)) (entries_of w (w - 1) (node_below w (w - 1)) (groups w (w - 1) (r ∷ rs))) =
    entries-made w dims b 0 (node_below w b) (below-makes w dims b) (replicate dims 0) gs (groups-groups w b (r ∷ rs)) (least_zero (groups w (w - 1) (r ∷ rs)))
    (subst (Each (IsRow w dims)) (sym un) ok)
    (subst (Each (λ t. from_place ((w - 1) + 1) (offsets w t.point) ≡ replicate dims 0)) (sym un) u1)
    (subst (Rises w (suc (w - 1))) (sym un) up1)
    in
    let c : 1 ≤ length (groups w (w - 1) (r ∷ rs)) = some_group (groups w (w - 1) (r ∷ rs)) un in (
      (refl, omega (arith, c, count-entries_of w (w - 1) (node_below w (w - 1)) (groups w (w - 1) (r ∷ rs))), m.lawful),
      ap (λ t. rows_behind w (w - 1) t (entries_of w (w - 1) (node_below w (w - 1)) (groups w (w - 1) (r ∷ rs)))) (sym (raised-zeros ((w - 1) + 1) dims)) ∙ m.holds ∙ un,
    )
  where
    least_zero : (gs : List Group) → LeastIs w (w - 1) 0 gs
    least_zero [] = tt
    least_zero (g ∷ gs) = omega arith

    some_group : (gs : List Group) → ungrouped gs ≡ r ∷ rs → 1 ≤ length gs
    some_group [] e = cc
    some_group (g ∷ gs) e = omega arith

    raised-zeros : (k n : ℕ) → raised k (replicate n 0) ≡ replicate n 0
    raised-zeros k zero = refl
    raised-zeros k (suc n) =
        let z : 0 * 2 ^ k ≡ 0 = omega arith in
        ap (λ t. t ∷ raised k (replicate n 0)) z ∙ ap {B = List ℕ} (λ t. 0 ∷ t) (raised-zeros k n)
