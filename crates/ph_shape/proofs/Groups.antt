-- Laws of groups: rows are cut where the address changes, and a group's child splits at the place at which its first and its last row differ.
use Rattle.std.proofs.Common.{◌≡◌, ℕ, zero, suc, ◌+◌, ◌-◌, ◌<◌, ◌≤◌, inl, inr, refl, sym, ◌∙◌, ap, subst, arith, List}
use Rattle.std.proofs.Common.{[], ◌∷◌, ◌++◌, length, get_or, Bool, true, false, ◌&&◌, eq-eqb, ne_eqb}
use Rattle.std.specs.Prelude.{ℤ, ◌==◌}
use Rattle.std.specs.List.{list_all}
use Rattle.std.proofs.Math.Nat.{eq-or-lt_of_le}
use Rattle.std.proofs.lemmas.List.{append-nil}
use Rattle.std.proofs.lemmas.Bool.{and_parts, cases_lt}
use Rattle.ph_specs.specs.Coordinate.{is_point}
use Rattle.ph_specs.specs.ZOrder.{address, before, before_below}
use Rattle.ph_specs.specs.Table.{Row, is_rising}
use Rattle.ph_specs.specs.Node.{PlainNode}
use Rattle.ph_model.specs.EntryList.{Entry, value, node, in_front}
use Rattle.ph_specs.specs.Shape.{Group, row_address, digits_below, digits_between, put_in_front, groups, entries_of, node_at, is_one_group, node_below}
use Rattle.ph_model.proofs.lemmas.Grouped.{Each-front as each-front, Each-back as each-back, ungrouped, AreGroups, ungrouped-groups, groups-groups}
use Rattle.ph_model.proofs.lemmas.Grouped.{before_parts}
use Rattle.ph_specs.proofs.laws.Order.{before_irrefl}
use Rattle.ph_zorder.specs.Compared.{IsTopDifference}
use Rattle.ph_shape.specs.Groups.{HaveAddress, AreAlike, IsGroup, FirstDiffers, group_entry}

abbrev group : Row → List Row → Group
group r more = record { first = r; others = more }

abbrev joined_or_not : Row → Group → List Group → Bool → List Group
joined_or_not r g gs same = elim same [ true ↦ group r (g.first ∷ g.others) ∷ gs | false ↦ group r [] ∷ g ∷ gs ]

-- ---- cuts

-- the first group begins with the first row
first-group : (w b : ℕ) (r : Row) (rs : List Row) → (more : List Row) × (gs : List Group) × (groups w b (r ∷ rs) ≡ group r more ∷ gs)
first-group w b r rs = front (groups w b rs)
  where
    join : (same : Bool) (g : Group) (gs : List Group) → (more : List Row) × (hs : List Group) × (joined_or_not r g gs same ≡ group r more ∷ hs)
    join true g gs = (g.first ∷ g.others, gs, refl)
    join false g gs = ([], g ∷ gs, refl)

    front : (gs : List Group) → (more : List Row) × (hs : List Group) × (put_in_front w b r gs ≡ group r more ∷ hs)
    front [] = ([], [], refl)
    front (g ∷ gs) = join (row_address w b r == row_address w b g.first) g gs

-- rows of one address are a group, where the next row has another
groups-cut : (w b a : ℕ) (r : Row) (more rest : List Row) → HaveAddress w b a (r ∷ more) → FirstDiffers w b a rest →
    groups w b ((r ∷ more) ++ rest) ≡ group r more ∷ groups w b rest
groups-cut w b a r [] [] h k = refl
groups-cut w b a r [] (s ∷ rest) h k =
    let f : (more : List Row) × (gs : List Group) × (groups w b (s ∷ rest) ≡ group s more ∷ gs) = first-group w b s rest in
    let t : (row_address w b r == row_address w b s) ≡ false = ne_eqb (row_address w b r) (row_address w b s) (λ e. k (sym h.0 ∙ e)) in
    ap (put_in_front w b r) f.2 ∙ ap (joined_or_not r (group s f.0) f.1) t ∙ sym (ap {B = List Group} (λ gs. group r [] ∷ gs) f.2)
groups-cut w b a r (s ∷ more) rest h k =
    let t : (row_address w b r == row_address w b s) ≡ true = eq-eqb (row_address w b r) (row_address w b s) (h.0 ∙ sym h.1.0) in
    ap (put_in_front w b r) (groups-cut w b a s more rest h.1 k) ∙ ap (joined_or_not r (group s more) (groups w b rest)) t

-- and the entries of a node are theirs, and then those of the other rows
entries-cut : (w b : ℕ) (below : List Row → PlainNode) (r : Row) (more : List Row) (rest : List Group) →
    entries_of w b below (group r more ∷ rest) ≡ in_front (group_entry w b below (r ∷ more)).addr
    (group_entry w b below (r ∷ more)).body (group_entry w b below (r ∷ more)).what (entries_of w b below rest)
entries-cut w b below r [] rest = refl
entries-cut w b below r (s ∷ more) rest = refl

pub entries-of_front : (w b a : ℕ) (below : List Row → PlainNode) (front rest : List Row) → 1 ≤ length front →
    HaveAddress w b a front → FirstDiffers w b a rest → entries_of w b below (groups w b (front ++ rest)) ≡
    in_front (group_entry w b below front).addr (group_entry w b below front).body (group_entry w b below front).what
    (entries_of w b below (groups w b rest))
entries-of_front w b a below [] rest l h k = absurd (let no : ⊥ = omega (arith, l) in no)
entries-of_front w b a below (r ∷ more) rest l h k =
    ap (entries_of w b below) (groups-cut w b a r more rest h k) ∙ entries-cut w b below r more (groups w b rest)

-- ---- one group or more

one-group : (w b : ℕ) (r : Row) (rs : List Row) → AreAlike w b (r ∷ rs) → is_one_group (groups w b (r ∷ rs)) ≡ true
one-group w b r rs h =
    ap (λ t. is_one_group (groups w b t)) (sym (append-nil (r ∷ rs))) ∙ ap is_one_group (groups-cut w b (row_address w b r) r rs [] (refl, h) tt)

one-alike : (w b : ℕ) (r : Row) (rs : List Row) (gs : List Group) → AreGroups w b gs → ungrouped gs ≡ r ∷ rs → is_one_group gs ≡ true → AreAlike w b (r ∷ rs)
one-alike w b r rs [] a e h = cc
one-alike w b r rs (g ∷ []) a e h =
    subst (AreAlike w b) (ap {B = List Row} (λ t. g.first ∷ t) (sym (append-nil g.others)) ∙ e) a.0
one-alike w b r rs (g ∷ g' ∷ gs) a e h = cc

several : (w b : ℕ) (r : Row) (rs : List Row) → (AreAlike w b (r ∷ rs) → ⊥) → is_one_group (groups w b (r ∷ rs)) ≡ false
several w b r rs n = by_test (is_one_group (groups w b (r ∷ rs))) refl
  where
    by_test : (t : Bool) → is_one_group (groups w b (r ∷ rs)) ≡ t → t ≡ false
    by_test true e = absurd (n (one-alike w b r rs (groups w b (r ∷ rs)) (groups-groups w b (r ∷ rs)) (ungrouped-groups w b (r ∷ rs)) e))
    by_test false e = refl

-- rows that are alike above a place and not at it are split there
split-at : (w t place : ℕ) (r : Row) (rs : List Row) → t < place →
    ((k : ℕ) → t < k → k < place → AreAlike w k (r ∷ rs)) → (AreAlike w t (r ∷ rs) → ⊥) →
    node_below w place (r ∷ rs) ≡ node_at w t (node_below w t) (r ∷ rs)
split-at w t zero r rs l same n = absurd (let no : ⊥ = omega (arith, l) in no)
split-at w t (suc place) r rs l same n =
    elim (eq-or-lt_of_le (let le : t ≤ place = omega (arith, l) in le)) [
      | inl e ↦ subst (λ p. node_below w (suc place) (r ∷ rs) ≡ node_at w p (node_below w p) (r ∷ rs)) (sym e)
          (ap {B = PlainNode} (λ b. elim b
          [ true ↦ node_below w place (r ∷ rs) | false ↦ node_at w place (node_below w place) (r ∷ rs) ])
          (several w place r rs (subst (λ p. AreAlike w p (r ∷ rs) → ⊥) e n)))
      | inr g ↦ ap {B = PlainNode} (λ b. elim b
          [ true ↦ node_below w place (r ∷ rs) | false ↦ node_at w place (node_below w place) (r ∷ rs) ])
          (one-group w place r rs (same place g (omega arith))) ∙
          split-at w t place r rs g (λ k m u. same k m (omega (arith, u))) n
    ]

-- ---- rows between two others

-- a point between two that agree above a place agrees with them
between : (n t w : ℕ) (p q r : List ℤ) → before_below n w p q ≡ true → before_below n w q r ≡ true →
    ((k : ℕ) → t < k → k < n → address w p k ≡ address w r k) → (k : ℕ) → t < k → k < n → address w q k ≡ address w p k
between zero t w p q r h j same k l m = absurd (let no : ⊥ = omega (arith, m) in no)
between (suc n) t w p q r h j same k l m =
    let a = before_parts w n p q h in
    let b = before_parts w n q r j in
    let e : address w p n ≡ address w r n = same n (omega (arith, l, m)) (omega arith) in
    let here : address w q n ≡ address w p n = omega (arith, a.0, b.0, e) in
    elim (eq-or-lt_of_le (let le : k ≤ n = omega (arith, m) in le)) [
      | inl same_place ↦ subst (λ i. address w q i ≡ address w p i) (sym same_place) here
      | inr g ↦ between n t w p q r (a.1 (sym here)) (b.1 (here ∙ e)) (λ i u v. same i u (omega (arith, v))) k l g
    ]

abbrev last_of : Row → List Row → Row
last_of r [] = r
last_of r (s ∷ rs) = last_of s rs

all-last : (p : Row → Bool) (r : Row) (rs : List Row) → list_all p (r ∷ rs) ≡ true → p (last_of r rs) ≡ true
all-last p r [] h = (and_parts _ _ h).0
all-last p r (s ∷ rs) h = all-last p s rs (and_parts _ _ h).1

-- rows in order, whose first and last agree above a place, agree there
alike-between : (w t : ℕ) (r : Row) (rs : List Row) → is_rising w (r ∷ rs) ≡ true →
    ((k : ℕ) → t < k → k < w → row_address w k r ≡ row_address w k (last_of r rs)) → (k : ℕ) → t < k → k < w →
    AreAlike w k (r ∷ rs)
alike-between w t r [] h same k l m = tt
alike-between w t r (s ∷ []) h same k l m = (sym (same k l m), tt)
alike-between w t r (s ∷ u ∷ rs) h same k l m =
    let first : before w r.point s.point ≡ true = (and_parts _ _ (and_parts _ _ h).0).0 in
    let more : is_rising w (s ∷ u ∷ rs) ≡ true = (and_parts _ _ h).1 in
    let second : before w s.point (last_of u rs).point ≡ true = all-last (λ x. before w s.point x.point) u rs (and_parts _ _ more).0 in
    let agree : (i : ℕ) → t < i → i < w → row_address w i s ≡ row_address w i r = between w t w r.point s.point (last_of u rs).point first second same in
    let rest : AreAlike w k (s ∷ u ∷ rs) = alike-between w t s (u ∷ rs) more (λ i x y. agree i x y ∙ same i x y) k l m in
    (agree k l m, subst (λ a. HaveAddress w k a (u ∷ rs)) (agree k l m) rest)

-- ---- the entry of a group

get-last : (r : Row) (rs : List Row) (d : Row) → get_or (r ∷ rs) (length (r ∷ rs) - 1) d ≡ last_of r rs
get-last r [] d = refl
get-last r (s ∷ rs) d =
    let e : length (r ∷ s ∷ rs) - 1 ≡ suc (length (s ∷ rs) - 1) = omega arith in
    ap (λ i. get_or (r ∷ s ∷ rs) i d) e ∙ get-last s rs d

alike-last : (w k : ℕ) (r : Row) (rs : List Row) → AreAlike w k (r ∷ rs) → row_address w k r ≡ row_address w k (last_of r rs)
alike-last w k r [] h = refl
alike-last w k r (s ∷ rs) h =
    sym h.0 ∙ alike-last w k s rs (subst (λ a. HaveAddress w k a rs) (sym h.0) h.1)

-- a group whose first and last row are at one point is one row
pub point-entry : (w dims place : ℕ) (below : List Row → PlainNode) (rows : List Row) (f l : Row) →
    IsGroup w dims place rows → 1 ≤ length rows → f ≡ get_or rows 0 f → l ≡ get_or rows (length rows - 1) l →
    f.point ≡ l.point → group_entry w place below rows ≡
    record { addr = row_address w place f; body = digits_below w place f.point; what = value f.value }
point-entry w dims place below [] f l h some e g same = absurd (let no : ⊥ = omega (arith, some) in no)
point-entry w dims place below (r ∷ []) f l h some e g same =
    ap {B = Entry} (λ x. record { addr = row_address w place x; body = digits_below w place x.point; what = value x.value }) (sym e)
point-entry w dims place below (r ∷ s ∷ rs) f l h some e g same =
    let b : before w r.point (last_of s rs).point ≡ true = all-last (λ x. before w r.point x.point) s rs (and_parts _ _ h.rise).0 in
    let at : (last_of s rs).point ≡ r.point = ap (λ (x : Row). x.point) (sym (g ∙ get-last r (s ∷ rs) l)) ∙ sym same ∙ ap (λ (x : Row). x.point) e in
    absurd (let clash : true ≡ false = sym b ∙ ap (before w r.point) at ∙ before_irrefl w r.point in cc)

pub record IsChildEntry (w dims place t : ℕ) (rows : List Row) (f : Row) : Type 0 where
  pub lower : t < place
  pub group : IsGroup w dims (t + 1) rows
  pub entry : group_entry w place (node_below w place) rows ≡
      record {
        addr = row_address w place f;
        body = digits_between w place t f.point;
        what = node (node_at w t (node_below w t) rows);
      }

-- and else it is split at the place at which they differ
pub child-entry : (w dims place t : ℕ) (rows : List Row) (f l : Row) → place < w → IsGroup w dims place rows →
    1 ≤ length rows → f ≡ get_or rows 0 f → l ≡ get_or rows (length rows - 1) l →
    IsTopDifference w f.point l.point t → IsChildEntry w dims place t rows f
child-entry w dims place t [] f l p h some e g d = absurd (let no : ⊥ = omega (arith, some) in no)
child-entry w dims place t (r ∷ []) f l p h some e g d = absurd (d.differ (ap (λ (x : Row). row_address w t x) (e ∙ sym g)))
child-entry w dims place t (r ∷ s ∷ rs) f l p h some e g d =
    let at : l ≡ last_of s rs = g ∙ get-last r (s ∷ rs) l in
    let same : (k : ℕ) → t < k → k < w → row_address w k r ≡ row_address w k (last_of s rs) =
    λ k u v. ap (λ (x : Row). row_address w k x) (sym e) ∙ d.same_above k u v ∙ ap (λ (x : Row). row_address w k x) at in
    let alike : (k : ℕ) → t < k → k < w → AreAlike w k (r ∷ s ∷ rs) = alike-between w t r (s ∷ rs) h.rise same in
    let apart : AreAlike w t (r ∷ s ∷ rs) →
    ⊥ = λ a. d.differ (ap (λ (x : Row). row_address w t x) e ∙ alike-last w t r (s ∷ rs) a ∙
    ap (λ (x : Row). row_address w t x) (sym at)) in
    let lower : t < place = elim (cases_lt t place) [ inl j ↦ j | inr j ↦ absurd (apart (h.alike t j d.within)) ] in
    let n : node_below w place (r ∷ s ∷ rs) ≡ node_at w t (node_below w t) (r ∷ s ∷ rs) =
    split-at w t place r (s ∷ rs) lower (λ k u v. alike k u (let z : k < w = omega (arith, v, p) in z)) apart in
    record {
      lower = lower;
      group = record { points = h.points; rise = h.rise; alike = λ k u v. alike k (omega (arith, u)) v };
      entry = ap {B = Entry} (λ (m : PlainNode).
          record { addr = row_address w place r; body = digits_between w place m.level r.point; what = node m }) n ∙
          ap {B = Entry} (λ (x : Row). record {
            addr = row_address w place x;
            body = digits_between w place t x.point;
            what = node (node_at w t (node_below w t) (r ∷ s ∷ rs));
          }) (sym e);
    }

-- ---- fronts and backs of groups

alike-same : (w k a : ℕ) (rows : List Row) → HaveAddress w k a rows → AreAlike w k rows
alike-same w k a [] h = tt
alike-same w k a (r ∷ rows) h = subst (λ b. HaveAddress w k b rows) (sym h.0) h.1

alike-parts : (w k : ℕ) (xs ys : List Row) → AreAlike w k (xs ++ ys) → AreAlike w k xs × AreAlike w k ys
alike-parts w k [] ys h = (tt, h)
alike-parts w k (x ∷ xs) ys h = (
  each-front (λ r. row_address w k r ≡ row_address w k x) xs ys h,
  alike-same w k (row_address w k x) ys (each-back (λ r. row_address w k r ≡ row_address w k x) xs ys h),
)

rising-parts : (w : ℕ) (xs ys : List Row) → is_rising w (xs ++ ys) ≡ true → (is_rising w xs ≡ true) × (is_rising w ys ≡ true)
rising-parts w [] ys h = (refl, h)
rising-parts w (x ∷ xs) ys h =
    let p = and_parts _ _ h in
    let more = rising-parts w xs ys p.1 in
    (ap (λ t. t && is_rising w xs) (all-front (λ s. before w x.point s.point) xs ys p.0) ∙ more.0, more.1)
  where
    all-front : (p : Row → Bool) (xs ys : List Row) → list_all p (xs ++ ys) ≡ true → list_all p xs ≡ true
    all-front p [] ys h = refl
    all-front p (x ∷ xs) ys h = let q = and_parts _ _ h in ap (λ t. t && list_all p xs) q.0 ∙ all-front p xs ys q.1

-- the rows of one address in front of a group are a group one place further down, and those behind them are a group too
pub group-parts : (w dims place a : ℕ) (xs ys : List Row) → IsGroup w dims (place + 1) (xs ++ ys) →
    HaveAddress w place a xs → IsGroup w dims place xs × IsGroup w dims (place + 1) ys
group-parts w dims place a xs ys h k =
    let rise = rising-parts w xs ys h.rise in (
      record {
        points = each-front (λ r. is_point w dims r.point ≡ true) xs ys h.points;
        rise = rise.0;
        alike = λ i l m. elim (eq-or-lt_of_le l) [
          | inl e ↦ subst (λ j. AreAlike w j xs) e (alike-same w place a xs k)
          | inr g ↦ (alike-parts w i xs ys (h.alike i (let z : place + 1 ≤ i = omega (arith, g) in z) m)).0
        ];
      },
      record {
        points = each-back (λ r. is_point w dims r.point ≡ true) xs ys h.points;
        rise = rise.1;
        alike = λ i l m. (alike-parts w i xs ys (h.alike i l m)).1;
      },
    )
