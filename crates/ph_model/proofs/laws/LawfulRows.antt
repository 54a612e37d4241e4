-- The rows of a lawful tree are a table.
use Rattle.std.proofs.Common.{◌≡◌, ℕ, zero, suc, ◌+◌, ◌-◌, ◌*◌, ◌/◌, ◌%◌, ◌^◌, ◌<◌, ◌≤◌, inl, inr, refl, sym, ◌∙◌, ap, subst}
use Rattle.std.proofs.Common.{arith, List, [], ◌∷◌, ◌++◌, length, map, replicate, true, false, Bool, ◌&&◌, ◌||◌}
use Rattle.std.proofs.Common.{ltb-true, ltb-false, lt-ltb, le-ltb, eq-eqb, mul-le-mul_left}
use Rattle.std.specs.Prelude.{ℤ, Option, Some, None, nat_lt, ◌==◌}
use Rattle.std.specs.List.{AllByRecursion as Each, list_all}
use Rattle.std.proofs.Math.Nat.{eq-or-lt_of_le, mod-lt}
use Rattle.std.proofs.lemmas.Nat.{pow_pos, pow-add}
use Rattle.std.proofs.lemmas.List.{length-replicate}
use Rattle.ph_specs.specs.Coordinate.{coordinate, fits, is_point}
use Rattle.ph_specs.specs.ZOrder.{address, before, before_below}
use Rattle.ph_specs.specs.Table.{Row, row, is_rising, is_value, IsTable}
use Rattle.ph_specs.specs.Node.{Entries, end, point, child, PlainNode}
use Rattle.ph_specs.specs.Shape.{row_address}
use Rattle.ph_specs.specs.TreeRows.{put_together, rows, rows_behind}
use Rattle.ph_model.specs.Lawful.{HasZerosFrom, IsLawful, IsLawfulFrom, IsAbove}
use Rattle.ph_specs.proofs.laws.Coordinates.{coordinate-fits}
use Rattle.ph_specs.proofs.lemmas.Places.{quotient}
use Rattle.ph_model.proofs.lemmas.Joined.{above-child, length-put_together}
use Rattle.ph_specs.proofs.lemmas.Members.{Each-each}
use Rattle.ph_model.proofs.lemmas.RowsBehind.{Each-append, IsUnder, rows-under, under-address, point-address, child-addresses, addresses-from}
use Rattle.ph_model.proofs.lemmas.Grouped.{Rises}
use Rattle.ph_specs.proofs.laws.Coordinates.{two_halves}
use Rattle.ph_model.proofs.laws.Unique.{zeros_known}
use Rattle.ph_specs.proofs.lemmas.Tests.{and-made, test-each}

-- ---- each point is in range

abbrev pub small : ℕ → List ℕ → Type 0
small w xs = Each (λ x. x < 2 ^ w) xs

-- a number with zeros from a place down has room there
room : (w b x r : ℕ) → b < w → x % 2 ^ (b + 1) ≡ 0 → x < 2 ^ w → r < 2 ^ (b + 1) → x + r < 2 ^ w
room w b x r l z h k =
    let m : w ≡ (b + 1) + (w - (b + 1)) = omega (arith, l) in
    let p : 2 ^ w ≡ 2 ^ (b + 1) * 2 ^ (w - (b + 1)) = ap (λ n. 2 ^ n) m ∙ pow-add 2 (b + 1) (w - (b + 1)) in
    by_parts (x / 2 ^ (b + 1)) (2 ^ (w - (b + 1))) (2 ^ (b + 1)) (2 ^ w) p (quotient x (2 ^ (b + 1)) z) h k
  where
    by_parts : (q c m t : ℕ) → t ≡ m * c → x ≡ q * m → x < t → r < m → x + r < t
    by_parts q c m t e f g k = by_less (nat_lt q c) refl
      where
        by_less : (d : Bool) → nat_lt q c ≡ d → x + r < t
        by_less true j = let s : m * suc q ≤ m * c = mul-le-mul_left m (ltb-true q c j) in omega (arith, s, e, f, k)
        by_less false j = let s : m * c ≤ m * q = mul-le-mul_left m (ltb-false q c j) in absurd (omega (arith, s, e, f, g))

pub put_together-small : (w b a : ℕ) (above body : List ℕ) → b < w → HasZerosFrom b above → small w above →
    Each (λ y. y < 2 ^ b) body → small w (put_together b a above body)
put_together-small w b a [] body l z h k = tt
put_together-small w b a (x ∷ above) [] l z h k = tt
put_together-small w b a (x ∷ above) (y ∷ body) l z h k =
    let p : 2 ^ (b + 1) ≡ 2 * 2 ^ b = two_halves (b + 1) (omega arith) ∙ ap (λ n. 2 * 2 ^ n) (let s : b + 1 - 1 ≡ b = omega arith in s) in
    let r : a / 2 ^ length above % 2 * 2 ^ b + y < 2 ^ (b + 1) = by_digit (a / 2 ^ length above % 2) (mod-lt (a / 2 ^ length above) (omega arith)) p in
    let s : x + (a / 2 ^ length above % 2 * 2 ^ b + y) < 2 ^ w = room w b x (a / 2 ^ length above % 2 * 2 ^ b + y) l z.0 h.0 r in
    (omega (arith, s), put_together-small w b a above body l z.1 h.1 k.1)
  where
    by_digit : (d : ℕ) → d < 2 → 2 ^ (b + 1) ≡ 2 * 2 ^ b → d * 2 ^ b + y < 2 ^ (b + 1)
    by_digit zero l' p = omega (arith, p, k.0)
    by_digit (suc zero) l' p = omega (arith, p, k.0)
    by_digit (suc (suc d)) l' p = absurd (omega arith)

point-is : (w dims : ℕ) (xs : List ℕ) → 1 ≤ w → length xs ≡ dims → small w xs → is_point w dims (map (coordinate w) xs) ≡ true
point-is w dims xs l e h =
    ap (λ t. t && list_all (fits w) (map (coordinate w) xs)) (eq-eqb (length (map (coordinate w) xs)) dims (long xs ∙ e)) ∙ all xs h
  where
    long : (xs : List ℕ) → length (map (coordinate w) xs) ≡ length xs
    long [] = refl
    long (x ∷ xs) = ap suc (long xs)

    all : (xs : List ℕ) → small w xs → list_all (fits w) (map (coordinate w) xs) ≡ true
    all [] h = refl
    all (x ∷ xs) h = ap (λ t. t && list_all (fits w) (map (coordinate w) xs)) (coordinate-fits w x l h.0) ∙ all xs h.1

pub rows-points : (w dims b least : ℕ) (above : List ℕ) (e : Entries) → 1 ≤ w → b < w → IsAbove dims b above →
    small w above → IsLawfulFrom dims b least e → Each (λ r. is_point w dims r.point ≡ true) (rows_behind w b above e)
rows-points w dims b least above end p l h s k = tt
rows-points w dims b least above (point a body v rest) p l h s k = (
  point-is w dims (put_together b a above body) p
      (length-put_together b a above body (h.long ∙ sym k.2.0) ∙ h.long)
      (put_together-small w b a above body l h.zeros s k.2.1),
  rows-points w dims b (a + 1) above rest p l h s k.3,
)
rows-points w dims b least above (child a body c chain rest) p l h s k =
    Each-append (λ r. is_point w dims r.point ≡ true) (rows_behind w c (put_together b a above body) chain) (rows_behind w b above rest)
    (rows-points w dims c 0 (put_together b a above body) chain p (omega (arith, l, k.3))
    (above-child dims b c a above body k.3 h k.2 k.4) (put_together-small w b a above body l h.zeros s k.2.1) k.6)
    (rows-points w dims b (a + 1) above rest p l h s k.7)

-- ---- the rows rise

pub same_then : (x y : ℕ) (t : Bool) → x ≡ y → t ≡ true → (nat_lt x y || ((x == y) && t)) ≡ true
same_then x y t e h =
    ap (λ b. b || ((x == y) && t)) (le-ltb x y (omega (arith, e))) ∙ ap (λ b. b && t) (eq-eqb x y e) ∙ h

pub less_then : (x y : ℕ) (t : Bool) → x < y → (nat_lt x y || t) ≡ true
less_then x y t l = ap (λ b. b || t) (lt-ltb x y l)

-- of two points that agree above a place, the one with the smaller address there comes first
pub before-at : (w b place : ℕ) (p q : List ℤ) → b < place → ((j : ℕ) → b < j → address w p j ≡ address w q j) →
    address w p b < address w q b → before_below place w p q ≡ true
before-at w b zero p q l same h = absurd (omega (arith, l))
before-at w b (suc place) p q l same h =
    let le : b ≤ place = omega (arith, l) in
    elim (eq-or-lt_of_le le) [
      | inl e ↦ subst (λ n. before_below (suc n) w p q ≡ true) e (less_then (address w p b) (address w q b) ((address w p b == address w q b) && before_below b w p q) h)
      | inr k ↦ same_then (address w p place) (address w q place) (before_below place w p q) (same place k) (before-at w b place p q k same h)
    ]

Rises-append : (w b : ℕ) (xs ys : List Row) → Rises w b xs → Rises w b ys → Each (λ x. Each (λ y. before_below b w x.point y.point ≡ true) ys) xs → Rises w b (xs ++ ys)
Rises-append w b [] ys h k c = k
Rises-append w b (x ∷ xs) ys h k c =
    (Each-append (λ y. before_below b w x.point y.point ≡ true) xs ys h.0 c.0, Rises-append w b xs ys h.1 k c.1)

pub both-each : {X : Type 0} (P Q : X → Type 0) (xs : List X) → Each P xs → Each Q xs → Each (λ x. P x × Q x) xs
both-each P Q [] h k = tt
both-each P Q (x ∷ xs) h k = ((h.0, k.0), both-each P Q xs h.1 k.1)

-- rows of one entry come before those of later entries
across : (w b a : ℕ) (above : List ℕ) (rs ss : List Row) → b < w → Each (λ r. row_address w b r ≡ a) rs →
    Each (IsUnder w (b + 1) above) rs → Each (λ s. a + 1 ≤ row_address w b s) ss → Each (IsUnder w (b + 1) above) ss →
    Each (λ r. Each (λ s. before_below w w r.point s.point ≡ true) ss) rs
across w b a above rs ss l h u k v =
    Each-each rs
    (λ r p. Each-each ss
    (λ s q. before-at w b w r.point s.point l
    (λ j i. under-address w (b + 1) j above r (omega (arith, i)) p.1 ∙
    sym (under-address w (b + 1) j above s (omega (arith, i)) q.1))
    (let e : row_address w b r ≡ a = p.0 in let g : a + 1 ≤ row_address w b s = q.0 in omega (arith, e, g)))
    (both-each (λ s. a + 1 ≤ row_address w b s) (IsUnder w (b + 1) above) ss k v))
    (both-each (λ r. row_address w b r ≡ a) (IsUnder w (b + 1) above) rs h u)

pub rows-rise : (w dims b least : ℕ) (above : List ℕ) (e : Entries) → b < w → IsAbove dims b above → IsLawfulFrom dims b least e → Rises w w (rows_behind w b above e)
rows-rise w dims b least above end l h k = tt
rows-rise w dims b least above (point a body v rest) l h k =
    let r : Row = row (map (coordinate w) (put_together b a above body)) v in
    let u : Each (IsUnder w (b + 1) above) (r ∷ rows_behind w b above rest) = rows-under w dims b least above (point a body v rest) h k in
    let c : Each (λ t. Each (λ s. before_below w w t.point s.point ≡ true) (rows_behind w b above rest)) (r ∷ []) =
    across w b a above (r ∷ []) (rows_behind w b above rest) l (
      point-address w dims b a v above body h k.2 k.1,
      tt,
    ) (u.0, tt) (addresses-from w dims b (a + 1) above rest h k.3) u.1 in
    (c.0, rows-rise w dims b (a + 1) above rest l h k.3)
rows-rise w dims b least above (child a body c chain rest) l h k =
    let known : List ℕ = put_together b a above body in
    let i : IsAbove dims c (put_together b a above body) = above-child dims b c a above body k.3 h k.2 k.4 in
    Rises-append w w (rows_behind w c known chain) (rows_behind w b above rest)
    (rows-rise w dims c 0 known chain (omega (arith, l, k.3)) i k.6)
    (rows-rise w dims b (a + 1) above rest l h k.7)
    (across w b a above (rows_behind w c known chain) (rows_behind w b above rest) l
    (child-addresses w dims b a c above body chain h k.2 k.1 k.3 k.4 k.6)
    (child-under w dims b least a c above body chain rest h k) (addresses-from w dims b (a + 1) above rest h k.7)
    (rows-under w dims b (a + 1) above rest h k.7))
  where
    child-under : (w dims b least a c : ℕ) (above body : List ℕ) (chain rest : Entries) → IsAbove dims b above →
        IsLawfulFrom dims b least (child a body c chain rest) →
        Each (IsUnder w (b + 1) above) (rows_behind w c (put_together b a above body) chain)
    child-under w dims b least a c above body chain rest h k =
        let z : Each (IsUnder w (b + 1) above)
        (rows_behind w c (put_together b a above body) chain ++ rows_behind w b above rest) =
        rows-under w dims b least above (child a body c chain rest) h k in
        front (rows_behind w c (put_together b a above body) chain) z
      where
        front : (rs : List Row) → Each (IsUnder w (b + 1) above) (rs ++ rows_behind w b above rest) → Each (IsUnder w (b + 1) above) rs
        front [] z = tt
        front (r ∷ rs) z = (z.0, front rs z.1)

-- ---- the law

rising-all : (w : ℕ) (rs : List Row) → Rises w w rs → is_rising w rs ≡ true
rising-all w [] h = refl
rising-all w (r ∷ rs) h =
    ap (λ t. t && is_rising w rs) (test-each (λ s. before w r.point s.point) rs h.0) ∙ rising-all w rs h.1

-- the values of a lawful tree have 64 binary digits
rows-values : (w dims b least : ℕ) (above : List ℕ) (e : Entries) → IsLawfulFrom dims b least e → Each (λ r. is_value r.value ≡ true) (rows_behind w b above e)
rows-values w dims b least above end h = tt
rows-values w dims b least above (point a body v rest) h = (lt-ltb v (2 ^ 64) h.4, rows-values w dims b (a + 1) above rest h.3)
rows-values w dims b least above (child a body c chain rest) h =
    Each-append (λ r. is_value r.value ≡ true) (rows_behind w c (put_together b a above body) chain)
    (rows_behind w b above rest) (rows-values w dims c 0 (put_together b a above body) chain h.6)
    (rows-values w dims b (a + 1) above rest h.7)

-- the rows of a lawful tree are a table
pub rows-table : (w dims : ℕ) (t : Option PlainNode) → 1 ≤ w → IsLawful w dims t → IsTable w dims (rows w dims t)
rows-table w dims None l h = refl
rows-table w dims (Some n) l h =
    let i : IsAbove dims n.level (replicate dims 0) = record { long = length-replicate dims 0; zeros = zeros_known n.level dims } in
    let b : n.level < w = omega (arith, l, h.0) in
    and-made (is_rising w (rows_behind w n.level (replicate dims 0) n.chain)) _
    (rising-all w (rows_behind w n.level (replicate dims 0) n.chain)
    (rows-rise w dims n.level 0 (replicate dims 0) n.chain b i h.2))
    (and-made (list_all (λ r. is_point w dims r.point) (rows_behind w n.level (replicate dims 0) n.chain)) _
    (test-each (λ r. is_point w dims r.point) (rows_behind w n.level (replicate dims 0) n.chain)
    (rows-points w dims n.level 0 (replicate dims 0) n.chain l b i (zeros dims) h.2))
    (test-each (λ r. is_value r.value) (rows_behind w n.level (replicate dims 0) n.chain) (rows-values w dims n.level 0 (replicate dims 0) n.chain h.2)))
  where
    zeros : (n : ℕ) → small w (replicate n 0)
    zeros zero = tt
    zeros (suc n) = (pow_pos w, zeros n)
