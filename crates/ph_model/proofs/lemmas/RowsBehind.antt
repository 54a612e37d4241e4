-- Laws of the rows behind lawful entries.
use Rattle.std.proofs.Common.{◌≡◌, ℕ, ◌+◌, ◌*◌, ◌%◌, ◌^◌, ◌<◌, ◌≤◌, refl, sym, ◌∙◌, ap, subst, arith, List, [], ◌∷◌, ◌++◌, length, map, get_or, drop, length-append}
use Rattle.std.specs.Prelude.{ℤ}
use Rattle.std.specs.List.{AllByRecursion as Each}
use Rattle.std.proofs.Math.Nat.{mod-eq_of_lt}
use Rattle.ph_specs.specs.Coordinate.{offset, coordinate}
use Rattle.ph_specs.specs.Table.{Row, row}
use Rattle.ph_specs.specs.Node.{Entries, end, point, child}
use Rattle.ph_specs.specs.Shape.{row_address, digits_below, digits_between}
use Rattle.ph_specs.specs.TreeRows.{put_together, rows_behind, count}
use Rattle.ph_model.specs.Lawful.{IsBody, HasZerosFrom, IsLawfulFrom, IsAbove}
use Rattle.ph_specs.proofs.lemmas.Members.{Each-each}
use Rattle.ph_specs.proofs.lemmas.Places.{same-between}
use Rattle.ph_model.proofs.lemmas.Joined.{offsets, from_place, number_at, offsets-coordinate, address_from-is, same_number, same_from}
use Rattle.ph_model.proofs.lemmas.Joined.{number_at-put_together, from_place-put_together, below-put_together, above-child}

pub Each-append : {X : Type 0} (P : X → Type 0) (xs ys : List X) → Each P xs → Each P ys → Each P (xs ++ ys)
Each-append P [] ys h k = k
Each-append P (x ∷ xs) ys h k = (h.0, Each-append P xs ys h.1 k)

-- ---- the digits that rows have in common

-- a row has the known digits from a place on
abbrev pub IsUnder : ℕ → ℕ → List ℕ → Row → Type 0
IsUnder w k known r = from_place k (offsets w r.point) ≡ from_place k known

pub under-point : (w dims b a v : ℕ) (above body : List ℕ) → IsAbove dims b above → IsBody dims b body →
    IsUnder w (b + 1) above (row (map (coordinate w) (put_together b a above body)) v)
under-point w dims b a v above body h k =
    ap (from_place (b + 1)) (offsets-coordinate w (put_together b a above body)) ∙ from_place-put_together b a above body (h.long ∙ sym k.0) h.zeros k.1

pub rows-under : (w dims b least : ℕ) (above : List ℕ) (e : Entries) → IsAbove dims b above →
    IsLawfulFrom dims b least e → Each (IsUnder w (b + 1) above) (rows_behind w b above e)
rows-under w dims b least above end h k = tt
rows-under w dims b least above (point a body v rest) h k =
    (under-point w dims b a v above body h k.2, rows-under w dims b (a + 1) above rest h k.3)
rows-under w dims b least above (child a body c chain rest) h k =
    Each-append (IsUnder w (b + 1) above) (rows_behind w c (put_together b a above body) chain) (rows_behind w b above rest)
    (Each-each (rows_behind w c (put_together b a above body) chain)
    (λ r u. same_from (c + 1) (b + 1) (offsets w r.point) (put_together b a above body) (omega (arith, k.3)) u ∙
    from_place-put_together b a above body (h.long ∙ sym k.2.0) h.zeros k.2.1)
    (rows-under w dims c 0 (put_together b a above body) chain (above-child dims b c a above body k.3 h k.2 k.4) k.6))
    (rows-under w dims b (a + 1) above rest h k.7)

-- ---- addresses

pub address-put_together : (dims b a : ℕ) (above body : List ℕ) → IsAbove dims b above → IsBody dims b body →
    a < 2 ^ dims → number_at 0 b (put_together b a above body) ≡ a
address-put_together dims b a above body h k l =
    let e : number_at 0 b (put_together b a above body) ≡ 0 * 2 ^ length above + a % 2 ^ length above =
    number_at-put_together 0 b a above body (h.long ∙ sym k.0) h.zeros k.1 in
    let f : a % 2 ^ length above ≡ a % 2 ^ dims = ap (λ n. a % 2 ^ n) h.long in
    let g : a % 2 ^ dims ≡ a = mod-eq_of_lt l in
    omega (arith, e, f, g)

pub point-address : (w dims b a v : ℕ) (above body : List ℕ) → IsAbove dims b above → IsBody dims b body →
    a < 2 ^ dims → row_address w b (row (map (coordinate w) (put_together b a above body)) v) ≡ a
point-address w dims b a v above body h k l =
    address_from-is w 0 b (map (coordinate w) (put_together b a above body)) ∙
    ap (number_at 0 b) (offsets-coordinate w (put_together b a above body)) ∙ address-put_together dims b a above body h k l

-- the address of a row under known digits, at a place where they are known
pub under-address : (w k j : ℕ) (known : List ℕ) (r : Row) → k ≤ j → IsUnder w k known r → row_address w j r ≡ number_at 0 j known
under-address w k j known r l u = address_from-is w 0 j r.point ∙ same_number 0 k j (offsets w r.point) known l u

-- the rows of a child entry have its address
pub child-addresses : (w dims b a c : ℕ) (above body : List ℕ) (chain : Entries) → IsAbove dims b above →
    IsBody dims b body → a < 2 ^ dims → c < b → HasZerosFrom c body → IsLawfulFrom dims c 0 chain →
    Each (λ r. row_address w b r ≡ a) (rows_behind w c (put_together b a above body) chain)
child-addresses w dims b a c above body chain h k l m z q =
    Each-each (rows_behind w c (put_together b a above body) chain)
    (λ r u. under-address w (c + 1) b (put_together b a above body) r (omega (arith, m)) u ∙ address-put_together dims b a above body h k l)
    (rows-under w dims c 0 (put_together b a above body) chain (above-child dims b c a above body m h k z) q)

-- addresses are at least the least
pub addresses-from : (w dims b least : ℕ) (above : List ℕ) (e : Entries) → IsAbove dims b above →
    IsLawfulFrom dims b least e → Each (λ r. least ≤ row_address w b r) (rows_behind w b above e)
addresses-from w dims b least above end h k = tt
addresses-from w dims b least above (point a body v rest) h k =
    let e : row_address w b (row (map (coordinate w) (put_together b a above body)) v) ≡ a = point-address w dims b a v above body h k.2 k.1 in
    (omega (arith, e, k.0), Each-each (rows_behind w b above rest) (λ r l. omega (arith, l, k.0)) (addresses-from w dims b (a + 1) above rest h k.3))
addresses-from w dims b least above (child a body c chain rest) h k =
    Each-append (λ r. least ≤ row_address w b r) (rows_behind w c (put_together b a above body) chain) (rows_behind w b above rest)
    (Each-each (rows_behind w c (put_together b a above body) chain) (λ r e. omega (arith, e, k.0)) (child-addresses w dims b a c above body chain h k.2 k.1 k.3 k.4 k.6))
    (Each-each (rows_behind w b above rest) (λ r l. omega (arith, l, k.0)) (addresses-from w dims b (a + 1) above rest h k.7))

-- ---- bodies

pub point-body : (w dims b a : ℕ) (above body : List ℕ) → IsAbove dims b above → IsBody dims b body →
    digits_below w b (map (coordinate w) (put_together b a above body)) ≡ body
point-body w dims b a above body h k =
    below-offsets w b (map (coordinate w) (put_together b a above body)) ∙
    ap (map (λ x. x % 2 ^ b)) (offsets-coordinate w (put_together b a above body)) ∙
    below-put_together b a above body (h.long ∙ sym k.0) h.zeros k.1
  where
    below-offsets : (w b : ℕ) (p : List ℤ) → digits_below w b p ≡ map (λ x. x % 2 ^ b) (offsets w p)
    below-offsets w b [] = refl
    below-offsets w b (c ∷ p) = ap {B = List ℕ} (λ r. offset w c % 2 ^ b ∷ r) (below-offsets w b p)

pub under-between : (w b c : ℕ) (p : List ℤ) (vs : List ℕ) → c < b →
    from_place (c + 1) (offsets w p) ≡ from_place (c + 1) vs → HasZerosFrom c (map (λ x. x % 2 ^ b) vs) →
    digits_between w b c p ≡ map (λ x. x % 2 ^ b) vs
under-between w b c [] [] l e z = refl
under-between w b c [] (v ∷ vs) l e z = cc
under-between w b c (x ∷ p) [] l e z = cc
under-between w b c (x ∷ p) (v ∷ vs) l e z =
    ap (λ t. t ∷ digits_between w b c p)
    (same-between b c (offset w x) v (v % 2 ^ b) l (ap (λ r. get_or r 0 0) e) refl z.0) ∙
    ap {B = List ℕ} (λ r. v % 2 ^ b ∷ r) (under-between w b c p vs l (ap (drop 1) e) z.1)

pub child-bodies : (w dims b a c : ℕ) (above body : List ℕ) (chain : Entries) → IsAbove dims b above →
    IsBody dims b body → c < b → HasZerosFrom c body → IsLawfulFrom dims c 0 chain →
    Each (λ r. digits_between w b c r.point ≡ body) (rows_behind w c (put_together b a above body) chain)
child-bodies w dims b a c above body chain h k m z q =
    let e : map (λ x. x % 2 ^ b) (put_together b a above body) ≡ body = below-put_together b a above body (h.long ∙ sym k.0) h.zeros k.1 in
    Each-each (rows_behind w c (put_together b a above body) chain)
    (λ r u. under-between w b c r.point (put_together b a above body) m u (subst (HasZerosFrom c) (sym e) z) ∙ e)
    (rows-under w dims c 0 (put_together b a above body) chain (above-child dims b c a above body m h k z) q)

-- ---- there is a row for each entry

pub count-rows : (w dims b least : ℕ) (above : List ℕ) (e : Entries) → IsLawfulFrom dims b least e → count e ≤ length (rows_behind w b above e)
count-rows w dims b least above end k = omega arith
count-rows w dims b least above (point a body v rest) k = omega (arith, count-rows w dims b (a + 1) above rest k.3)
count-rows w dims b least above (child a body c chain rest) k =
    omega (
      arith,
      count-rows w dims b (a + 1) above rest k.7,
      count-rows w dims c 0 (put_together b a above body) chain k.6,
      k.5,
      length-append (rows_behind w c (put_together b a above body) chain) (rows_behind w b above rest),
    )
