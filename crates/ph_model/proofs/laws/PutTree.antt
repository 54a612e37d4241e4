-- The edit of a lawful tree: it is lawful, and its rows are those of the edited table.
use Rattle.std.proofs.Common.{◌≡◌, ◌≢◌, ℕ, ◌+◌, ◌-◌, ◌*◌, ◌/◌, ◌%◌, ◌^◌, ◌<◌, ◌≤◌, refl, sym, ◌∙◌, ap, subst, arith, List, []}
use Rattle.std.proofs.Common.{◌∷◌, ◌++◌, length, map, replicate, true, false, inl, inr, ltb-true, ltb-false}
use Rattle.std.specs.Prelude.{ℤ, nat_lt, Option, Some, None}
use Rattle.std.specs.List.{AllByRecursion as Each}
use Rattle.std.proofs.lemmas.List.{append-nil}
use Rattle.ph_specs.specs.Coordinate.{coordinate, is_point}
use Rattle.ph_specs.specs.ZOrder.{address}
use Rattle.ph_specs.specs.Table.{Row, row, put, is_value}
use Rattle.ph_specs.specs.Node.{Entries, end, point, child, PlainNode}
use Rattle.ph_specs.specs.Shape.{row_address, digits_below, digits_between}
use Rattle.ph_specs.specs.TreeRows.{put_together, rows_behind, rows, count}
use Rattle.ph_model.specs.Lawful.{IsBody, HasZerosFrom, IsLawfulFrom, IsLawful, IsAbove}
use Rattle.ph_specs.specs.DelTree.{same_digits}
use Rattle.ph_model.specs.PutTree.{split_place, body_address_from, body_address, body_below, with_point}
use Rattle.ph_model.specs.PutTree.{split_child, point_below, child_below, put_entries, put_tree}
use Rattle.ph_specs.proofs.laws.Put.{test_from_same, either}
use Rattle.ph_model.proofs.lemmas.Joined.{offsets, from_place, number_at, from_place-put_together, below-put_together}
use Rattle.ph_model.proofs.lemmas.Assembled.{cleared, between, number_at-small}
use Rattle.ph_model.proofs.lemmas.Grouped.{Each-front, same_place}
use Rattle.ph_specs.proofs.lemmas.Members.{Each-each}
use Rattle.ph_model.proofs.lemmas.RowsBehind.{IsUnder, under-point, rows-under, address-put_together, point-address, child-addresses, addresses-from}
use Rattle.ph_model.proofs.lemmas.PointDigits.{same_digits-true, same_digits-false, IsWhole, point-whole, none-known}
use Rattle.ph_model.proofs.lemmas.PointDigits.{above-point, address-is, address-below, known-point, known-between}
use Rattle.ph_model.proofs.lemmas.PutRows.{before-by, AllBehind, AllBefore, put-front, put-after, put-inside}
use Rattle.ph_model.proofs.lemmas.Splits as splits
use Rattle.ph_model.proofs.lemmas.Splits.{IsSplit, from-cleared, below-offsets, body_address-is, known-below, is-body-between, is-body-below, is-body-lower}
use Rattle.ph_model.proofs.lemmas.Splits.{zeros-lower}
use Rattle.ph_model.proofs.lemmas.Shaped.{zeros-between, between-between}
use Rattle.ph_model.proofs.laws.LawfulRows.{both-each}

-- what is known of a point above a level, and behind an entry there
abbrev pub over : ℕ → ℕ → List ℤ → List ℕ
over w b p = cleared (b + 1) (offsets w p)

abbrev pub behind : ℕ → ℕ → ℕ → List ℕ → List ℤ → List ℕ
behind w b a body p = put_together b a (over w b p) body

-- ---- an entry that the point's address leads to, and that is another

-- it is split from the point at a place
record Parted (w b low k : ℕ) (body known : List ℕ) (p : List ℤ) : Type 0 where
  pub lower : k < b
  pub above : low ≤ k
  pub apart : body_address k body ≢ address w p k
  pub again : put_together k (body_address k body) (over w k p) (body_below k body) ≡ known

parted : (w dims b low k : ℕ) (body known : List ℕ) (p : List ℤ) → body_below b known ≡ body → IsSplit b low k known (offsets w p) → Parted w b low k body known p
parted w dims b low k body known p e s =
    record {
      lower = s.lower;
      above = s.above;
      apart = λ q. s.differ (sym (ap (body_address k) (sym e) ∙ body_address-is 0 b k known s.lower) ∙ q ∙ address-is w k p);
      again = subst (λ t. put_together k (body_address k t) (over w k p) (body_below k t) ≡ known) e (known-below b k known (offsets w p) s.lower s.agree);
    }

body-again : (w dims b a : ℕ) (body : List ℕ) (p : List ℤ) → IsWhole w dims p → IsBody dims b body → body_below b (behind w b a body p) ≡ body
body-again w dims b a body p h k =
    let i : IsAbove dims b (over w b p) = above-point w dims b p h in below-put_together b a (over w b p) body (i.long ∙ sym k.0) i.zeros k.1

-- it agrees with the point from its level on
agree-here : (w dims b a : ℕ) (body : List ℕ) (p : List ℤ) → IsWhole w dims p → a < 2 ^ dims → IsBody dims b body →
    a ≡ address w p b → from_place b (behind w b a body p) ≡ from_place b (offsets w p)
agree-here w dims b a body p h l k e =
    let i : IsAbove dims b (over w b p) = above-point w dims b p h in
    same_place 0 b (behind w b a body p) (offsets w p)
    (from_place-put_together b a (over w b p) body (i.long ∙ sym k.0) i.zeros k.1 ∙ from-cleared (b + 1) (offsets w p))
    (address-put_together dims b a (over w b p) body i k l ∙ e ∙ address-is w b p)

parted-point : (w dims b a : ℕ) (body : List ℕ) (p : List ℤ) → IsWhole w dims p → a < 2 ^ dims → IsBody dims b body →
    a ≡ address w p b → same_digits body (digits_below w b p) ≡ false →
    Parted w b 0 (split_place b body (digits_below w b p)) body (behind w b a body p) p
parted-point w dims b a body p h l k e n =
    let zs : List ℕ = behind w b a body p in
    let xs : List ℕ = offsets w p in
    let f : body_below b (behind w b a body p) ≡ body = body-again w dims b a body p h k in
    let g : body_below b (offsets w p) ≡ digits_below w b p = sym (below-offsets w b p) in
    let no : body_below b (behind w b a body p) ≡ body_below b (offsets w p) → ⊥ = λ s. same_digits-false body (digits_below w b p) n (sym f ∙ s ∙ g) in
    let s : IsSplit b 0 (split_place b (body_below b (behind w b a body p)) (body_below b (offsets w p)))
    (behind w b a body p) (offsets w p) = splits.split-point b zs xs (agree-here w dims b a body p h l k e) no in
    parted w dims b 0 (split_place b body (digits_below w b p)) body zs p f
    (subst (λ t. IsSplit b 0 (split_place b body t) zs xs) g (subst (λ t. IsSplit b 0 (split_place b t (body_below b xs)) zs xs) f s))

parted-child : (w dims b a c : ℕ) (body : List ℕ) (p : List ℤ) → IsWhole w dims p → a < 2 ^ dims →
    IsBody dims b body → c < b → HasZerosFrom c body → a ≡ address w p b →
    same_digits body (digits_between w b c p) ≡ false →
    Parted w b (c + 1) (split_place b body (digits_between w b c p)) body (behind w b a body p) p
parted-child w dims b a c body p h l k m z e n =
    let zs : List ℕ = behind w b a body p in
    let xs : List ℕ = offsets w p in
    let f : body_below b (behind w b a body p) ≡ body = body-again w dims b a body p h k in
    let g : between b (c + 1) (offsets w p) ≡ digits_between w b c p = sym (between-between w b c p) in
    let no : body_below b (behind w b a body p) ≡ between b (c + 1) (offsets w p) → ⊥ = λ s. same_digits-false body (digits_between w b c p) n (sym f ∙ s ∙ g) in
    let s : IsSplit b (c + 1) (split_place b (body_below b (behind w b a body p)) (between b (c + 1) (offsets w p))) (behind w b a body p) (offsets w p) =
    splits.split-child b c zs xs m (subst (HasZerosFrom c) (sym f) z) (agree-here w dims b a body p h l k e) no
    in
    parted w dims b (c + 1) (split_place b body (digits_between w b c p)) body zs p f
    (subst (λ t. IsSplit b (c + 1) (split_place b body t) zs xs) g (subst (λ t. IsSplit b (c + 1) (split_place b t (between b (c + 1) xs)) zs xs) f s))

-- ---- lawful

beside-point : (w dims k a u : ℕ) (body : List ℕ) (p : List ℤ) (v : ℕ) → IsWhole w dims p → a < 2 ^ dims →
    IsBody dims k body → u < 2 ^ 64 → v < 2 ^ 64 → a ≢ address w p k →
    IsLawfulFrom dims k 0 (with_point w k (point a body u end) p v) × (2 ≤ count (with_point w k (point a body u end) p v))
beside-point w dims k a u body p v h l m x y n =
    elim (either (nat_lt (address w p k) a)) [
      | inl first ↦
          let f : address w p k < a = ltb-true (address w p k) a first in
          rw first ((omega arith, address-below w dims k p h, is-body-below w dims k p h, (omega (arith, f), l, m, tt, x), y), omega arith)
      | inr late ↦
          let f : a ≤ address w p k = ltb-false (address w p k) a late in
          rw late ((omega arith, l, m, (omega (arith, f, n), address-below w dims k p h, is-body-below w dims k p h, tt, y), x), omega arith)
    ]

beside-child : (w dims k a c : ℕ) (body : List ℕ) (chain : Entries) (p : List ℤ) (v : ℕ) → IsWhole w dims p →
    a < 2 ^ dims → IsBody dims k body → c < k → HasZerosFrom c body → 2 ≤ count chain → IsLawfulFrom dims c 0 chain →
    v < 2 ^ 64 → a ≢ address w p k → IsLawfulFrom dims k 0 (with_point w k (child a body c chain end) p v) ×
    (2 ≤ count (with_point w k (child a body c chain end) p v))
beside-child w dims k a c body chain p v h l m lower z many ok y n =
    elim (either (nat_lt (address w p k) a)) [
      | inl first ↦
          let f : address w p k < a = ltb-true (address w p k) a first in
          rw first ((omega arith, address-below w dims k p h, is-body-below w dims k p h, (omega (arith, f), l, m, lower, z, many, ok, tt), y), omega arith)
      | inr late ↦
          let f : a ≤ address w p k = ltb-false (address w p k) a late in
          rw late ((omega arith, l, m, lower, z, many, ok, (omega (arith, f, n), address-below w dims k p h, is-body-below w dims k p h, tt, y)), omega arith)
    ]

-- a new child with the old entry and the point
split-lawful : (w dims b k least a : ℕ) (old rest : Entries) (p : List ℤ) (v : ℕ) → IsWhole w dims p → least ≤ a →
    a < 2 ^ dims → k < b → IsLawfulFrom dims k 0 (with_point w k old p v) × (2 ≤ count (with_point w k old p v)) →
    IsLawfulFrom dims b (a + 1) rest → IsLawfulFrom dims b least (split_child w b k a old rest p v)
split-lawful w dims b k least a old rest p v h l m n ok more =
    (l, m, is-body-between w dims b k p h, n, subst (HasZerosFrom k) (sym (between-between w b k p)) (zeros-between b k (offsets w p)), ok.1, ok.0, more)

body_address-below : (dims b k : ℕ) (body : List ℕ) → IsBody dims b body → body_address k body < 2 ^ dims
body_address-below dims b k body h =
    let l : number_at 0 k body < 2 ^ length body = number_at-small k body in
    let m : 2 ^ length body ≡ 2 ^ dims = ap (λ n. 2 ^ n) h.0 in
    let e : body_address k body ≡ number_at 0 k body = is 0 body in
    omega (arith, l, m, e)
  where
    is : (s : ℕ) (xs : List ℕ) → body_address_from s k xs ≡ number_at s k xs
    is s [] = refl
    is s (x ∷ xs) = is (s * 2 + x / 2 ^ k % 2) xs

count-put : (w b : ℕ) (e : Entries) (p : List ℤ) (v : ℕ) → count e ≤ count (put_entries w b e p v)
count-put w b end p v = omega arith
count-put w b (point a body u rest) p v =
    let ih : count rest ≤ count (put_entries w b rest p v) = count-put w b rest p v in
    elim (either (nat_lt (address w p b) a)) [
      | inl first ↦ rw first (omega arith)
      | inr late ↦ elim (either (nat_lt a (address w p b))) [
        | inl later ↦ rw (late, later) (omega (arith, ih))
        | inr here ↦ elim (either (same_digits body (digits_below w b p)))
            [ inl alike ↦ rw (late, here, alike) (omega arith) | inr unlike ↦ rw (late, here, unlike) (omega arith) ]
      ]
    ]
count-put w b (child a body c chain rest) p v =
    let ih : count rest ≤ count (put_entries w b rest p v) = count-put w b rest p v in
    elim (either (nat_lt (address w p b) a)) [
      | inl first ↦ rw first (omega arith)
      | inr late ↦ elim (either (nat_lt a (address w p b))) [
        | inl later ↦ rw (late, later) (omega (arith, ih))
        | inr here ↦ elim (either (same_digits body (digits_between w b c p)))
            [ inl alike ↦ rw (late, here, alike) (omega arith) | inr unlike ↦ rw (late, here, unlike) (omega arith) ]
      ]
    ]

equal : (m n : ℕ) → nat_lt m n ≡ false → nat_lt n m ≡ false → n ≡ m
equal m n h k = let a : n ≤ m = ltb-false m n h in let b : m ≤ n = ltb-false n m k in omega (arith, a, b)

pub lawful-put : (w dims b least : ℕ) (e : Entries) (p : List ℤ) (v : ℕ) → IsWhole w dims p → v < 2 ^ 64 →
    IsLawfulFrom dims b least e → least ≤ address w p b → IsLawfulFrom dims b least (put_entries w b e p v)
lawful-put w dims b least end p v h y k m = (m, address-below w dims b p h, is-body-below w dims b p h, tt, y)
lawful-put w dims b least (point a body u rest) p v h y k m =
    elim (either (nat_lt (address w p b) a)) [
      | inl first ↦
          let f : address w p b < a = ltb-true (address w p b) a first in
          rw first (m, address-below w dims b p h, is-body-below w dims b p h, (omega (arith, f), k.1, k.2, k.3, k.4), y)
      | inr late ↦ elim (either (nat_lt a (address w p b))) [
        | inl later ↦
            let f : a < address w p b = ltb-true a (address w p b) later in
            rw (late, later) (k.0, k.1, k.2, lawful-put w dims b (a + 1) rest p v h y k.3 (omega (arith, f)), k.4)
        | inr here ↦ elim (either (same_digits body (digits_below w b p))) [
          | inl alike ↦ rw (late, here, alike) (k.0, k.1, k.2, k.3, y)
          | inr unlike ↦
              let place : ℕ = split_place b body (digits_below w b p) in
              let s : Parted w b 0 (split_place b body (digits_below w b p)) body (behind w b a body p) p =
              parted-point w dims b a body p h k.1 k.2 (equal (address w p b) a late here) unlike in
              rw (late, here, unlike) (split-lawful w dims b place least a (point_below place body u) rest p v h k.0
              k.1 s.lower (beside-point w dims place (body_address place body) u (body_below place body) p v h
              (body_address-below dims b place body k.2) (is-body-lower dims b place body k.2) k.4 y s.apart) k.3)
        ]
      ]
    ]
lawful-put w dims b least (child a body c chain rest) p v h y k m =
    elim (either (nat_lt (address w p b) a)) [
      | inl first ↦
          let f : address w p b < a = ltb-true (address w p b) a first in
          rw first (m, address-below w dims b p h, is-body-below w dims b p h, (omega (arith, f), k.1, k.2, k.3, k.4, k.5, k.6, k.7), y)
      | inr late ↦ elim (either (nat_lt a (address w p b))) [
        | inl later ↦
            let f : a < address w p b = ltb-true a (address w p b) later in
            rw (late, later) (k.0, k.1, k.2, k.3, k.4, k.5, k.6, lawful-put w dims b (a + 1) rest p v h y k.7 (omega (arith, f)))
        | inr here ↦ elim (either (same_digits body (digits_between w b c p))) [
          | inl alike ↦
              let more : count chain ≤ count (put_entries w c chain p v) = count-put w c chain p v in
              rw (late, here, alike) (k.0, k.1, k.2, k.3, k.4, omega (arith, more, k.5), lawful-put w dims c 0 chain p v h y k.6 (omega arith), k.7)
          | inr unlike ↦
              let place : ℕ = split_place b body (digits_between w b c p) in
              let s : Parted w b (c + 1) (split_place b body (digits_between w b c p)) body (behind w b a body p) p =
              parted-child w dims b a c body p h k.1 k.2 k.3 k.4 (equal (address w p b) a late here) unlike in
              let lower : c < split_place b body (digits_between w b c p) = omega (arith, s.above) in
              rw (late, here, unlike) (split-lawful w dims b place least a (child_below place body c chain) rest p v h
              k.0 k.1 s.lower (beside-child w dims place (body_address place body) c (body_below place body) chain
              p v h (body_address-below dims b place body k.2) (is-body-lower dims b place body k.2) lower
              (zeros-lower place c body lower k.4) k.5 k.6 y s.apart) k.7)
        ]
      ]
    ]

-- ---- rows

new-row : (w dims b : ℕ) (p : List ℤ) (v : ℕ) → IsWhole w dims p → row (map (coordinate w) (behind w b (address w p b) (digits_below w b p) p)) v ≡ row p v
new-row w dims b p v h = ap (λ t. row (map (coordinate w) t) v) (known-point w b p) ∙ ap (λ t. row t v) h.back

-- rows that agree with the point above a level, by their addresses there
abbrev IsSameOver : ℕ → ℕ → List ℤ → Row → Type 0
IsSameOver w b p r = IsUnder w (b + 1) (over w b p) r

behind-by : (w b : ℕ) (p : List ℤ) (rs : List Row) → b < w → Each (λ r. address w p b + 1 ≤ row_address w b r) rs → Each (IsSameOver w b p) rs → AllBehind w p rs
behind-by w b p rs l h k =
    Each-each rs
    (λ r q. before-by w b p r.point l (sym (q.1 ∙ from-cleared (b + 1) (offsets w p))) (let f : address w p b + 1 ≤ row_address w b r = q.0 in omega (arith, f)))
    (both-each (λ r. address w p b + 1 ≤ row_address w b r) (IsSameOver w b p) rs h k)

before-all : (w b a : ℕ) (p : List ℤ) (rs : List Row) → b < w → a < address w p b → Each (λ r. row_address w b r ≡ a) rs → Each (IsSameOver w b p) rs → AllBefore w p rs
before-all w b a p rs l m h k =
    Each-each rs
    (λ r q. before-by w b r.point p l (q.1 ∙ from-cleared (b + 1) (offsets w p)) (let f : row_address w b r ≡ a = q.0 in omega (arith, f, m)))
    (both-each (λ r. row_address w b r ≡ a) (IsSameOver w b p) rs h k)

-- entries whose addresses are greater than the point's
entries-behind : (w dims b least : ℕ) (e : Entries) (p : List ℤ) → b < w → IsWhole w dims p →
    IsLawfulFrom dims b least e → address w p b < least → AllBehind w p (rows_behind w b (over w b p) e)
entries-behind w dims b least e p l h k m =
    let i : IsAbove dims b (over w b p) = above-point w dims b p h in
    behind-by w b p (rows_behind w b (over w b p) e) l
    (Each-each (rows_behind w b (over w b p) e) (λ r f. let g : least ≤ row_address w b r = f in omega (arith, g, m)) (addresses-from w dims b least (over w b p) e i k))
    (rows-under w dims b least (over w b p) e i k)

-- a point entry, and a child entry, whose address is less than the point's
point-before : (w dims b a u : ℕ) (body : List ℕ) (p : List ℤ) → b < w → IsWhole w dims p → a < 2 ^ dims →
    IsBody dims b body → a < address w p b → AllBefore w p (row (map (coordinate w) (behind w b a body p)) u ∷ [])
point-before w dims b a u body p l h s k m =
    let i : IsAbove dims b (over w b p) = above-point w dims b p h in
    before-all w b a p (row (map (coordinate w) (behind w b a body p)) u ∷ []) l m
    (point-address w dims b a u (over w b p) body i k s, tt) (under-point w dims b a u (over w b p) body i k, tt)

child-before : (w dims b a c : ℕ) (body : List ℕ) (chain : Entries) (p : List ℤ) → b < w → IsWhole w dims p →
    a < 2 ^ dims → IsBody dims b body → c < b → HasZerosFrom c body → 2 ≤ count chain → IsLawfulFrom dims c 0 chain →
    a < address w p b → AllBefore w p (rows_behind w c (behind w b a body p) chain)
child-before w dims b a c body chain p l h s k n z many ok m =
    let i : IsAbove dims b (over w b p) = above-point w dims b p h in
    before-all w b a p (rows_behind w c (behind w b a body p) chain) l m
    (child-addresses w dims b a c (over w b p) body chain i k s n z ok)
    (Each-front (IsSameOver w b p) (rows_behind w c (behind w b a body p) chain) []
    (rows-under w dims b 0 (over w b p) (child a body c chain end) i (omega arith, s, k, n, z, many, ok, tt)))

-- a new point in front
rows-first : (w dims b least : ℕ) (e : Entries) (p : List ℤ) (v : ℕ) → b < w → IsWhole w dims p →
    IsLawfulFrom dims b least e → address w p b < least →
    rows_behind w b (over w b p) (point (address w p b) (digits_below w b p) v e) ≡ put w (rows_behind w b (over w b p) e) p v
rows-first w dims b least e p v l h k m =
    ap (λ t. t ∷ rows_behind w b (over w b p) e) (new-row w dims b p v h) ∙
    sym (put-front w (rows_behind w b (over w b p) e) p v (entries-behind w dims b least e p l h k m))

-- a new point beside the one entry of a new child
rows-beside-point : (w dims k a u : ℕ) (body : List ℕ) (p : List ℤ) (v : ℕ) → k < w → IsWhole w dims p →
    a < 2 ^ dims → IsBody dims k body → u < 2 ^ 64 → a ≢ address w p k →
    rows_behind w k (over w k p) (with_point w k (point a body u end) p v) ≡
    put w (row (map (coordinate w) (behind w k a body p)) u ∷ []) p v
rows-beside-point w dims k a u body p v l h s m x n =
    let r : Row = row (map (coordinate w) (behind w k a body p)) u in
    elim (either (nat_lt (address w p k) a)) [
      | inl first ↦ rw first (rows-first w dims k a (point a body u end) p v l h (omega arith, s, m, tt, x) (ltb-true (address w p k) a first))
      | inr late ↦
          let f : a ≤ address w p k = ltb-false (address w p k) a late in
          rw late (ap {B = List Row} (λ t. r ∷ t ∷ []) (new-row w dims k p v h) ∙
          sym (put-after w (r ∷ []) [] p v (point-before w dims k a u body p l h s m (omega (arith, f, n)))))
    ]

rows-beside-child : (w dims k a c : ℕ) (body : List ℕ) (chain : Entries) (p : List ℤ) (v : ℕ) → k < w →
    IsWhole w dims p → a < 2 ^ dims → IsBody dims k body → c < k → HasZerosFrom c body → 2 ≤ count chain →
    IsLawfulFrom dims c 0 chain → a ≢ address w p k →
    rows_behind w k (over w k p) (with_point w k (child a body c chain end) p v) ≡
    put w (rows_behind w c (behind w k a body p) chain) p v
rows-beside-child w dims k a c body chain p v l h s m lower z many ok n =
    let rs : List Row = rows_behind w c (behind w k a body p) chain in
    elim (either (nat_lt (address w p k) a)) [
      | inl first ↦
          rw first (rows-first w dims k a (child a body c chain end) p v l h
          (omega arith, s, m, lower, z, many, ok, tt) (ltb-true (address w p k) a first) ∙
          ap (λ t. put w t p v) (append-nil (rows_behind w c (behind w k a body p) chain)))
      | inr late ↦
          let f : a ≤ address w p k = ltb-false (address w p k) a late in
          rw late (ap {B = List Row} (λ t. rs ++ (t ∷ [])) (new-row w dims k p v h) ∙
          sym (put-after w rs [] p v (child-before w dims k a c body chain p l h s m lower z many ok
          (omega (arith, f, n)))) ∙ ap (λ t. put w t p v) (append-nil (rows_behind w c (behind w k a body p) chain)))
    ]

-- a new child with the old entry and the point
rows-split : (w dims b k a : ℕ) (old rest : Entries) (rs : List Row) (p : List ℤ) (v : ℕ) → k < b →
    a ≡ address w p b → rows_behind w k (over w k p) (with_point w k old p v) ≡ put w rs p v →
    AllBehind w p (rows_behind w b (over w b p) rest) →
    rows_behind w b (over w b p) (split_child w b k a old rest p v) ≡ put w (rs ++ rows_behind w b (over w b p) rest) p v
rows-split w dims b k a old rest rs p v l e f g =
    let more : List Row = rows_behind w b (over w b p) rest in
    let here : behind w b a (digits_between w b k p) p ≡ over w k p = ap (λ t. behind w b t (digits_between w b k p) p) e ∙ known-between w b k p l in
    ap (λ t. rows_behind w k t (with_point w k old p v) ++ more) here ∙ ap (λ t. t ++ more) f ∙ sym (put-inside w rs more p v g)

pub rows-put : (w dims b least : ℕ) (e : Entries) (p : List ℤ) (v : ℕ) → b < w → IsWhole w dims p →
    IsLawfulFrom dims b least e → rows_behind w b (over w b p) (put_entries w b e p v) ≡
    put w (rows_behind w b (over w b p) e) p v
rows-put w dims b least end p v l h k = ap {B = List Row} (λ t. t ∷ []) (new-row w dims b p v h)
rows-put w dims b least (point a body u rest) p v l h k =
    let q : List ℤ = map (coordinate w) (behind w b a body p) in
    let r : Row = row (map (coordinate w) (behind w b a body p)) u in
    let more : List Row = rows_behind w b (over w b p) rest in
    elim (either (nat_lt (address w p b) a)) [
      | inl first ↦
          rw first (rows-first w dims b a (point a body u rest) p v l h (omega arith, k.1, k.2, k.3, k.4) (ltb-true (address w p b) a first))
      | inr late ↦ elim (either (nat_lt a (address w p b))) [
        | inl later ↦
            rw (late, later) (ap {B = List Row} (λ t. r ∷ t) (rows-put w dims b (a + 1) rest p v l h k.3) ∙
            sym (put-after w (r ∷ []) more p v
            (point-before w dims b a u body p l h k.1 k.2 (ltb-true a (address w p b) later))))
        | inr here ↦
            let e : a ≡ address w p b = equal (address w p b) a late here in
            let after : AllBehind w p (rows_behind w b (over w b p) rest) = entries-behind w dims b (a + 1) rest p l h k.3 (omega (arith, e)) in
            elim (either (same_digits body (digits_below w b p))) [
              | inl alike ↦
                  let same : map (coordinate w) (behind w b a body p) ≡ p =
                  ap (λ t. map (coordinate w) (behind w b t body p)) e ∙
                  ap (λ t. map (coordinate w) (behind w b (address w p b) t p))
                  (same_digits-true body (digits_below w b p) alike) ∙ ap (map (coordinate w)) (known-point w b p) ∙ h.back
                  in
                  rw (late, here, alike, test_from_same q p same) (ap (λ t. row t v ∷ more) same)
              | inr unlike ↦
                  let place : ℕ = split_place b body (digits_below w b p) in
                  let s : Parted w b 0 (split_place b body (digits_below w b p)) body (behind w b a body p) p = parted-point w dims b a body p h k.1 k.2 e unlike in
                  let f : rows_behind w (split_place b body (digits_below w b p))
                  (over w (split_place b body (digits_below w b p)) p)
                  (with_point w (split_place b body (digits_below w b p))
                  (point_below (split_place b body (digits_below w b p)) body u) p v) ≡
                  put w (row (map (coordinate w) (behind w b a body p)) u ∷ []) p v =
                  rows-beside-point w dims place (body_address place body) u (body_below place body) p v
                  (omega (arith, l, s.lower)) h (body_address-below dims b place body k.2)
                  (is-body-lower dims b place body k.2) k.4 s.apart
                  ∙ ap (λ t. put w (row (map (coordinate w) t) u ∷ []) p v) s.again
                  in
                  rw (late, here, unlike) (rows-split w dims b place a (point_below place body u) rest (r ∷ []) p v s.lower e f after)
            ]
      ]
    ]
rows-put w dims b least (child a body c chain rest) p v l h k =
    let rs : List Row = rows_behind w c (behind w b a body p) chain in
    let more : List Row = rows_behind w b (over w b p) rest in
    elim (either (nat_lt (address w p b) a)) [
      | inl first ↦
          rw first (rows-first w dims b a (child a body c chain rest) p v l h (omega arith, k.1, k.2, k.3, k.4, k.5, k.6, k.7) (ltb-true (address w p b) a first))
      | inr late ↦ elim (either (nat_lt a (address w p b))) [
        | inl later ↦
            rw (late, later) (ap (λ t. rs ++ t) (rows-put w dims b (a + 1) rest p v l h k.7) ∙
            sym (put-after w rs more p v (child-before w dims b a c body chain p l h k.1 k.2 k.3 k.4 k.5 k.6
            (ltb-true a (address w p b) later))))
        | inr here ↦
            let e : a ≡ address w p b = equal (address w p b) a late here in
            let after : AllBehind w p (rows_behind w b (over w b p) rest) = entries-behind w dims b (a + 1) rest p l h k.7 (omega (arith, e)) in
            elim (either (same_digits body (digits_between w b c p))) [
              | inl alike ↦
                  let same : behind w b a body p ≡ over w c p =
                  ap (λ t. behind w b t body p) e ∙ ap (λ t. behind w b (address w p b) t p)
                  (same_digits-true body (digits_between w b c p) alike) ∙ known-between w b c p k.3
                  in
                  rw (late, here, alike) (ap (λ t. rows_behind w c t (put_entries w c chain p v) ++ more) same ∙
                  ap (λ t. t ++ more) (rows-put w dims c 0 chain p v (omega (arith, l, k.3)) h k.6) ∙
                  ap (λ t. put w (rows_behind w c t chain) p v ++ more) (sym same) ∙ sym (put-inside w rs more p v after))
              | inr unlike ↦
                  let place : ℕ = split_place b body (digits_between w b c p) in
                  let s : Parted w b (c + 1) (split_place b body (digits_between w b c p)) body (behind w b a body p)
                  p = parted-child w dims b a c body p h k.1 k.2 k.3 k.4 e unlike in
                  let lower : c < split_place b body (digits_between w b c p) = omega (arith, s.above) in
                  let f : rows_behind w (split_place b body (digits_between w b c p))
                  (over w (split_place b body (digits_between w b c p)) p)
                  (with_point w (split_place b body (digits_between w b c p))
                  (child_below (split_place b body (digits_between w b c p)) body c chain) p v) ≡
                  put w (rows_behind w c (behind w b a body p) chain) p v =
                  rows-beside-child w dims place (body_address place body) c (body_below place body) chain p v
                  (omega (arith, l, s.lower)) h (body_address-below dims b place body k.2)
                  (is-body-lower dims b place body k.2) lower (zeros-lower place c body lower k.4) k.5 k.6 s.apart
                  ∙ ap (λ t. put w (rows_behind w c t chain) p v) s.again
                  in
                  rw (late, here, unlike) (rows-split w dims b place a (child_below place body c chain) rest rs p v s.lower e f after)
            ]
      ]
    ]

-- ---- the laws

some-entry : (w b : ℕ) (e : Entries) (p : List ℤ) (v : ℕ) → 1 ≤ count e → 1 ≤ count (put_entries w b e p v)
some-entry w b e p v h = let l : count e ≤ count (put_entries w b e p v) = count-put w b e p v in omega (arith, h, l)

-- an edited lawful tree is lawful
pub lawful-put_tree : (w dims : ℕ) (t : Option PlainNode) (p : List ℤ) (v : ℕ) → 1 ≤ w → is_point w dims p ≡ true →
    is_value v ≡ true → IsLawful w dims t → IsLawful w dims (put_tree w dims t p v)
lawful-put_tree w dims None p v l h y k =
    (refl, omega arith, lawful-put w dims (w - 1) 0 end p v (point-whole w dims p h) (ltb-true v (2 ^ 64) y) tt (omega arith))
lawful-put_tree w dims (Some n) p v l h y k =
    (k.0, some-entry w n.level n.chain p v k.1, lawful-put w dims n.level 0 n.chain p v (point-whole w dims p h) (ltb-true v (2 ^ 64) y) k.2 (omega arith))

-- its rows are those of the edited table
pub rows-put_tree : (w dims : ℕ) (t : Option PlainNode) (p : List ℤ) (v : ℕ) → 1 ≤ w → is_point w dims p ≡ true →
    IsLawful w dims t → rows w dims (put_tree w dims t p v) ≡ put w (rows w dims t) p v
rows-put_tree w dims None p v l h k =
    let m : w ≡ w - 1 + 1 = omega (arith, l) in
    let e : replicate dims 0 ≡ over w (w - 1) p = none-known w dims p l h ∙ ap (λ t. cleared t (offsets w p)) m in
    ap (λ t. rows_behind w (w - 1) t (with_point w (w - 1) end p v)) e ∙ ap {B = List Row} (λ t. t ∷ []) (new-row w dims (w - 1) p v (point-whole w dims p h))
rows-put_tree w dims (Some n) p v l h k =
    let m : w ≡ n.level + 1 = omega (arith, l, k.0) in
    let e : replicate dims 0 ≡ over w n.level p = none-known w dims p l h ∙ ap (λ t. cleared t (offsets w p)) m in
    ap (λ t. rows_behind w n.level t (put_entries w n.level n.chain p v)) e ∙ rows-put w dims n.level 0 n.chain p v
    (omega (arith, m)) (point-whole w dims p h) k.2 ∙ sym (ap (λ t. put w (rows_behind w n.level t n.chain) p v) e)
