-- A pass over a table that keeps the nearest rows so far.
use Rattle.std.proofs.Common.{◌≡◌, ℕ, zero, suc, ◌+◌, ◌-◌, ◌<◌, ◌≤◌, refl, sym, ◌∙◌, ap, subst, arith, true, List, [], ◌∷◌}
use Rattle.std.proofs.Common.{◌++◌, length, take, drop, get_or, take-append-drop, pos, negsuc, le-leb, leb-true}
use Rattle.std.specs.Prelude.{ℤ, nat_le, slice_get, IfSome, ◌==◌}
use Rattle.std.specs.List.{AllByRecursion as Each, list_all, insert}
use Rattle.std.proofs.Math.Nat.{min-le_left}
use Rattle.std.proofs.Math.Pow.{pow_mono}
use Rattle.std.proofs.lemmas.Bool.{and_parts}
use Rattle.std.proofs.lemmas.List.{length-map, length-take, take-map, take_all, take_at, take_more}
use Rattle.ph_specs.specs.Coordinate.{half, fits, is_point, IsPoint}
use Rattle.ph_specs.specs.Table.{Row, IsTable}
use Rattle.ph_specs.specs.Distance.{distance, insert_by_distance, near, ranked}
use Rattle.ph_specs.proofs.lemmas.Tests.{and-made}
use Rattle.ph_specs.proofs.laws.Ranked.{insert-behind, insert-front, near-append}
use Rattle.ph_table.specs.Hits.{TableHit, hits_of, IsPlaceFor}
use Rattle.ph_table.proofs.Search.{all-at}

-- ---- the place of a row

rows-nearer : (q : List ℤ) (rows : List Row) (place d : ℕ) →
    Each (λ h. h.distance ≤ d) (take place (hits_of q rows)) → Each (λ s. distance s.point q ≤ d) (take place rows)
rows-nearer q rows zero d h = tt
rows-nearer q [] (suc place) d h = tt
rows-nearer q (s ∷ rows) (suc place) d h = (h.0, rows-nearer q rows place d h.1)

front-inserted : (q : List ℤ) (rows : List Row) (r : Row) (place : ℕ) →
    IfSome (slice_get (hits_of q rows) place) (λ h. distance r.point q < h.distance) →
    insert_by_distance q (drop place rows) r ≡ r ∷ drop place rows
front-inserted q [] r zero h = refl
front-inserted q [] r (suc place) h = refl
front-inserted q (s ∷ rows) r zero h = insert-front q s rows r h
front-inserted q (s ∷ rows) r (suc place) h = front-inserted q rows r place h

-- a row goes in behind those that are no farther
inserted-is : (q : List ℤ) (rows : List Row) (r : Row) (place : ℕ) →
    IsPlaceFor (hits_of q rows) (distance r.point q) place → insert_by_distance q rows r ≡ take place rows ++ r ∷ drop place rows
inserted-is q rows r place h =
    ap (λ t. insert_by_distance q t r) (sym (take-append-drop place rows))
    ∙ insert-behind q (take place rows) (drop place rows) r (rows-nearer q rows place (distance r.point q) h.nearer)
    ∙ ap {B = List Row} (λ t. take place rows ++ t) (front-inserted q rows r place h.farther)

hits-inserted : (q : List ℤ) (rows : List Row) (r : Row) (place : ℕ) →
    insert (hits_of q rows) place (record { row = r; distance = distance r.point q }) ≡
    hits_of q (take place rows ++ r ∷ drop place rows)
hits-inserted q rows r zero = refl
hits-inserted q [] r (suc place) = refl
hits-inserted q (s ∷ rows) r (suc place) = ap {B = List TableHit} (λ t. record { row = s; distance = distance s.point q } ∷ t) (hits-inserted q rows r place)

-- ---- one row more

next-row : (q : List ℤ) (n i : ℕ) (rows : List Row) (r : Row) → i < length rows → r ≡ get_or rows i r →
    near q n (take (i + 1) rows) ≡ take n (insert_by_distance q (near q n (take i rows)) r)
next-row q n i rows r l e =
    ap (near q n) (take_more rows i r l ∙ ap {B = List Row} (λ t. take i rows ++ t ∷ []) (sym e)) ∙ near-append q n (take i rows) r

module _ (q : List ℤ) (n i place : ℕ) (rows : List Row) (r : Row) (hits : List TableHit) (l : i < length rows)
    (e : r ≡ get_or rows i r) (h : hits ≡ hits_of q (near q n (take i rows)))
    (b : IsPlaceFor hits (distance r.point q) place) where
  abbrev old : List Row
  old = near q n (take i rows)

  next-is : near q n (take (i + 1) rows) ≡ take n (take place old ++ r ∷ drop place old)
  next-is =
      next-row q n i rows r l e ∙ ap (take n) (inserted-is q old r place (subst (λ hs. IsPlaceFor hs (distance r.point q) place) h b))

  -- it is put among the hits
  pub taken_in : take n (insert hits place (record { row = r; distance = distance r.point q })) ≡ hits_of q (near q n (take (i + 1) rows))
  taken_in =
      ap (λ hs. take n (insert hs place (record { row = r; distance = distance r.point q }))) h
      ∙ ap (take n) (hits-inserted q old r place)
      ∙ take-map (λ s. record { row = s; distance = distance s.point q }) n (take place old ++ r ∷ drop place old)
      ∙ ap (hits_of q) (sym next-is)

  -- or is too far
  pub left_out : n ≤ place → hits ≡ hits_of q (near q n (take (i + 1) rows))
  left_out m =
      let few : length old ≤ n = omega (arith, length-take n (ranked q (take i rows)), min-le_left n (length (ranked q (take i rows)))) in
      let many : place ≤ length old = omega (arith, b.within, ap length h, length-map {B = TableHit} old (λ s. record { row = s; distance = distance s.point q })) in
      let front : take place old ≡ old = take_all place old (omega (arith, few, m)) in
      h ∙ ap (hits_of q) (sym (next-is ∙ ap (λ t. take n (t ++ r ∷ drop place old)) front ∙ take_at old (r ∷ drop place old) n (omega (arith, few, many, m))))

-- ---- points of a narrower width

wide-fits : (w : ℕ) (c : ℤ) → w ≤ 62 → fits w c ≡ true → fits 62 c ≡ true
wide-fits w (pos n) l h =
    let a : n ≤ half w - 1 = leb-true n (half w - 1) (and_parts true (nat_le n (half w - 1)) h).1 in
    le-leb n (half 62 - 1) (omega (arith, a, pow_mono {i = w - 1} {j = 61} (omega (arith, l))))
wide-fits w (negsuc n) l h =
    let a : n ≤ half w - 1 = leb-true n (half w - 1) (and_parts (nat_le n (half w - 1)) true h).0 in
    and-made (nat_le n (half 62 - 1)) true (le-leb n (half 62 - 1) (omega (arith, a, pow_mono {i = w - 1} {j = 61} (omega (arith, l))))) refl

wide-all : (w : ℕ) (p : List ℤ) → w ≤ 62 → list_all (fits w) p ≡ true → list_all (fits 62) p ≡ true
wide-all w [] l h = refl
wide-all w (c ∷ p) l h =
    let a = and_parts (fits w c) (list_all (fits w) p) h in
    and-made (fits 62 c) (list_all (fits 62) p) (wide-fits w c l a.0) (wide-all w p l a.1)

-- a point of a width is one of the greatest width
pub wide-point : (w d : ℕ) (p : List ℤ) → w ≤ 62 → IsPoint w d p → IsPoint 62 d p
wide-point w d p l h =
    let a = and_parts (length p == d) (list_all (fits w) p) h in
    and-made (length p == d) (list_all (fits 62) p) a.0 (wide-all w p l a.1)

-- and so is that of a row
pub row-point : (w d i : ℕ) (rows : List Row) (r : Row) → w ≤ 62 → IsTable w d rows → i < length rows → r ≡ get_or rows i r → IsPoint 62 d r.point
row-point w d i rows r l t m e =
    wide-point w d r.point l
    (subst (λ s. is_point w d s.point ≡ true) (sym e) (all-at (λ s. is_point w d s.point) rows i r (and_parts _ _ (and_parts _ _ t).1).0 m))
