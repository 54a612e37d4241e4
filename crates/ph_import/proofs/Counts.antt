-- The set of the new points among those of some rows.
use Rattle.std.proofs.Common.{◌≡◌, ℕ, ◌+◌, ◌<◌, ◌≤◌, Bool, true, false, ◌&&◌, cond, List, [], ◌∷◌, length, take}
use Rattle.std.proofs.Common.{get_or, refl, sym, ◌∙◌, ap, arith, Ordering, Less, Equal, Greater}
use Rattle.std.specs.Prelude.{ℤ, ◌||◌, not}
use Rattle.std.specs.List.{AllByRecursion as Each}
use Rattle.std.specs.Ordering.{is_eq, int_cmp, ordering_then}
use Rattle.std.specs.Cmp.Lexicographic.{slice_cmp}
use Rattle.std.specs.Borrow.{Bor}
use Rattle.std.specs.BTreeSet.{BTreeSet, btree_set_len, contains, Updates}
use Rattle.ph_specs.specs.Coordinate.{same_point, IsPoint}
use Rattle.ph_specs.specs.Table.{Row, has, put}
use Rattle.ph_specs.specs.Sets.{put_all}
use Rattle.ph_specs.proofs.laws.Put.{same_from_test}
use Rattle.ph_import.proofs.Puts.{IsRisen, risen-part, length-put, has-put, put-next}

-- a set of points, in the order of their coordinates
abbrev pub PointSet : Type 0
PointSet = BTreeSet (Bor (List ℤ))

abbrev pub by_coords : Bor (List ℤ) → Bor (List ℤ) → Ordering
by_coords p q = slice_cmp int_cmp p.now q.now

same-by-order : (p q : List ℤ) → is_eq (slice_cmp int_cmp p q) ≡ same_point p q
same-by-order [] [] = refl
same-by-order [] (b ∷ q) = refl
same-by-order (a ∷ p) [] = refl
same-by-order (a ∷ p) (b ∷ q) = first (int_cmp a b) (slice_cmp int_cmp p q) ∙ ap (λ t. is_eq (int_cmp a b) && t) (same-by-order p q)
  where
    first : (o more : Ordering) → is_eq (ordering_then o more) ≡ (is_eq o && is_eq more)
    first Less more = refl
    first Equal more = refl
    first Greater more = refl

-- the set has the points of the rows that the table has not
pub record IsCounted (width : ℕ) (table rows : List Row) (points : PointSet) : Type 0 where
  pub members : (q : Bor (List ℤ)) → has (put_all width table rows) q.now ≡ (has table q.now || contains by_coords points q)
  pub count : length (put_all width table rows) ≡ length table + btree_set_len points

-- a row at a point of the table
pub counted-old : (w d : ℕ) (table rows : List Row) (i : ℕ) (e : Row) (points : PointSet) → 1 ≤ w →
    Each (λ r. IsPoint w d r.point) rows → IsRisen w d table → i < length rows →
    has table (get_or rows i e).point ≡ true → IsCounted w table (take i rows) points → (p : Bor (List ℤ)) →
    p.now ≡ (get_or rows i e).point → IsCounted w table (take (i + 1) rows) points
counted-old w d table rows i e points positive h k l old c p at =
    let r : Row = get_or rows i e in
    let so_far : List Row = put_all w table (take i rows) in
    let there : has so_far r.point ≡ true = ap (has so_far) (sym at) ∙ c.members p ∙
    ap (λ q. has table q || contains by_coords points p) at ∙ ap (λ b. b || contains by_coords points p) old in
    let next : put_all w table (take (i + 1) rows) ≡ put w so_far r.point r.value = put-next w table rows i e l in
    record {
      members = λ q. ap (λ t. has t q.now) next ∙ has-put w so_far r.point q.now r.value ∙
          stays (same_point r.point q.now) (has so_far q.now)
          (λ s. ap (has so_far) (sym (same_from_test r.point q.now s)) ∙ there) ∙ c.members q;
      count = ap (λ t. length t) next ∙ length-put w so_far r.point r.value
          (risen-part w d table rows i positive h k).rising ∙ ap (λ b. length so_far + cond b 0 1) there ∙
          nothing (length so_far) ∙ c.count;
    }
  where
    stays : (s b : Bool) → (s ≡ true → b ≡ true) → cond s true b ≡ b
    stays true b f = sym (f refl)
    stays false b f = refl

    nothing : (n : ℕ) → n + 0 ≡ n
    nothing n = omega arith

-- a row at another point, which the set may have already
pub counted-new : (w d : ℕ) (table rows : List Row) (i : ℕ) (e : Row) (points after : PointSet) (added : Bool) →
    1 ≤ w → Each (λ r. IsPoint w d r.point) rows → IsRisen w d table → i < length rows →
    has table (get_or rows i e).point ≡ false → IsCounted w table (take i rows) points → (p : Bor (List ℤ)) →
    p.now ≡ (get_or rows i e).point → Updates by_coords points after p true →
    added ≡ not (contains by_coords points p) → btree_set_len after ≡ btree_set_len points + cond added 1 0 →
    IsCounted w table (take (i + 1) rows) after
counted-new w d table rows i e points after added positive h k l new c p at updates is more =
    let r : Row = get_or rows i e in
    let so_far : List Row = put_all w table (take i rows) in
    let there : has so_far r.point ≡ contains by_coords points p = ap (has so_far) (sym at) ∙ c.members p ∙
    ap (λ q. has table q || contains by_coords points p) at ∙ ap (λ b. b || contains by_coords points p) new in
    let next : put_all w table (take (i + 1) rows) ≡ put w so_far r.point r.value = put-next w table rows i e l in
    record {
      members = λ q. ap (λ t. has t q.now) next ∙ has-put w so_far r.point q.now r.value ∙ ap (λ b. cond (same_point r.point q.now) true b) (c.members q)
          ∙ moved (same_point r.point q.now) (has table q.now) (contains by_coords points q)
          ∙ ap (λ s. has table q.now || cond s true (contains by_coords points q)) (ap (λ t. same_point t q.now) (sym at) ∙ sym (same-by-order p.now q.now))
          ∙ ap (λ b. has table q.now || b) (sym (updates.0 q));
      count = ap (λ t. length t) next ∙ length-put w so_far r.point r.value (risen-part w d table rows i positive h k).rising ∙ ap (λ b. length so_far + cond b 0 1) there
          ∙ one (length so_far) (length table) (btree_set_len points) (btree_set_len after)
          (contains by_coords points p) c.count (more ∙ ap (λ b. btree_set_len points + cond b 1 0) is);
    }
  where
    moved : (s a b : Bool) → cond s true (a || b) ≡ (a || cond s true b)
    moved true true b = refl
    moved true false b = refl
    moved false a b = refl

    one : (n t s s' : ℕ) (b : Bool) → n ≡ t + s → s' ≡ s + cond (not b) 1 0 → n + cond b 0 1 ≡ t + s'
    one n t s s' true h k = omega (arith, h, k)
    one n t s s' false h k = omega (arith, h, k)
