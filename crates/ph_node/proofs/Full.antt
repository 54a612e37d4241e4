-- Records with an entry at each address, and those whose entries are of one kind.
use Rattle.std.proofs.Common.{◌≡◌, ℕ, zero, suc, ◌+◌, ◌^◌, ◌<◌, ◌≤◌, List, [], ◌∷◌, map, take, length, true, false, not, cond}
use Rattle.std.proofs.Common.{refl, arith, ap, sym, ◌∙◌, subst, zero-add, eq-eqb, ne_eqb, lt-ltb, le-ltb, le-leb}
use Rattle.std.specs.Prelude.{◌==◌, nat_le, Some, None, position, slice_get}
use Rattle.std.specs.List.{position_or_len, AllByRecursion as Each}
use Rattle.std.proofs.lemmas.Bool.{lt-leb}
use Rattle.ph_model.specs.Layout.{read_address, is_child}
use Rattle.ph_model.specs.NodeSize.{children_in, points_in}
use Rattle.ph_specs.specs.Record.{Read, read_point, read_child, entries_in, first_in}
use Rattle.ph_model.proofs.laws.TableFields.{both-counts}
use Rattle.ph_model.proofs.lemmas.LawfulRead.{AreReads}
use Rattle.ph_node.specs.Recorded.{IsLaidOut}
use Rattle.ph_node.proofs.Assembled.{kids-there, reads-there}
use Rattle.ph_node.proofs.Listings.{many}

-- ---- an entry at each address

-- the first entry, and the others
front : (d level least : ℕ) (r : Read) (rs : List Read) → AreReads d level least (r ∷ rs) →
    (least ≤ read_address r) × (read_address r < 2 ^ d) × AreReads d level (read_address r + 1) rs
front d level least (read_point a b) rs h = (h.0, h.1, h.3)
front d level least (read_child a b) rs h = (h.0, h.1, h.3)

room : (d level least : ℕ) (rs : List Read) → least ≤ 2 ^ d → AreReads d level least rs → least + length rs ≤ 2 ^ d
room d level least [] l h = omega (arith, l)
room d level least (r ∷ rs) l h =
    let f = front d level least r rs h in omega (arith, f.0, room d level (read_address r + 1) rs (omega (arith, f.1)) f.2)

first-is : (d level least : ℕ) (r : Read) (rs : List Read) → AreReads d level least (r ∷ rs) → least + (1 + length rs) ≡ 2 ^ d → read_address r ≡ least
first-is d level least r rs h e =
    let f = front d level least r rs h in
    omega (arith, f.0, e, room d level (read_address r + 1) rs (omega (arith, f.1)) f.2)

place-is : (d level least k : ℕ) (rs : List Read) → AreReads d level least rs → least + length rs ≡ 2 ^ d →
    k < length rs → position_or_len (λ r. read_address r == least + k) rs ≡ k
place-is d level least k [] h e l = absurd (omega (arith, l))
place-is d level least zero (r ∷ rs) h e l =
    let a : read_address r ≡ least + zero = first-is d level least r rs h (omega (arith, e)) ∙ omega arith in
    ap (λ t. cond (not t) (1 + position_or_len (λ r. read_address r == least + zero) rs) 0) (eq-eqb (read_address r) (least + zero) a)
place-is d level least (suc k) (r ∷ rs) h e l =
    let a : read_address r ≡ least = first-is d level least r rs h (omega (arith, e)) in
    let n : read_address r + 1 + k ≡ least + suc k = omega (arith, a) in
    let ih : position_or_len (λ r. read_address r == least + suc k) rs ≡ k =
    subst (λ m. position_or_len (λ r. read_address r == m) rs ≡ k) n
    (place-is d level (read_address r + 1) k rs (front d level least r rs h).2 (omega (arith, a, e)) (omega (arith, l))) in
    ap (λ t. cond (not t) (1 + position_or_len (λ r. read_address r == least + suc k) rs) 0)
    (ne_eqb (read_address r) (least + suc k) (λ q. omega (arith, q, a))) ∙ omega (arith, ih)

-- the first entry that is not before an address, and none behind the last one
next-is : (d level least k : ℕ) (rs : List Read) → AreReads d level least rs → least + length rs ≡ 2 ^ d →
    k ≤ length rs → position_or_len (λ r. nat_le (least + k) (read_address r)) rs ≡ k
next-is d level least zero [] h e l = refl
next-is d level least (suc k) [] h e l = absurd (omega (arith, l))
next-is d level least zero (r ∷ rs) h e l =
    ap (λ t. cond (not t) (1 + position_or_len (λ r. nat_le (least + zero) (read_address r)) rs) 0)
    (le-leb (least + zero) (read_address r) (omega (arith, (front d level least r rs h).0)))
next-is d level least (suc k) (r ∷ rs) h e l =
    let a : read_address r ≡ least = first-is d level least r rs h (omega (arith, e)) in
    let n : read_address r + 1 + k ≡ least + suc k = omega (arith, a) in
    let ih : position_or_len (λ r. nat_le (least + suc k) (read_address r)) rs ≡ k =
    subst (λ m. position_or_len (λ r. nat_le m (read_address r)) rs ≡ k) n
    (next-is d level (read_address r + 1) k rs (front d level least r rs h).2 (omega (arith, a, e)) (omega (arith, l))) in
    ap (λ t. cond (not t) (1 + position_or_len (λ r. nat_le (least + suc k) (read_address r)) rs) 0)
    (lt-leb (least + suc k) (read_address r) (omega (arith, a))) ∙ omega (arith, ih)

past : (d level least a : ℕ) (rs : List Read) → AreReads d level least rs → 2 ^ d ≤ a → position_or_len (λ r. nat_le a (read_address r)) rs ≡ length rs
past d level least a [] h l = refl
past d level least a (r ∷ rs) h l =
    let f = front d level least r rs h in
    ap (λ t. cond (not t) (1 + position_or_len (λ r. nat_le a (read_address r)) rs) 0)
    (lt-leb a (read_address r) (omega (arith, f.1, l))) ∙ omega (arith, past d level (read_address r + 1) a rs f.2 l)

address-at : (d level least i : ℕ) (rs : List Read) → AreReads d level least rs → least + length rs ≡ 2 ^ d →
    i < length rs → slice_get (map read_address rs) i ≡ Some (least + i)
address-at d level least i [] h e l = absurd (omega (arith, l))
address-at d level least zero (r ∷ rs) h e l = ap Some (first-is d level least r rs h (omega (arith, e)) ∙ omega arith)
address-at d level least (suc i) (r ∷ rs) h e l =
    let a : read_address r ≡ least = first-is d level least r rs h (omega (arith, e)) in
    address-at d level (read_address r + 1) i rs (front d level least r rs h).2 (omega (arith, a, e)) (omega (arith, l)) ∙ ap Some (omega (arith, a))

-- ---- entries of one kind

most-kids : (rs : List Read) → children_in rs ≤ length rs
most-kids [] = omega arith
most-kids (read_point a b ∷ rs) = omega (arith, most-kids rs)
most-kids (read_child a b ∷ rs) = omega (arith, most-kids rs)

point-at : (rs : List Read) (i : ℕ) → children_in rs ≡ 0 → i < length rs → slice_get (map is_child rs) i ≡ Some false
point-at [] i h l = absurd (omega (arith, l))
point-at (read_point a b ∷ rs) zero h l = refl
point-at (read_point a b ∷ rs) (suc i) h l = point-at rs i h (omega (arith, l))
point-at (read_child a b ∷ rs) i h l = absurd (omega (arith, h))

child-at : (rs : List Read) (i : ℕ) → children_in rs ≡ length rs → i < length rs → slice_get (map is_child rs) i ≡ Some true
child-at [] i h l = absurd (omega (arith, l))
child-at (read_point a b ∷ rs) i h l = absurd (omega (arith, h, most-kids rs))
child-at (read_child a b ∷ rs) zero h l = refl
child-at (read_child a b ∷ rs) (suc i) h l = child-at rs i (omega (arith, h)) (omega (arith, l))

none-before : (rs : List Read) (i : ℕ) → children_in rs ≡ 0 → children_in (take i rs) ≡ 0
none-before rs zero h = refl
none-before [] (suc i) h = refl
none-before (read_point a b ∷ rs) (suc i) h = none-before rs i h
none-before (read_child a b ∷ rs) (suc i) h = absurd (omega (arith, h))

all-before : (rs : List Read) (i : ℕ) → children_in rs ≡ length rs → i ≤ length rs → children_in (take i rs) ≡ i
all-before rs zero h l = refl
all-before [] (suc i) h l = absurd (omega (arith, l))
all-before (read_point a b ∷ rs) (suc i) h l = absurd (omega (arith, h, most-kids rs))
all-before (read_child a b ∷ rs) (suc i) h l = ap suc (all-before rs i (omega (arith, h)) (omega (arith, l)))

-- ---- records

module _ (d : ℕ) (ws : List ℕ) (laid : IsLaidOut d ws) (small : Each (λ x. x < 2 ^ 64) ws) where
  abbrev rs : List Read
  rs = entries_in d ws

  all : length (entries_in d ws) ≡ (first_in ws).entries
  all = many d ws laid.tables

  rise : AreReads d (first_in ws).level 0 (entries_in d ws)
  rise = reads-there d ws laid small

  module _ (full : (first_in ws).entries ≡ 2 ^ d) where
    whole : 0 + length (entries_in d ws) ≡ 2 ^ d
    whole = omega (arith, all, full)

    pub full-place : (a : ℕ) → a < 2 ^ d → position (λ r. read_address r == a) (entries_in d ws) ≡ Some a
    full-place a l =
        let m : a < length (entries_in d ws) = omega (arith, l, whole) in
        let p : position_or_len (λ r. read_address r == a) (entries_in d ws) ≡ a =
        subst (λ t. position_or_len (λ r. read_address r == t) rs ≡ a) (zero-add a)
        (place-is d (first_in ws).level 0 a rs rise whole m) in
        rw (p, lt-ltb a (length (entries_in d ws)) m) refl

    pub full-next : (a : ℕ) → a < 2 ^ d → position (λ r. nat_le a (read_address r)) (entries_in d ws) ≡ Some a
    full-next a l =
        let m : a < length (entries_in d ws) = omega (arith, l, whole) in
        let p : position_or_len (λ r. nat_le a (read_address r)) (entries_in d ws) ≡ a =
        subst (λ t. position_or_len (λ r. nat_le t (read_address r)) rs ≡ a) (zero-add a)
        (next-is d (first_in ws).level 0 a rs rise whole (omega (arith, m))) in
        rw (p, lt-ltb a (length (entries_in d ws)) m) refl

    pub full-end : (a : ℕ) → 2 ^ d ≤ a → position (λ r. nat_le a (read_address r)) (entries_in d ws) ≡ None
    full-end a l =
        let p : position_or_len (λ r. nat_le a (read_address r)) (entries_in d ws) ≡ length (entries_in d ws) = past d (first_in ws).level 0 a rs rise l in
        rw (p, le-ltb (length (entries_in d ws)) (length (entries_in d ws)) (omega arith)) refl

    pub full-address : (i : ℕ) → i < (first_in ws).entries → slice_get (map read_address (entries_in d ws)) i ≡ Some i
    full-address i l = address-at d (first_in ws).level 0 i rs rise whole (omega (arith, l, all)) ∙ ap Some (zero-add i)

  pub only-points : (i : ℕ) → (first_in ws).children ≡ 0 → i < (first_in ws).entries → slice_get (map is_child (entries_in d ws)) i ≡ Some false
  only-points i h l = point-at rs i (kids-there d ws laid small ∙ h) (omega (arith, l, all))

  pub only-children : (i : ℕ) → (first_in ws).children ≡ (first_in ws).entries → i < (first_in ws).entries → slice_get (map is_child (entries_in d ws)) i ≡ Some true
  only-children i h l = child-at rs i (kids-there d ws laid small ∙ h ∙ sym all) (omega (arith, l, all))

  pub before-points : (i : ℕ) → (first_in ws).children ≡ 0 → children_in (take i (entries_in d ws)) ≡ 0
  before-points i h = none-before rs i (kids-there d ws laid small ∙ h)

  pub before-children : (i : ℕ) → (first_in ws).children ≡ (first_in ws).entries → i < (first_in ws).entries → children_in (take i (entries_in d ws)) ≡ i
  before-children i h l = all-before rs i (kids-there d ws laid small ∙ h ∙ sym all) (omega (arith, l, all))

  pub both-before : (i : ℕ) → i < (first_in ws).entries → children_in (take i (entries_in d ws)) + points_in (take i (entries_in d ws)) ≡ i
  both-before i l = both-counts rs i (omega (arith, l, all))
