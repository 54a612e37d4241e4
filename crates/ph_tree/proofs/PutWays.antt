-- The nodes that a look-up opens once a point was put: at most one more.
use Rattle.std.proofs.Common.{◌≡◌, ℕ, ◌+◌, ◌^◌, ◌<◌, ◌≤◌, List, Bool, true, false, refl, arith, ap, inl, inr, eqb-true, ltb-true}
use Rattle.std.specs.Prelude.{ℤ, Option, Some, None, if◌then◌else◌, ◌==◌, nat_lt}
use Rattle.ph_specs.specs.Coordinate.{is_point}
use Rattle.ph_specs.specs.ZOrder.{address}
use Rattle.ph_specs.specs.Node.{Entries, end, point, child, PlainNode}
use Rattle.ph_specs.specs.Shape.{digits_below, digits_between}
use Rattle.ph_model.specs.Lawful.{IsLawful, IsLawfulFrom}
use Rattle.ph_specs.specs.DelTree.{same_digits}
use Rattle.ph_model.specs.PutTree.{split_place, body_address, body_below, inserted_point, with_point, point_below}
use Rattle.ph_model.specs.PutTree.{child_below, put_entries, find_entries, find_tree, put_tree}
use Rattle.ph_specs.proofs.laws.Put.{either}
use Rattle.ph_model.proofs.laws.PutTree.{lawful-put}
use Rattle.ph_model.proofs.lemmas.PointDigits.{IsWhole, point-whole}
use Rattle.ph_tree.specs.Opened.{opened_below, opened_in}
use Rattle.ph_tree.proofs.Rooms.{found-past, found-behind, found-below}
use Rattle.ph_tree.proofs.Walks.{opened-later}

-- ---- an entry

-- what is opened for a child
abbrev for_child : ℕ → ℕ → ℕ → List ℕ → ℕ → ℕ → List ℤ → ℕ
for_child w b a body c below p = if a == address w p b then 1 + (if same_digits body (digits_between w b c p) then below else 0) else 0

-- a point more opens nothing
inserted-opened : (w b a v : ℕ) (body : List ℕ) (e : Entries) (p : List ℤ) → opened_below w b (inserted_point a body v e) p ≡ opened_below w b e p
inserted-opened w b a v body end p = refl
inserted-opened w b a v body (point k other u rest) p =
    elim (either (nat_lt a k)) [ inl s ↦ rw s refl | inr s ↦ rw s (inserted-opened w b a v body rest p) ]
inserted-opened w b a v body (child k other c chain rest) p =
    elim (either (nat_lt a k)) [
      | inl s ↦ rw s refl
      | inr s ↦ rw s (ap (λ n. for_child w b k other c (opened_below w c chain p) p + n) (inserted-opened w b a v body rest p))
    ]

module _ (w b a : ℕ) (from : List ℤ) where
  -- a child below which one node more is opened
  child-more : (c : ℕ) (body : List ℕ) (new old later : ℕ) → ((a == address w from b) ≡ true → new ≤ 1 + old) →
      for_child w b a body c new from + later ≤ 1 + (for_child w b a body c old from + later)
  child-more c body new old later h = by_tests (a == address w from b) (same_digits body (digits_between w b c from)) h
    where
      by_tests : (s t : Bool) → (s ≡ true → new ≤ 1 + old) →
          (if s then 1 + (if t then new else 0) else 0) + later ≤ 1 + ((if s then 1 + (if t then old else 0) else 0) + later)
      by_tests true true f = omega (arith, f refl)
      by_tests true false f = omega arith
      by_tests false t f = omega arith

  -- a child in place of a point, below which nothing is opened
  point-split : (place : ℕ) (between : List ℕ) (new later : ℕ) → new ≡ 0 → for_child w b a between place new from + later ≤ 1 + later
  point-split place between new later h = by_tests (a == address w from b) (same_digits between (digits_between w b place from))
    where
      by_tests : (s t : Bool) → (if s then 1 + (if t then new else 0) else 0) + later ≤ 1 + later
      by_tests true true = omega (arith, h)
      by_tests true false = omega arith
      by_tests false t = omega arith

  -- a child in place of another that leads to the point, which stands below it
  child-split : (place c : ℕ) (between body : List ℕ) (new old later : ℕ) → new ≤ 1 + old →
      ((a == address w from b) ≡ true → same_digits body (digits_between w b c from) ≡ true) →
      for_child w b a between place new from + later ≤ 1 + (for_child w b a body c old from + later)
  child-split place c between body new old later h same =
      by_tests (a == address w from b) (same_digits between (digits_between w b place from)) (same_digits body (digits_between w b c from)) same
    where
      by_tests : (s t r : Bool) → (s ≡ true → r ≡ true) →
          (if s then 1 + (if t then new else 0) else 0) + later ≤ 1 + ((if s then 1 + (if r then old else 0) else 0) + later)
      by_tests true true true f = omega (arith, h)
      by_tests true true false f = let no = f refl in cc
      by_tests true false r f = omega arith
      by_tests false t r f = omega arith

-- below a child that stands alone in a new node
alone-opened : (w place a c : ℕ) (body : List ℕ) (chain : Entries) (p : List ℤ) → opened_below w place (child a body c chain end) p ≤ 1 + opened_below w c chain p
alone-opened w place a c body chain p = by_tests (a == address w p place) (same_digits body (digits_between w place c p))
  where
    by_tests : (s t : Bool) → (if s then 1 + (if t then opened_below w c chain p else 0) else 0) + 0 ≤ 1 + opened_below w c chain p
    by_tests true true = omega arith
    by_tests true false = omega arith
    by_tests false t = omega arith

-- ---- a put

module _ (w dims : ℕ) (from to : List ℤ) (v : ℕ) (whole : IsWhole w dims to) (small : v < 2 ^ 64) where
  -- behind an entry that has the address of the point nothing is opened
  put-behind : (b a : ℕ) (rest : Entries) → IsLawfulFrom dims b (a + 1) rest → a < address w to b →
      ((a == address w from b) ≡ false → opened_below w b (put_entries w b rest to v) from ≤ 1 + opened_below w b rest from) →
      opened_below w b (put_entries w b rest to v) from ≤ 1 + opened_below w b rest from
  put-behind b a rest ok later other =
      elim (either (a == address w from b)) [
        | inl s ↦ omega (
          arith,
          opened-later w dims b (a + 1) (put_entries w b rest to v) from
              (lawful-put w dims b (a + 1) rest to v whole small ok (omega (arith, later))) (omega (arith, eqb-true a (address w from b) s)),
        )
        | inr s ↦ other s
      ]

  put-opened : (b least : ℕ) (e : Entries) (u : ℕ) → IsLawfulFrom dims b least e → find_entries w b e from ≡ Some u →
      opened_below w b (put_entries w b e to v) from ≤ 1 + opened_below w b e from
  put-opened b least end u ok found = cc
  put-opened b least (point a body x rest) u ok found =
      elim (either (nat_lt (address w to b) a)) [
        | inl first ↦ rw first (omega arith)
        | inr late ↦ elim (either (nat_lt a (address w to b))) [
          | inl later ↦ rw (late, later) (put-behind b a rest ok.3 (ltb-true a (address w to b) later)
              (λ s. put-opened b (a + 1) rest u ok.3 (found-past w b a u body rest from x found s)))
          | inr here ↦ elim (either (same_digits body (digits_below w b to))) [
            | inl alike ↦ rw (late, here, alike) (omega arith)
            | inr unlike ↦
                let place : ℕ = split_place b body (digits_below w b to) in
                let new : Entries = with_point w place (point_below place body x) to v in
                rw (late, here, unlike) (point-split w b a from place (digits_between w b place to) (opened_below w place new from)
                (opened_below w b rest from)
                (inserted-opened w place (address w to place) v (digits_below w place to) (point_below place body x) from))
          ]
        ]
      ]
  put-opened b least (child a body c chain rest) u ok found =
      let below = found-below w b a u body rest from c chain found in
      elim (either (nat_lt (address w to b) a)) [
        | inl first ↦ rw first (omega arith)
        | inr late ↦ elim (either (nat_lt a (address w to b))) [
          | inl later ↦
              let more : opened_below w b (put_entries w b rest to v) from ≤ 1 + opened_below w b rest from =
              put-behind b a rest ok.7 (ltb-true a (address w to b) later)
              (λ s. put-opened b (a + 1) rest u ok.7 (found-behind w b a u body rest from c chain found s)) in
              rw (late, later) (omega (arith, more))
          | inr here ↦ elim (either (same_digits body (digits_between w b c to))) [
            | inl alike ↦
                rw (late, here, alike) (child-more w b a from c body (opened_below w c (put_entries w c chain to v) from)
                (opened_below w c chain from) (opened_below w b rest from) (λ s. put-opened c 0 chain u ok.6 (below s).1))
            | inr unlike ↦
                let place : ℕ = split_place b body (digits_between w b c to) in
                let new : Entries = with_point w place (child_below place body c chain) to v in
                let same : opened_below w place new from ≡ opened_below w place (child_below place body c chain) from =
                inserted-opened w place (address w to place) v (digits_below w place to) (child_below place body c chain) from in
                rw (late, here, unlike) (child-split w b a from place c (digits_between w b place to) body (opened_below w place new from)
                (opened_below w c chain from) (opened_below w b rest from)
                (omega (arith, same, alone-opened w place (body_address place body) c (body_below place body) chain from))
                (λ s. (below s).0))
          ]
        ]
      ]

-- on the way to a row that is there a put opens at most one node more
pub opened-put : (w dims : ℕ) (t : Option PlainNode) (from to : List ℤ) (u v : ℕ) → is_point w dims to ≡ true → v < 2 ^ 64 →
    IsLawful w dims t → find_tree w dims t from ≡ Some u → opened_in w (put_tree w dims t to v) from ≤ 1 + opened_in w t from
opened-put w dims None from to u v at small ok found = cc
opened-put w dims (Some n) from to u v at small ok found =
    omega (arith, put-opened w dims from to v (point-whole w dims to at) small n.level 0 n.chain u ok.2 found)

-- in a tree that has a row each look-up opens a node
pub opened-some : (w dims v k : ℕ) (t : Option PlainNode) (p q : List ℤ) → find_tree w dims t p ≡ Some v → 1 ≤ opened_in k t q
opened-some w dims v k None p q found = cc
opened-some w dims v k (Some n) p q found = omega arith
