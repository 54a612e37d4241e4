-- The room that a removal wants after a put at another point.
use Rattle.std.proofs.Common.{◌≡◌, ℕ, ◌+◌, ◌≤◌, List, Bool, true, false, refl, arith, inl, inr, ne_eqb, eqb-true, ltb-true, ◌<◌, ◌-◌}
use Rattle.std.specs.Prelude.{ℤ, Option, Some, None, if◌then◌else◌, ◌==◌, nat_lt}
use Rattle.ph_specs.specs.Coordinate.{is_point}
use Rattle.ph_specs.specs.ZOrder.{address}
use Rattle.ph_specs.specs.Node.{Entries, end, point, child, PlainNode}
use Rattle.ph_specs.specs.Shape.{digits_below, digits_between}
use Rattle.ph_specs.specs.Pack.{is_cube}
use Rattle.ph_specs.specs.TreeRows.{count}
use Rattle.ph_model.specs.Lawful.{IsLawful, IsLawfulFrom}
use Rattle.ph_specs.specs.DelTree.{same_digits, del_entries}
use Rattle.ph_model.specs.PutTree.{split_place, body_address, body_below, with_point, point_below, child_below, put_entries, find_entries, find_tree, put_tree}
use Rattle.ph_specs.proofs.laws.Put.{either}
use Rattle.ph_model.proofs.lemmas.PointDigits.{IsWhole, point-whole}
use Rattle.ph_node.specs.Relaid.{differ, is_relaid}
use Rattle.ph_tree.specs.Rooms.{room_of_entries, relaid_room, spare_room, wanted_below, left_below, spare_wanted_in, spare_left, spare_left_in, more_words}
use Rattle.ph_tree.proofs.NodeRooms.{entry-words, one-linear, pair-linear}
use Rattle.ph_tree.proofs.PutRooms.{put-room, put-count, point_counts, child_counts}

-- ---- a node

-- one of two entries keeps its layout
pair-kept : (dims level : ℕ) (e : Entries) → count e ≡ 2 → relaid_room dims level e ≡ 0
pair-kept dims level e two = rw (two, one-linear dims level, pair-linear dims level) refl

module _ (w dims level : ℕ) (e : Entries) where
  -- one that a put leaves as it is wants what it may want
  pub relaid-least : relaid_room dims level e ≤ spare_room w dims level e
  relaid-least =
      by_test (is_relaid dims level (count e)) (differ (is_cube dims level (count e)) (is_cube dims level (count e + 1)))
    where
      by_test : (s t : Bool) → (if s then room_of_entries dims level e else 0) ≤
          (if (if s then true else t) then room_of_entries dims level e + more_words w dims else 0)
      by_test true t = omega arith
      by_test false t = omega arith

  -- and one with so many entries too, where it takes no more than a put may add
  relaid-same : (new : Entries) → count new ≡ count e → room_of_entries dims level new ≤ room_of_entries dims level e + more_words w dims →
      relaid_room dims level new ≤ spare_room w dims level e
  relaid-same new same more =
      rw same (by_test (is_relaid dims level (count e)) (differ (is_cube dims level (count e)) (is_cube dims level (count e + 1))))
    where
      by_test : (s t : Bool) → (if s then room_of_entries dims level new else 0) ≤
          (if (if s then true else t) then room_of_entries dims level e + more_words w dims else 0)
      by_test true t = more
      by_test false t = omega arith

  -- or one more
  relaid-more : (new : Entries) → count new ≡ count e + 1 → room_of_entries dims level new ≤ room_of_entries dims level e + more_words w dims →
      relaid_room dims level new ≤ spare_room w dims level e
  relaid-more new one more =
      rw (one, less) (by_test (is_relaid dims level (count e)) (differ (is_cube dims level (count e)) (is_cube dims level (count e + 1))))
    where
      less : count e + 1 - 1 ≡ count e
      less = omega arith

      by_test : (s t : Bool) → (if t then room_of_entries dims level new else 0) ≤
          (if (if s then true else t) then room_of_entries dims level e + more_words w dims else 0)
      by_test true true = more
      by_test false true = more
      by_test true false = omega arith
      by_test false false = omega arith

-- a node into which a point is put wants what it may want
relaid-put : (w dims level : ℕ) (e : Entries) (to : List ℤ) (v : ℕ) → IsWhole w dims to → IsLawfulFrom dims level 0 e → level ≤ w →
    relaid_room dims level (put_entries w level e to v) ≤ spare_room w dims level e
relaid-put w dims level e to v whole ok low =
    let more : room_of_entries dims level (put_entries w level e to v) ≤ room_of_entries dims level e + more_words w dims =
    omega (arith, put-room w dims level e to v whole ok, entry-words dims level w low) in
    elim (put-count w dims level e to v whole ok) [
      | inl same ↦ relaid-same w dims level e (put_entries w level e to v) same more
      | inr one ↦ relaid-more w dims level e (put_entries w level e to v) one more
    ]

-- ---- the way by the entry at the point's address

module _ (w dims : ℕ) (p : List ℤ) where
  -- what a removal wants at a point or behind it, and what it may want
  over-point : (b room most a u v : ℕ) (body : List ℕ) (new rest : Entries) → room ≤ most →
      ((a == address w p b) ≡ false → wanted_below w dims room b new p ≤ left_below w dims most b rest p) →
      wanted_below w dims room b (point a body u new) p ≤ left_below w dims most b (point a body v rest) p
  over-point b room most a u v body new rest h later =
      by_tests (a == address w p b) (same_digits body (digits_below w b p)) later
    where
      by_tests : (s t : Bool) → (s ≡ false → wanted_below w dims room b new p ≤ left_below w dims most b rest p) →
          (if s then (if t then room else 0) else wanted_below w dims room b new p) ≤
          (if s then (if t then most else 0) else left_below w dims most b rest p)
      by_tests false t f = f refl
      by_tests true false f = omega arith
      by_tests true true f = h

  -- at a child, below it or behind it
  over-child : (b room most a c : ℕ) (body : List ℕ) (low chain new rest : Entries) →
      ((a == address w p b) ≡ true → same_digits body (digits_between w b c p) ≡ true →
      wanted_below w dims (relaid_room dims c low) c low p ≤ left_below w dims (spare_room w dims c chain) c chain p) →
      ((a == address w p b) ≡ false → wanted_below w dims room b new p ≤ left_below w dims most b rest p) →
      wanted_below w dims room b (child a body c low new) p ≤ left_below w dims most b (child a body c chain rest) p
  over-child b room most a c body low chain new rest deeper later =
      by_tests (a == address w p b) (same_digits body (digits_between w b c p)) (count (del_entries w c low p) == 1) deeper later
    where
      by_tests : (s t n : Bool) → (s ≡ true → t ≡ true →
          wanted_below w dims (relaid_room dims c low) c low p ≤ left_below w dims (spare_room w dims c chain) c chain p) →
          (s ≡ false → wanted_below w dims room b new p ≤ left_below w dims most b rest p) →
          (if s then (if t then (if n then 0 else wanted_below w dims (relaid_room dims c low) c low p) else 0)
          else wanted_below w dims room b new p) ≤
          (if s then (if t then left_below w dims (spare_room w dims c chain) c chain p else 0) else left_below w dims most b rest p)
      by_tests false t n f g = g refl
      by_tests true false n f g = omega arith
      by_tests true true false f g = f refl refl
      by_tests true true true f g = omega arith

  -- what a removal wants where nothing was put
  kept : (b room most : ℕ) (e : Entries) → room ≤ most → wanted_below w dims room b e p ≤ left_below w dims most b e p
  kept b room most end h = omega arith
  kept b room most (point a body v rest) h = over-point b room most a v v body rest rest h (λ s. kept b room most rest h)
  kept b room most (child a body c chain rest) h =
      over-child b room most a c body chain chain rest rest
      (λ s t. kept c (relaid_room dims c chain) (spare_room w dims c chain) chain (relaid-least w dims c chain))
      (λ s. kept b room most rest h)

module _ (w b a u : ℕ) (body : List ℕ) (rest : Entries) (p : List ℤ) where
  -- a point that is found behind an entry or below it
  pub found-past : (v : ℕ) → find_entries w b (point a body v rest) p ≡ Some u → (a == address w p b) ≡ false → find_entries w b rest p ≡ Some u
  found-past v h s = rw s at h

  pub found-behind : (c : ℕ) (chain : Entries) → find_entries w b (child a body c chain rest) p ≡ Some u → (a == address w p b) ≡ false → find_entries w b rest p ≡ Some u
  found-behind c chain h s = rw s at h

  pub found-below : (c : ℕ) (chain : Entries) → find_entries w b (child a body c chain rest) p ≡ Some u →
      (a == address w p b) ≡ true → (same_digits body (digits_between w b c p) ≡ true) × (find_entries w c chain p ≡ Some u)
  found-below c chain h s =
      by_tests (a == address w p b) (same_digits body (digits_between w b c p)) s h
    where
      by_tests : (s t : Bool) → s ≡ true →
          (if s then (if t then find_entries w c chain p else None) else find_entries w b rest p) ≡ Some u →
          (t ≡ true) × (find_entries w c chain p ≡ Some u)
      by_tests true true e f = (refl, f)
      by_tests true false e f = cc
      by_tests false t e f = cc

-- a point that is found has the address of an entry
found-least : (w dims b least : ℕ) (e : Entries) (u : ℕ) (p : List ℤ) → IsLawfulFrom dims b least e → find_entries w b e p ≡ Some u →
    least ≤ address w p b
found-least w dims b least end u p ok found = cc
found-least w dims b least (point a body v rest) u p ok found =
    elim (either (a == address w p b)) [
      | inl s ↦ omega (arith, ok.0, eqb-true a (address w p b) s)
      | inr s ↦ omega (arith, ok.0, found-least w dims b (a + 1) rest u p ok.3 (found-past w b a u body rest p v found s))
    ]
found-least w dims b least (child a body c chain rest) u p ok found =
    elim (either (a == address w p b)) [
      | inl s ↦ omega (arith, ok.0, eqb-true a (address w p b) s)
      | inr s ↦ omega (arith, ok.0, found-least w dims b (a + 1) rest u p ok.7 (found-behind w b a u body rest p c chain found s))
    ]

-- ---- a put

module _ (w dims limit : ℕ) (from to : List ℤ) (v : ℕ) where
  -- a point of a node that wants nothing
  beside : (k a u : ℕ) (body : List ℕ) (rest : Entries) → wanted_below w dims 0 k rest from ≤ limit → wanted_below w dims 0 k (point a body u rest) from ≤ limit
  beside k a u body rest h = by_tests (a == address w from k) (same_digits body (digits_below w k from))
    where
      by_tests : (s t : Bool) → (if s then (if t then 0 else 0) else wanted_below w dims 0 k rest from) ≤ limit
      by_tests true true = omega arith
      by_tests true false = omega arith
      by_tests false t = h

  -- the node of two points that a split makes
  beside_point : (k a u : ℕ) (body : List ℕ) → wanted_below w dims (relaid_room dims k (with_point w k (point a body u end) to v)) k
      (with_point w k (point a body u end) to v) from ≤ limit
  beside_point k a u body =
      rw (pair-kept dims k (with_point w k (point a body u end) to v) (point_counts w k to v a u body))
      (elim (either (nat_lt (address w to k) a)) [
        | inl s ↦ rw s (beside k (address w to k) v (digits_below w k to) (point a body u end) (beside k a u body end (omega arith)))
        | inr s ↦ rw s (beside k a u body (point (address w to k) (digits_below w k to) v end)
            (beside k (address w to k) v (digits_below w k to) end (omega arith)))
      ])

  -- the node of a point and a child that a split makes
  beside_child : (k a c : ℕ) (body : List ℕ) (chain : Entries) → wanted_below w dims (relaid_room dims c chain) c chain from ≤ limit →
      wanted_below w dims (relaid_room dims k (with_point w k (child a body c chain end) to v)) k (with_point w k (child a body c chain end) to v) from ≤ limit
  beside_child k a c body chain h =
      rw (pair-kept dims k (with_point w k (child a body c chain end) to v) (child_counts w k to v a c body chain))
      (elim (either (nat_lt (address w to k) a)) [
        | inl s ↦ rw s (beside k (address w to k) v (digits_below w k to) (child a body c chain end) (with_child end (omega arith)))
        | inr s ↦ rw s (with_child (point (address w to k) (digits_below w k to) v end)
            (beside k (address w to k) v (digits_below w k to) end (omega arith)))
      ])
    where
      with_child : (rest : Entries) → wanted_below w dims 0 k rest from ≤ limit → wanted_below w dims 0 k (child a body c chain rest) from ≤ limit
      with_child rest later =
          by_tests (a == address w from k) (same_digits body (digits_between w k c from)) (count (del_entries w c chain from) == 1)
        where
          by_tests : (s t n : Bool) → (if s then (if t then (if n then 0 else wanted_below w dims (relaid_room dims c chain) c chain from) else 0)
              else wanted_below w dims 0 k rest from) ≤ limit
          by_tests false t n = later
          by_tests true false n = omega arith
          by_tests true true false = h
          by_tests true true true = omega arith

module _ (w dims b room most a place : ℕ) (between body : List ℕ) (new rest : Entries) (from : List ℤ)
    (behind : wanted_below w dims room b rest from ≤ left_below w dims most b rest from) where
  -- the node that stands in the place of a point
  split_point : (x : ℕ) → wanted_below w dims (relaid_room dims place new) place new from ≤ 0 →
      wanted_below w dims room b (child a between place new rest) from ≤ left_below w dims most b (point a body x rest) from
  split_point x h =
      by_tests (a == address w from b) (same_digits between (digits_between w b place from)) (same_digits body (digits_below w b from))
      (count (del_entries w place new from) == 1)
    where
      by_tests : (s t r n : Bool) → (if s then (if t then (if n then 0 else wanted_below w dims (relaid_room dims place new) place new from) else 0)
          else wanted_below w dims room b rest from) ≤ (if s then (if r then most else 0) else left_below w dims most b rest from)
      by_tests false t r n = behind
      by_tests true false r n = omega arith
      by_tests true true r true = omega arith
      by_tests true true r false = omega (arith, h)

  -- or of a child
  split_child : (c : ℕ) (chain : Entries) →
      ((a == address w from b) ≡ true → same_digits body (digits_between w b c from) ≡ true) →
      wanted_below w dims (relaid_room dims place new) place new from ≤ left_below w dims (spare_room w dims c chain) c chain from →
      wanted_below w dims room b (child a between place new rest) from ≤ left_below w dims most b (child a body c chain rest) from
  split_child c chain same h =
      by_tests (a == address w from b) (same_digits between (digits_between w b place from)) (same_digits body (digits_between w b c from))
      (count (del_entries w place new from) == 1) same
    where
      by_tests : (s t r n : Bool) → (s ≡ true → r ≡ true) →
          (if s then (if t then (if n then 0 else wanted_below w dims (relaid_room dims place new) place new from) else 0)
          else wanted_below w dims room b rest from) ≤
          (if s then (if r then left_below w dims (spare_room w dims c chain) c chain from else 0) else left_below w dims most b rest from)
      by_tests false t r n f = behind
      by_tests true false r n f = omega arith
      by_tests true true r true f = omega arith
      by_tests true true true false f = h
      by_tests true true false false f = let no = f refl in cc

module _ (w dims : ℕ) (from to : List ℤ) (v : ℕ) (whole : IsWhole w dims to) where
  -- a point that is put before all entries, of which one has the address of the other point
  in_front : (b room most n a : ℕ) (body : List ℕ) (e : Entries) → n < a → a ≤ address w from b → room ≤ most →
      wanted_below w dims room b (point n body v e) from ≤ left_below w dims most b e from
  in_front b room most n a body e less least h =
      let d : (n == address w from b) ≡ false = ne_eqb n (address w from b) (λ s. omega (arith, s, less, least)) in
      rw d (kept w dims from b room most e h)

  -- what a removal wants once a point was put
  grown : (b least room most : ℕ) (e : Entries) (u : ℕ) → b ≤ w → IsLawfulFrom dims b least e → find_entries w b e from ≡ Some u → room ≤ most →
      wanted_below w dims room b (put_entries w b e to v) from ≤ left_below w dims most b e from
  grown b least room most end u l ok found h = cc
  grown b least room most (point a body x rest) u l ok found h =
      let behind : wanted_below w dims room b rest from ≤ left_below w dims most b rest from = kept w dims from b room most rest h in
      elim (either (nat_lt (address w to b) a)) [
        | inl first ↦
            let least : a ≤ address w from b = found-least w dims b a (point a body x rest) u from (omega arith, ok.1, ok.2, ok.3, ok.4) found in
            rw first (in_front b room most (address w to b) a (digits_below w b to) (point a body x rest) (ltb-true (address w to b) a first) least h)
        | inr late ↦ elim (either (nat_lt a (address w to b))) [
          | inl later ↦
              rw (late, later) (over-point w dims from b room most a x x body (put_entries w b rest to v) rest h
              (λ s. grown b (a + 1) room most rest u l ok.3 (found-past w b a u body rest from x found s) h))
          | inr here ↦ elim (either (same_digits body (digits_below w b to))) [
            | inl alike ↦ rw (late, here, alike) (over-point w dims from b room most a v x body rest rest h (λ s. behind))
            | inr unlike ↦
                let place : ℕ = split_place b body (digits_below w b to) in
                let new : Entries = with_point w place (point_below place body x) to v in
                rw (late, here, unlike) (split_point w dims b room most a place (digits_between w b place to) body new rest from behind x
                (beside_point w dims 0 from to v place (body_address place body) x (body_below place body)))
          ]
        ]
      ]
  grown b least room most (child a body c chain rest) u l ok found h =
      let behind : wanted_below w dims room b rest from ≤ left_below w dims most b rest from = kept w dims from b room most rest h in
      let below = found-below w b a u body rest from c chain found in
      let same : wanted_below w dims (relaid_room dims c chain) c chain from ≤ left_below w dims (spare_room w dims c chain) c chain from =
      kept w dims from c (relaid_room dims c chain) (spare_room w dims c chain) chain (relaid-least w dims c chain) in
      elim (either (nat_lt (address w to b) a)) [
        | inl first ↦
            let least : a ≤ address w from b = found-least w dims b a (child a body c chain rest) u from
            (omega arith, ok.1, ok.2, ok.3, ok.4, ok.5, ok.6, ok.7) found in
            rw first (in_front b room most (address w to b) a (digits_below w b to) (child a body c chain rest) (ltb-true (address w to b) a first) least h)
        | inr late ↦ elim (either (nat_lt a (address w to b))) [
          | inl later ↦
              rw (late, later) (over-child w dims from b room most a c body chain chain (put_entries w b rest to v) rest (λ s t. same)
              (λ s. grown b (a + 1) room most rest u l ok.7 (found-behind w b a u body rest from c chain found s) h))
          | inr here ↦ elim (either (same_digits body (digits_between w b c to))) [
            | inl alike ↦
                let low : c ≤ w = omega (arith, ok.3, l) in
                let new : Entries = put_entries w c chain to v in
                rw (late, here, alike) (over-child w dims from b room most a c body new chain rest rest
                (λ s t. grown c 0 (relaid_room dims c new) (spare_room w dims c chain) chain u low ok.6 (below s).1
                (relaid-put w dims c chain to v whole ok.6 low))
                (λ s. behind))
            | inr unlike ↦
                let place : ℕ = split_place b body (digits_between w b c to) in
                let new : Entries = with_point w place (child_below place body c chain) to v in
                rw (late, here, unlike) (split_child w dims b room most a place (digits_between w b place to) body new rest from behind c chain
                (λ s. (below s).0)
                (beside_child w dims (left_below w dims (spare_room w dims c chain) c chain from) from to v place
                (body_address place body) c (body_below place body) chain same))
          ]
        ]
      ]

if_any : (none : Bool) (n limit : ℕ) → n ≤ limit → (if none then 0 else n) ≤ limit
if_any true n limit h = omega arith
if_any false n limit h = h

-- behind a put at another point the removal of a row wants no more than it may want
pub room-between : (w dims : ℕ) (t : Option PlainNode) (from to : List ℤ) (u v : ℕ) →
    is_point w dims to ≡ true → IsLawful w dims t → find_tree w dims t from ≡ Some u →
    spare_wanted_in w dims (put_tree w dims t to v) from ≤ spare_left_in w dims t from
room-between w dims None from to u v at_to ok found = cc
room-between w dims (Some n) from to u v at_to ok found =
    let whole : IsWhole w dims to = point-whole w dims to at_to in
    let low : n.level ≤ w = omega (arith, ok.0) in
    let new : Entries = put_entries w n.level n.chain to v in
    if_any (count (del_entries w n.level new from) == 0) (wanted_below w dims (relaid_room dims n.level new) n.level new from) (spare_left w dims n from)
    (grown w dims from to v whole n.level 0 (relaid_room dims n.level new) (spare_room w dims n.level n.chain) n.chain u low ok.2 found
    (relaid-put w dims n.level n.chain to v whole ok.2 low))
