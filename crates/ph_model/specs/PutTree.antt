-- A plain tree with one row more or with another value, and the look-up of a point in a plain tree.
use Rattle.std.specs.Prelude.{ℕ, zero, suc, ◌+◌, ◌-◌, ◌*◌, ◌/◌, ◌%◌, ◌^◌, ◌==◌, nat_lt, if◌then◌else◌, List, [], ◌∷◌, map, ℤ, Option, Some, None}
use Rattle.ph_specs.specs.ZOrder.{address}
use Rattle.ph_specs.specs.Node.{Entries, end, point, child, PlainNode}
use Rattle.ph_specs.specs.Shape.{digits_below, digits_between}
use Rattle.ph_specs.specs.DelTree.{same_digits}

-- the digits of numbers from a place on
abbrev pub digits_from : ℕ → List ℕ → List ℕ
digits_from place xs = map (λ x. x / 2 ^ place) xs

-- the greatest place below a level from which on two lists of numbers differ, and 0 where there is none
abbrev pub split_place : ℕ → List ℕ → List ℕ → ℕ
split_place zero xs ys = 0
split_place (suc place) xs ys =
    if same_digits (digits_from place xs) (digits_from place ys) then split_place place xs ys else place

-- the number `start` followed by the binary digits of numbers at one place
abbrev pub body_address_from : ℕ → ℕ → List ℕ → ℕ
body_address_from start place [] = start
body_address_from start place (x ∷ xs) = body_address_from (start * 2 + x / 2 ^ place % 2) place xs

-- the address of an entry further down: the digits of its body at one place, the first number's the most significant
abbrev pub body_address : ℕ → List ℕ → ℕ
body_address place body = body_address_from 0 place body

-- a body below a place
abbrev pub body_below : ℕ → List ℕ → List ℕ
body_below place body = map (λ x. x % 2 ^ place) body

-- a body above a place, with zeros from the place down
abbrev pub body_above : ℕ → List ℕ → List ℕ
body_above place body = map (λ x. x / 2 ^ (place + 1) * 2 ^ (place + 1)) body

-- ---- look-up

-- the value of a point in the entries of a node at a level
abbrev pub find_entries : ℕ → ℕ → Entries → List ℤ → Option ℕ
find_entries width level end p = None
find_entries width level (point a body v rest) p =
    if a == address width p level then (if same_digits body (digits_below width level p) then Some v else None)
    else find_entries width level rest p
find_entries width level (child a body below chain rest) p =
    if a == address width p level then (if same_digits body (digits_between width level below p) then find_entries width below chain p else None)
    else find_entries width level rest p

-- the value of a point in a node
abbrev pub find_node : ℕ → PlainNode → List ℤ → Option ℕ
find_node width n p = find_entries width n.level n.chain p

-- the value of a point in a plain tree
abbrev pub find_tree : ℕ → ℕ → Option PlainNode → List ℤ → Option ℕ
find_tree width dims None p = None
find_tree width dims (Some n) p = find_node width n p

-- ---- edit

-- a point entry in its place by address
abbrev pub inserted_point : ℕ → List ℕ → ℕ → Entries → Entries
inserted_point a body v end = point a body v end
inserted_point a body v (point b other u rest) =
    if nat_lt a b then point a body v (point b other u rest) else point b other u (inserted_point a body v rest)
inserted_point a body v (child b other below chain rest) =
    if nat_lt a b then point a body v (child b other below chain rest) else child b other below chain (inserted_point a body v rest)

-- a point among the entries of a node at a level that has none at its address
abbrev pub with_point : ℕ → ℕ → Entries → List ℤ → ℕ → Entries
with_point width level e p v = inserted_point (address width p level) (digits_below width level p) v e

-- in front of entries the child that splits an entry at a place: its one entry is the old one, and a point joins it
abbrev pub split_child : ℕ → ℕ → ℕ → ℕ → Entries → Entries → List ℤ → ℕ → Entries
split_child width level place a old rest p v = child a (digits_between width level place p) place (with_point width place old p v) rest

-- a point entry and a child entry by themselves, as they are below a place
abbrev pub point_below : ℕ → List ℕ → ℕ → Entries
point_below place body v = point (body_address place body) (body_below place body) v end

abbrev pub child_below : ℕ → List ℕ → ℕ → Entries → Entries
child_below place body below chain = child (body_address place body) (body_below place body) below chain end

-- the entries of a node at a level with this value at a point
abbrev pub put_entries : ℕ → ℕ → Entries → List ℤ → ℕ → Entries
put_entries width level end p v = with_point width level end p v
put_entries width level (point a body u rest) p v =
    if nat_lt (address width p level) a then with_point width level (point a body u rest) p v
    else (if nat_lt a (address width p level) then point a body u (put_entries width level rest p v)
    else (if same_digits body (digits_below width level p) then point a body v rest
    else (let place = split_place level body (digits_below width level p) in
    split_child width level place a (point_below place body u) rest p v)))
put_entries width level (child a body below chain rest) p v =
    if nat_lt (address width p level) a then with_point width level (child a body below chain rest) p v
    else (if nat_lt a (address width p level) then child a body below chain (put_entries width level rest p v)
    else (if same_digits body (digits_between width level below p) then child a body below (put_entries width below chain p v) rest
    else (let place = split_place level body (digits_between width level below p) in
    split_child width level place a (child_below place body below chain) rest p v)))

-- the node with this value at a point
abbrev pub put_node : ℕ → PlainNode → List ℤ → ℕ → PlainNode
put_node width n p v = record { level = n.level; chain = put_entries width n.level n.chain p v }

-- the tree with this value at a point; where nothing is, a root at the highest place
abbrev pub put_tree : ℕ → ℕ → Option PlainNode → List ℤ → ℕ → Option PlainNode
put_tree width dims None p v = Some (put_node width (record { level = width - 1; chain = end }) p v)
put_tree width dims (Some n) p v = Some (put_node width n p v)
