-- The words and the children of nodes that a removal and a move want room for.
use Rattle.std.specs.Prelude.{ℕ, ◌+◌, ◌*◌, ◌==◌, Bool, true, if◌then◌else◌, List, length, ℤ, Option, Some, None}
use Rattle.ph_specs.specs.Digits.{words_for}
use Rattle.ph_specs.specs.ZOrder.{address}
use Rattle.ph_specs.specs.Node.{Entries, end, point, child, PlainNode, flat}
use Rattle.ph_specs.specs.Shape.{digits_below, digits_between}
use Rattle.ph_specs.specs.TreeRows.{count}
use Rattle.ph_specs.specs.Pack.{children, is_cube, record_of}
use Rattle.ph_specs.specs.DelTree.{same_digits, del_entries}
use Rattle.ph_node.specs.Relaid.{differ, is_relaid}

-- the words of the record of entries at a level, and a word for each child
abbrev pub room_of_entries : ℕ → ℕ → Entries → ℕ
room_of_entries dims level e = length (record_of dims level (flat e)) + children (flat e)

-- ---- a removal

-- the room that a node at a level wants to lose an entry: that of the record, which is laid out anew where it changes its layout. Where the layout stays
-- it is changed as it lies, and wants none
abbrev pub relaid_room : ℕ → ℕ → Entries → ℕ
relaid_room dims level e = if is_relaid dims level (count e) then room_of_entries dims level e else 0

-- the room that the removal of a point wants below a node at a level that wants so much to lose an entry. None is wanted where the point is not found,
-- and none where a child of two entries loses one: the other takes the child's place in the record as it lies
abbrev pub wanted_below : ℕ → ℕ → ℕ → ℕ → Entries → List ℤ → ℕ
wanted_below width dims room level end p = 0
wanted_below width dims room level (point a body v rest) p =
    if a == address width p level then (if same_digits body (digits_below width level p) then room else 0) else wanted_below width dims room level rest p
wanted_below width dims room level (child a body below chain rest) p =
    if a == address width p level then
    (if same_digits body (digits_between width level below p)
    then (if count (del_entries width below chain p) == 1 then 0 else wanted_below width dims (relaid_room dims below chain) below chain p)
    else 0)
    else wanted_below width dims room level rest p

-- the room that the removal of a point from a node or from below it wants
abbrev pub spare_wanted : ℕ → ℕ → PlainNode → List ℤ → ℕ
spare_wanted width dims n p = wanted_below width dims (relaid_room dims n.level n.chain) n.level n.chain p

-- the room that the removal of a point from a tree wants. None is wanted where the root loses its last entry
abbrev pub spare_wanted_in : ℕ → ℕ → Option PlainNode → List ℤ → ℕ
spare_wanted_in width dims None p = 0
spare_wanted_in width dims (Some n) p =
    if count (del_entries width n.level n.chain p) == 0 then 0 else spare_wanted width dims n p

-- ---- a move

-- by how many words a put lets the room grow that a removal wants
abbrev pub more_words : ℕ → ℕ → ℕ
more_words width dims = words_for (1 + dims + dims * width) + 1

-- whether a node of n entries at a level, or one with an entry more, changes its layout when an entry goes
abbrev pub is_relaid_near : ℕ → ℕ → ℕ → Bool
is_relaid_near dims level n = if is_relaid dims level n then true else differ (is_cube dims level n) (is_cube dims level (n + 1))

-- the room that a node at a level may want to lose an entry, once a put at another point may have added one
abbrev pub spare_room : ℕ → ℕ → ℕ → Entries → ℕ
spare_room width dims level e =
    if is_relaid_near dims level (count e) then room_of_entries dims level e + more_words width dims else 0

-- the room that the removal of a point may want behind a put, below a node at a level that may want so much: the node at which the point's way ends tells
abbrev pub left_below : ℕ → ℕ → ℕ → ℕ → Entries → List ℤ → ℕ
left_below width dims room level end p = 0
left_below width dims room level (point a body v rest) p =
    if a == address width p level then (if same_digits body (digits_below width level p) then room else 0) else left_below width dims room level rest p
left_below width dims room level (child a body below chain rest) p =
    if a == address width p level then
    (if same_digits body (digits_between width level below p) then left_below width dims (spare_room width dims below chain) below chain p else 0)
    else left_below width dims room level rest p

-- the same from a node on, and in a tree
abbrev pub spare_left : ℕ → ℕ → PlainNode → List ℤ → ℕ
spare_left width dims n p = left_below width dims (spare_room width dims n.level n.chain) n.level n.chain p

abbrev pub spare_left_in : ℕ → ℕ → Option PlainNode → List ℤ → ℕ
spare_left_in width dims None p = 0
spare_left_in width dims (Some n) p = spare_left width dims n p
