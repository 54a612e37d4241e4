-- Nodes that were opened, and the children of them that wait.
use Rattle.std.specs.Prelude.{◌≡◌, ℕ, ◌-◌, ◌^◌, ◌<◌, ◌≤◌, ◌⊎◌, List, [], ◌∷◌, ◌++◌, length, map, ℤ, true, slice_index_or}
use Rattle.std.specs.List.{AllByRecursion as Each}
use Rattle.std.specs.List.Sorted.{IsPermutation}
use Rattle.ph_model.specs.Lawful.{IsAbove, IsBody, IsLawfulFrom}
use Rattle.ph_specs.specs.Node.{PlainNode, end}
use Rattle.ph_model.specs.EntryList.{entries}
use Rattle.ph_model.specs.EntryEdits.{what_at}
use Rattle.ph_model.specs.BestFirst.{Item, node, items_below, item_distance}
use Rattle.ph_model.specs.BallSearch.{placed_at}
use Rattle.ph_node.specs.Kinds.{is_node}
use Rattle.ph_node.specs.Shown.{shown}
use Rattle.ph_near.specs.declared.found.Found.{Found}
use Rattle.ph_near.specs.declared.opening.OpenedOf.{OpenedOf}
use Rattle.ph_near.specs.declared.waiting.Waiting.{Waiting}
use Rattle.ph_near.specs.Found.{IsFound, found_item}
use Rattle.ph_near.specs.Nearing.{IsKept}
use Rattle.ph_near.specs.Queue.{entry_at, entry_item}
use Rattle.ph_near.specs.Ranking.{IsAdded, IsBeyond}

-- a node of a lawful tree of this width, and what is known above its level
pub record IsOpened (w d : ℕ) (o : OpenedOf PlainNode d) : Type 0 where
  pub level : (shown o.node).level < w
  pub lawful : IsLawfulFrom d (shown o.node).level 0 (shown o.node).chain
  pub above : IsAbove d (shown o.node).level o.known
  pub known : IsBody d w o.known

-- the entries of an opened node, and the one at a place
abbrev pub opened_items : {d : ℕ} → ℕ → OpenedOf PlainNode d → List Item
opened_items w o = items_below w (shown o.node).level o.known (shown o.node).chain

abbrev pub place_item : {d : ℕ} → ℕ → OpenedOf PlainNode d → ℕ → Item
place_item w o i = entry_item w (shown o.node).level o.known (entry_at (entries (shown o.node)) i)

-- a child of an opened node that was visited itself
abbrev pub IsEntered : {d : ℕ} → ℕ → OpenedOf PlainNode d → ℕ → OpenedOf PlainNode d → Type 0
IsEntered w from place o =
    place_item w from place ≡ node (placed_at w ((shown from.node).level - 1) o.known (shown o.node))

-- what an item that waits stands for
abbrev pub opened_at : {d : ℕ} → List (OpenedOf PlainNode d) → ℕ → OpenedOf PlainNode d
opened_at os k = slice_index_or os k (record { node = record { node = record { ref_ptr = (0, 0); now = record { level = 0; chain = end } } }; known = [] })

-- the node that was opened last
pub record IsNewest {d : ℕ} (os : List (OpenedOf PlainNode d)) (o : OpenedOf PlainNode d) : Type 0 where
  pub some : 1 ≤ length os
  pub at : opened_at os (length os - 1) ≡ o

abbrev pub item_at : {d : ℕ} → ℕ → List (OpenedOf PlainNode d) → Waiting → Item
item_at w os i = place_item w (opened_at os i.opened) i.place

abbrev pub line_of : {d : ℕ} → ℕ → List (OpenedOf PlainNode d) → List Waiting → List Item
line_of w os items = map (item_at w os) items

-- an item is a child with the least distance of its region from q
pub record IsChild {d : ℕ} (w : ℕ) (q : List ℤ) (o : OpenedOf PlainNode d) (i : Waiting) : Type 0 where
  pub place : i.place < length (entries (shown o.node))
  pub child : is_node (what_at (entries (shown o.node)) i.place) ≡ true
  pub far : i.distance ≡ item_distance w q (place_item w o i.place)
  pub small : i.distance < 2 ^ 128

pub record IsWaiting {d : ℕ} (w : ℕ) (q : List ℤ) (os : List (OpenedOf PlainNode d)) (i : Waiting) : Type 0 where
  pub opened : i.opened < length os
  pub child : IsChild w q (opened_at os i.opened) i

abbrev pub AreWaiting : {d : ℕ} → ℕ → List ℤ → List (OpenedOf PlainNode d) → List Waiting → Type 0
AreWaiting w q os items = Each (IsWaiting w q os) items

-- what becomes of an entry: n rows are nearer, or it is a row and is ranked
abbrev pub IsTried : {d : ℕ} → ℕ → ℕ → List ℤ → Item → List (Found d) → List (Found d) → Type 0
IsTried {d} n w q e old new =
    ((new ≡ old) × IsBeyond n old (item_distance w q e)) ⊎ ((x : Found d) × IsFound w d q x × (e ≡ found_item w x) × IsAdded n x old new)

-- the same of any entry of an opened node, which stands at a place among others: a child may wait
abbrev pub IsTreated : {d : ℕ} → ℕ → ℕ → List ℤ → ℕ → OpenedOf PlainNode d → ℕ → List (Found d) → List (Found d) → List Waiting → List Waiting → Type 0
IsTreated n w q at o place old new was now =
    ((now ≡ was) × IsTried n w q (place_item w o place) old new)
    ⊎ ((new ≡ old) × ((x : Waiting) × (x.opened ≡ at) × (x.place ≡ place) × IsChild w q o x × IsPermutation (x ∷ was) now))

-- all entries of a node that was opened were treated
pub record AreTreated {d : ℕ} (w n : ℕ) (q : List ℤ) (os : List (OpenedOf PlainNode d)) (o : OpenedOf PlainNode d) (old new : List (Found d))
    (was now : List Waiting) : Type 0 where
  pub waits : AreWaiting w q os now
  pub kept : IsKept w n q old (opened_items w o ++ line_of w os was) new (line_of w os now)
