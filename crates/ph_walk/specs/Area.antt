-- A set of points, and which entries of a node matter for it.
use Rattle.std.specs.Prelude.{◌≡◌, ◌↔◌, ℕ, ◌+◌, ◌-◌, ◌^◌, ◌<◌, ◌≤◌, List, ℤ, Bool, true, false, Option, Some, slice_get, filter, length, replicate, MatchOption, IfSome}
use Rattle.ph_specs.specs.Coordinate.{IsPoint}
use Rattle.ph_specs.specs.TreeRows.{rows_behind, put_together}
use Rattle.ph_specs.specs.Node.{Entries, PlainNode}
use Rattle.ph_model.specs.EntryList.{What, value, node, Entry, entries}
use Rattle.ph_model.specs.PutTree.{body_above}
use Rattle.ph_specs.specs.Region.{Region, is_in}
use Rattle.ph_specs.specs.Table.{Row}
use Rattle.ph_model.specs.WindowWalk.{node_region}
use Rattle.ph_specs.specs.WorkSets.{Placed, placed_below}
use Rattle.ph_node.specs.Spots.{IsSpot}
use Rattle.ph_node.specs.declared.spots.Spot.{Spot}
use Rattle.ph_path.specs.Known.{Known, point_at}

-- which points belong to it, and which regions have one of them
pub record Area : Type 0 where
  pub width : ℕ
  pub belongs : List ℤ → Bool
  pub touches : Region → Bool

-- a region is touched exactly where one of its points belongs to the set
abbrev pub IsArea : ℕ → Area → Type 0
IsArea d a =
    (r : Region) → r.level < a.width → IsPoint a.width d r.corner
    → a.touches r ≡ true ↔ ((p : List ℤ) × IsPoint a.width d p × (is_in a.width r p ≡ true) × (a.belongs p ≡ true))

-- the rows of the set, and the nodes whose regions have a point of it
abbrev pub kept : Area → List Row → List Row
kept a rs = filter (λ r. a.belongs r.point) rs

abbrev pub touched : Area → List Placed → List Placed
touched a xs = filter (λ x. a.touches x.region) xs

-- below entries at a level, behind digits that are known above it
abbrev pub kept_below : Area → ℕ → List ℕ → Entries → List Row
kept_below a level above es = kept a (rows_behind a.width level above es)

abbrev pub touched_below : Area → ℕ → List ℕ → Entries → List Placed
touched_below a level above es = touched a (placed_below a.width level above es)

abbrev pub TouchesRoot : ℕ → Area → Type 0
TouchesRoot d a = a.touches (node_region a.width (a.width - 1) (replicate d 0)) ≡ true

-- an entry with these digits that holds nothing of the set
abbrev pub HoldsNone : Area → ℕ → List ℕ → What → Type 0
HoldsNone a level joined (value v) = a.belongs (point_at a.width joined) ≡ false
HoldsNone a level joined (node n) = a.touches (node_region a.width (level - 1) joined) ≡ false

-- and one that may hold something: a child of which a point belongs to it
abbrev pub MayHold : Area → ℕ → List ℕ → What → Type 0
MayHold a level joined (value v) = Unit {0}
MayHold a level joined (node n) = a.touches (node_region a.width (level - 1) joined) ≡ true

-- from one place up to another no entry holds anything of it
abbrev pub AreOut : Area → ℕ → List ℕ → List Entry → ℕ → ℕ → Type 0
AreOut a level above es from to =
    (j : ℕ) (x : Entry) → from ≤ j → j < to → slice_get es j ≡ Some x → HoldsNone a level (put_together level x.addr above x.body) x.what

-- entry i is the first from a place on that may
pub record IsNext (a : Area) (level : ℕ) (above : List ℕ) (es : List Entry) (place i : ℕ) : Type 0 where
  pub behind : place ≤ i
  pub may : (x : Entry) → slice_get es i ≡ Some x → MayHold a level (put_together level x.addr above x.body) x.what
  pub out : AreOut a level above es place i

-- ---- what a set answers to a walk

-- what is noted of a node at a level, below the digits that are known above it; nothing only where its region has no point of the set
abbrev pub IsNote : {M : Type 0} → Area → (ℕ → List ℕ → M → Type 0) → ℕ → List ℕ → Option M → Type 0
IsNote a IsNoted level digits m =
    MatchOption m (a.touches (node_region a.width level (body_above level digits)) ≡ false) (IsNoted level (body_above level digits))

-- the entry of a node that is found from a place on, or none
abbrev pub IsFound : Area → PlainNode → List ℕ → ℕ → Option Spot → Type 0
IsFound a n digits place o =
    MatchOption o (AreOut a n.level (body_above n.level digits) (entries n) place (length (entries n)))
    (λ s. IsNext a n.level (body_above n.level digits) (entries n) place s.place)

-- the same of a spot that was searched for, which has a place behind it
pub record IsSpotFound (a : Area) (n : PlainNode) (digits : List ℕ) (place : ℕ) (result : Option Spot) : Type 0 where
  pub found : IsFound a n digits place result
  pub spot : IfSome result (λ s. IsSpot (entries n) s)
  pub room : IfSome result (λ s. s.place + 1 < 2 ^ 64)

-- no entry of a node from a place on holds anything of it
abbrev pub AreDone : Area → PlainNode → List ℕ → ℕ → Type 0
AreDone a n digits place = AreOut a n.level (body_above n.level digits) (entries n) place (length (entries n))

-- what is told of the point with the known digits, if it belongs to the set
abbrev pub IsTold : {T : Type 0} → Area → (List ℤ → T) → Known → Option T → Type 0
IsTold a told k o =
    MatchOption o (a.belongs (point_at k.width k.digits) ≡ false)
    (λ t. (a.belongs (point_at k.width k.digits) ≡ true) × (t ≡ told (point_at k.width k.digits)))
