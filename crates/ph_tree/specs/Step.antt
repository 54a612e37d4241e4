-- What one node says of a point.
use Rattle.std.specs.Prelude.{◌≡◌, ℕ, List, ℤ, position, slice_get, None, Some}
use Rattle.ph_specs.specs.ZOrder.{address}
use Rattle.ph_specs.specs.Node.{PlainNode}
use Rattle.ph_model.specs.EntryList.{Entry, What, value, node, entries}
use Rattle.ph_specs.specs.Shape.{digits_below, digits_between}
use Rattle.ph_model.specs.EntryEdits.{has_address}
use Rattle.ph_node.specs.OneEdit.{before}
use Rattle.ph_node.specs.Places.{place_for}
use Rattle.ph_node.specs.Shown.{shown}
use Rattle.ph_node.specs.declared.spots.Spot.{Spot}
use Rattle.ph_tree.specs.declared.step.StepOf.{StepOf}
use Rattle.ph_tree.specs.declared.step.StepOf.TheVariants.{Absent, Same, Below, Other}

-- an entry stands at a spot, which is the point's address
abbrev pub IsAt : ℕ → List ℤ → PlainNode → Spot → Entry → Type 0
IsAt width p n s x =
    (slice_get (entries n) s.place ≡ Some x) × (x.addr ≡ address width p n.level) × (s.addr ≡ x.addr)

-- what an entry holds, of which the point is not a part
abbrev pub IsApart : ℕ → List ℤ → ℕ → List ℕ → What → Type 0
IsApart width p level body (value v) = body ≡ digits_below width level p → ⊥
IsApart width p level body (node m) = body ≡ digits_between width level m.level p → ⊥

-- an entry stands at a spot, which is the point's address, and the point is not a part of it
abbrev pub IsApartAt : ℕ → List ℤ → PlainNode → Spot → Type 0
IsApartAt width p n s = (x : Entry) × IsAt width p n s x × IsApart width p n.level x.body x.what

-- how many nodes are opened to see what is held
abbrev pub opened_for : What → ℕ
opened_for (value v) = 0
opened_for (node m) = 1

-- what is found in a node, and how many nodes below it are opened
abbrev pub IsStep : ℕ → List ℤ → PlainNode → StepOf PlainNode → ℕ → Type 0
IsStep width p n (Absent i) opened =
    (position (has_address (address width p n.level)) (entries n) ≡ None) × (i ≡ place_for (address width p n.level) (entries n)) × (opened ≡ 0)
IsStep width p n (Same s v) opened =
    (x : Entry) × IsAt width p n s x × (x.what ≡ value v) × (x.body ≡ digits_below width n.level p) × (opened ≡ 0)
IsStep width p n (Below s rank m) opened =
    (x : Entry) × IsAt width p n s x × (x.what ≡ node (shown m)) × (x.body ≡ digits_between width n.level (shown m).level p)
    × (opened ≡ 1) × (rank ≡ before (entries n) s.place)
IsStep width p n (Other s) opened =
    (x : Entry) × IsAt width p n s x × IsApart width p n.level x.body x.what × (opened ≡ opened_for x.what)

-- an entry stands at a spot, which is the point's address, and is a child, at its place among the children, that has the point's digits above its level
pub record IsLeading (width : ℕ) (p : List ℤ) (n : PlainNode) (s : Spot) (rank : ℕ) : Type 0 where
  pub entry : Entry
  pub below : PlainNode
  pub at : IsAt width p n s entry
  pub child : entry.what ≡ node below
  pub body : entry.body ≡ digits_between width n.level below.level p
  pub place : rank ≡ before (entries n) s.place
