-- One edit of the entries of a node, and what it reads of an entry.
use Rattle.std.specs.Prelude.{◌≡◌, ℕ, zero, suc, ◌+◌, ◌^◌, ◌<◌, ◌≤◌, List, [], ◌∷◌, ◌++◌, length, map, take, if◌then◌else◌, Option, Some, None}
use Rattle.ph_model.specs.EntryEdits.{what_at}
use Rattle.ph_model.specs.Lawful.{IsBody}
use Rattle.ph_model.specs.Layout.{AreRising}
use Rattle.ph_specs.specs.Node.{Flat, PlainNode}
use Rattle.ph_model.specs.EntryList.{Entry, What, value, node, node_of, entries}
use Rattle.ph_bits.specs.Edits.{edited, new_flat}
use Rattle.ph_bits.specs.Packed.{IsPadded}
use Rattle.ph_bits.specs.declared.edits.Edit.{Edit}
use Rattle.ph_node.specs.Merge.{addr_at}
use Rattle.ph_node.specs.Places.{place_for}
use Rattle.ph_node.specs.Split.{body_at}
use Rattle.ph_node.specs.declared.olds.OldEntry.{OldEntry}

-- ---- entries as a record keeps them

-- the value of a point
abbrev pub value_of : What → Option ℕ
value_of (value v) = Some v
value_of (node n) = None

-- how many children it is
abbrev pub ones_of : What → ℕ
ones_of (value v) = 0
ones_of (node n) = 1

-- the child that it is
abbrev pub held_nodes : What → List PlainNode
held_nodes (value v) = []
held_nodes (node n) = n ∷ []

-- the children of entries
abbrev pub nodes_held : List Entry → List PlainNode
nodes_held [] = []
nodes_held (e ∷ es) = held_nodes e.what ++ nodes_held es

-- child k
abbrev pub node_at : List PlainNode → ℕ → PlainNode
node_at [] k = node_of 0 []
node_at (n ∷ ns) zero = n
node_at (n ∷ ns) (suc k) = node_at ns k

abbrev pub flat_of : Entry → Flat
flat_of e = record { addr = e.addr; body = e.body; value = value_of e.what }

abbrev pub flats_of : PlainNode → List Flat
flats_of n = map flat_of (entries n)

-- how many children stand in front of entry i
abbrev pub before : List Entry → ℕ → ℕ
before [] i = 0
before (e ∷ es) zero = 0
before (e ∷ es) (suc i) = ones_of e.what + before es i

-- ---- an edit

-- the entries of a node with an edit
abbrev pub edit_flats : ℕ → PlainNode → Edit → List Flat
edit_flats dims n e = edited e.place e.less e.more (new_flat dims e.entry e.value) (flats_of n)

-- they may be those of a node, and the edit is of what stands at one address: all that stood there is left out, and a new entry
-- stands there
pub record IsEdit (dims : ℕ) (n : PlainNode) (e : Edit) : Type 0 where
  pub within : e.place + e.less ≤ length (entries n)
  pub few : e.more ≤ 1
  pub some : 1 ≤ dims
  pub address : e.entry.addr < 2 ^ dims
  pub front : e.place ≡ place_for e.entry.addr (entries n)
  pub behind : e.place + e.less ≡ place_for (e.entry.addr + 1) (entries n)
  pub rise : AreRising dims n.level 0 (edit_flats dims n e)
  pub padded : IsPadded dims e.entry.body

-- ---- an entry that was read

-- the value of a point
abbrev pub held_by : OldEntry → Option ℕ
held_by o = if o.child then None else Some o.value

-- it is entry i of a node
pub record IsOldEntry (dims : ℕ) (n : PlainNode) (i : ℕ) (o : OldEntry) : Type 0 where
  pub addr : addr_at (entries n) i ≡ o.addr
  pub body : body_at (entries n) i ≡ take dims o.body
  pub fields : IsBody dims n.level (take dims o.body)
  pub padded : IsPadded dims o.body
  pub value : value_of (what_at (entries n) i) ≡ held_by o
  pub kind : ones_of (what_at (entries n) i) ≡ (if o.child then 1 else 0)
  pub front : o.front ≡ before (entries n) i
