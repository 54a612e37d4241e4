-- Which plain trees are lawful.
use Rattle.std.specs.Prelude.{◌≡◌, ℕ, ◌+◌, ◌-◌, ◌%◌, ◌^◌, ◌<◌, ◌≤◌, List, length, Option, Some, None}
use Rattle.std.specs.List.{AllByRecursion as Each}
use Rattle.ph_specs.specs.Node.{Entries, end, point, child, PlainNode}
use Rattle.ph_model.specs.EntryList.{Entry, What, value, node}
use Rattle.ph_specs.specs.TreeRows.{count}

-- a body: a field of this many digits for each dimension
abbrev pub IsBody : ℕ → ℕ → List ℕ → Type 0
IsBody dims level body = (length body ≡ dims) × Each (λ x. x < 2 ^ level) body

-- zeros at the place and at all places below it
abbrev pub HasZerosFrom : ℕ → List ℕ → Type 0
HasZerosFrom place body = Each (λ x. x % 2 ^ (place + 1) ≡ 0) body

-- lawful entries of a node at a level, whose addresses rise from `least` on; values have at most 64 binary digits
abbrev pub IsLawfulFrom : ℕ → ℕ → ℕ → Entries → Type 0
IsLawfulFrom dims level least end = Unit {0}
IsLawfulFrom dims level least (point a body v rest) =
    (least ≤ a) × (a < 2 ^ dims) × IsBody dims level body × IsLawfulFrom dims level (a + 1) rest × (v < 2 ^ 64)
IsLawfulFrom dims level least (child a body below chain rest) =
    (least ≤ a) × (a < 2 ^ dims) × IsBody dims level body × (below < level) × HasZerosFrom below body × (2 ≤ count chain)
    × IsLawfulFrom dims below 0 chain × IsLawfulFrom dims level (a + 1) rest

-- what a lawful entry of a node at a level holds behind its body
abbrev pub IsLawfulWhat : ℕ → ℕ → List ℕ → What → Type 0
IsLawfulWhat dims level body (value v) = v < 2 ^ 64
IsLawfulWhat dims level body (node n) =
    (n.level < level) × HasZerosFrom n.level body × (2 ≤ count n.chain) × IsLawfulFrom dims n.level 0 n.chain

-- a lawful entry of a node at a level
pub record IsLawfulEntry (dims level : ℕ) (e : Entry) : Type 0 where
  pub address : e.addr < 2 ^ dims
  pub body : IsBody dims level e.body
  pub held : IsLawfulWhat dims level e.body e.what

-- a lawful root: its level is the highest place, and it has an entry. Nothing at all is lawful too
abbrev pub IsLawful : ℕ → ℕ → Option PlainNode → Type 0
IsLawful width dims None = Unit {0}
IsLawful width dims (Some n) = (n.level ≡ width - 1) × (1 ≤ count n.chain) × IsLawfulFrom dims n.level 0 n.chain

-- digits that are known above a level: a number for each dimension, with zeros from the level down
pub record IsAbove (dims level : ℕ) (above : List ℕ) : Type 0 where
  pub long : length above ≡ dims
  pub zeros : HasZerosFrom level above
