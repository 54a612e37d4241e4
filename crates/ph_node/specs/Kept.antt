-- What every node keeps, whatever its children are.
use Rattle.std.specs.Prelude.{ℕ, ◌+◌, ◌^◌, ◌<◌, ◌≤◌, List, [], ◌∷◌}
use Rattle.ph_specs.specs.Node.{PlainNode}
use Rattle.ph_model.specs.EntryList.{Entry, entries}
use Rattle.ph_model.specs.Lawful.{IsBody}

-- entries of a node at a level, whose addresses rise from `least` on and have a digit for each dimension
abbrev pub AreKept : ℕ → ℕ → ℕ → List Entry → Type 0
AreKept dims level least [] = Unit {0}
AreKept dims level least (e ∷ es) =
    (least ≤ e.addr) × (e.addr < 2 ^ dims) × IsBody dims level e.body × AreKept dims level (e.addr + 1) es

-- a level and entries that a node may have
pub record IsKept (dims level : ℕ) (es : List Entry) : Type 0 where
  pub some : 1 ≤ dims
  pub few : dims ≤ 16
  pub low : level ≤ 61
  pub rise : AreKept dims level 0 es

abbrev pub IsNodeOf : ℕ → PlainNode → Type 0
IsNodeOf dims n = IsKept dims n.level (entries n)
