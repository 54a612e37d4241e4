-- What is shown of what an entry holds.
use Rattle.std.specs.Prelude.{◌≡◌, ℕ, Option, Some, None}
use denote.Ref.{Bor}
use Rattle.ph_specs.specs.Node.{PlainNode}
use Rattle.ph_model.specs.EntryList.{What, value, node}

-- a point's value, and of a child nothing
abbrev pub IsValue : What → Option ℕ → Type 0
IsValue (value v) shown = shown ≡ Some v
IsValue (node n) shown = shown ≡ None

-- a child, and of a point nothing
abbrev pub IsChild : What → Option (Bor PlainNode) → Type 0
IsChild (value v) None = Unit {0}
IsChild (value v) (Some shown) = ⊥
IsChild (node n) None = ⊥
IsChild (node n) (Some shown) = shown.now ≡ n
