-- A tree that is made of two.
use Rattle.std.specs.Prelude.{◌≡◌, ◌↔◌, ◌<◌, ◌≤◌, ℕ, List, [], ◌∷◌, length, Option, Some, None}
use Rattle.ph_specs.specs.Sets.{union, common, minus}
use Rattle.ph_specs.specs.Table.{Row}
use Rattle.ph_c.specs.declared.combining.Operation.{Operation}
use Rattle.ph_c.specs.declared.combining.Operation.TheVariants.{Union, Common, Minus}
use Rattle.ph_c.specs.declared.trees.Tree.{Tree}
use Rattle.ph_c.specs.Trees.{AnyTable, table_at}
use Rattle.ph_c.specs.Answers.{IsOneOf, no_tree}
use Rattle.ph_c.specs.Answers as code

-- what a call makes of two trees, and that without one of them it says so and is idle
abbrev pub Combines : Option AnyTable → Option AnyTable → ℕ → Type 0 → (AnyTable → AnyTable → Type 0) → Type 0
Combines None b answer idle makes = (answer ≡ no_tree) × idle
Combines (Some t) None answer idle makes = (answer ≡ no_tree) × idle
Combines (Some t) (Some u) answer idle makes = makes t u

-- one of two handles has no tree
abbrev pub LackOne : Option Tree → Option Tree → Type 0
LackOne None b = Unit {0}
LackOne (Some t) None = Unit {0}
LackOne (Some t) (Some u) = ⊥

-- two trees are of the same dimensions and width
abbrev pub AreAlike : AnyTable → AnyTable → Type 0
AreAlike t u = (t.dims ≡ u.dims) × (t.tree.width ≡ u.tree.width)

-- a tree like another, of other rows and for as many at most
abbrev pub with_rows : AnyTable → List Row → ℕ → AnyTable
with_rows t rows most = table_at t.dims (record { table = rows; width = t.tree.width; max = most })

abbrev pub union_rows : AnyTable → AnyTable → List Row
union_rows t u = union t.tree.width t.tree.table u.tree.table

-- the tree of the rows of both
pub record IsUnion (t u : AnyTable) (most : ℕ) (made : AnyTable) : Type 0 where
  pub alike : AreAlike t u
  pub fits : length (union_rows t u) ≤ most
  pub is : made ≡ with_rows t (union_rows t u) most

-- why there is none
pub record NoUnion (t u : AnyTable) (most answer : ℕ) : Type 0 where
  pub known : IsOneOf (code.unlike ∷ code.full ∷ code.no_memory ∷ []) answer
  pub unlike : (answer ≡ code.unlike) ↔ (AreAlike t u → ⊥)
  pub full : answer ≡ code.full → AreAlike t u × (most < length (union_rows t u))
  pub no_memory : answer ≡ code.no_memory → AreAlike t u

-- the tree of these rows of the first, for as many as it may have
pub record IsPart (rows : List Row) (t u made : AnyTable) : Type 0 where
  pub alike : AreAlike t u
  pub is : made ≡ with_rows t rows t.tree.max

-- why there is none
pub record NoPart (t u : AnyTable) (answer : ℕ) : Type 0 where
  pub known : IsOneOf (code.unlike ∷ code.no_memory ∷ []) answer
  pub unlike : (answer ≡ code.unlike) ↔ (AreAlike t u → ⊥)
  pub no_memory : answer ≡ code.no_memory → AreAlike t u

-- what an operation makes
abbrev pub IsCombined : Operation → AnyTable → AnyTable → AnyTable → Type 0
IsCombined (Union most) t u made = IsUnion t u most made
IsCombined Common t u made = IsPart (common t.tree.table u.tree.table) t u made
IsCombined Minus t u made = IsPart (minus t.tree.table u.tree.table) t u made

-- why it makes none
abbrev pub NotCombined : Operation → AnyTable → AnyTable → ℕ → Type 0
NotCombined (Union most) t u answer = NoUnion t u most answer
NotCombined Common t u answer = NoPart t u answer
NotCombined Minus t u answer = NoPart t u answer
