-- Calls that open a tree with rows in a handle.
use Rattle.std.specs.Prelude.{◌≡◌, ◌≢◌, ◌↔◌, ℕ, [], ◌∷◌, Option, Some, Result, Ok, Err, MatchResult}
use Rattle.std.specs.Global.{Box}
use Rattle.ph_c.specs.declared.trees.Tree.{Tree}
use Rattle.ph_c.specs.Trees.{AnyTable, any_table}
use Rattle.ph_c.specs.Opens.{AreDimensions, IsWidth}
use Rattle.ph_c.specs.Answers.{IsOneOf}
use Rattle.ph_c.specs.Answers as code

-- A call that opens a tree of which `Made` holds in place of the one that stood in the handle, or answers with another number, of which `Refused`
-- holds, and leaves it. `was` is what stood in the handle before it, and `now` what stands there then.
pub record Opening (Made : AnyTable → Type 0) (Refused : ℕ → Type 0) (was now : Option AnyTable) (answer : ℕ) : Type 0 where
  pub opened : answer ≡ code.done → (made : AnyTable) × (now ≡ Some made) × Made made
  pub refused : answer ≢ code.done → Refused answer
  pub stays : answer ≢ code.done → now ≡ was

-- a tree, or the answer why there is none
abbrev pub MadeOr : (AnyTable → Type 0) → (ℕ → Type 0) → Result Tree ℕ → Type 0
MadeOr Made Refused result = MatchResult result (λ t. Made (any_table t)) Refused

-- the same of a tree in a box
abbrev pub BoxedOr : (AnyTable → Type 0) → (ℕ → Type 0) → Result (Box Tree) ℕ → Type 0
BoxedOr Made Refused result = MatchResult result (λ b. Made (any_table b.value)) Refused

-- a handle has the tree that was made, and else what it had, and the answer says so
abbrev pub GivenOr : Result (Box Tree) ℕ → Option Tree → Option Tree → ℕ → Type 0
GivenOr (Ok b) was now answer = (now ≡ Some b.value) × (answer ≡ code.done)
GivenOr (Err e) was now answer = (now ≡ was) × (answer ≡ e)

-- the answer is that one of these numbers is out of range, the dimensions first
pub record NoFrame (dims width answer : ℕ) : Type 0 where
  pub known : IsOneOf (code.no_dimensions ∷ code.no_width ∷ []) answer
  pub no_dimensions : (answer ≡ code.no_dimensions) ↔ (AreDimensions dims → ⊥)
  pub no_width : (answer ≡ code.no_width) ↔ (AreDimensions dims × (IsWidth width → ⊥))
