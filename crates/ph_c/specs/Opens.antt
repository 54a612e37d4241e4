-- What opens a tree, and what is told of one.
use Rattle.std.specs.Prelude.{◌≡◌, ◌≢◌, ◌↔◌, ◌≤◌, ℕ, [], ◌∷◌, length, Option, Some}
use Rattle.ph_c.specs.declared.frames.Frame.{Frame}
use Rattle.ph_c.specs.Trees.{AnyTable, empty_table}
use Rattle.ph_c.specs.Answers.{IsOneOf}
use Rattle.ph_c.specs.Answers as code

abbrev pub AreDimensions : ℕ → Type 0
AreDimensions dims = (1 ≤ dims) × (dims ≤ 16)

abbrev pub IsWidth : ℕ → Type 0
IsWidth width = (1 ≤ width) × (width ≤ 62)

-- An opening: `was` is what stood in the handle before it, and `now` what stands there then.
pub record IsOpen (dims width most : ℕ) (was now : Option AnyTable) (answer : ℕ) : Type 0 where
  pub known : IsOneOf (code.done ∷ code.no_dimensions ∷ code.no_width ∷ code.no_memory ∷ []) answer
  pub opened : answer ≡ code.done → now ≡ Some (empty_table dims width most)
  pub no_dimensions : (answer ≡ code.no_dimensions) ↔ (AreDimensions dims → ⊥)
  pub no_width : (answer ≡ code.no_width) ↔ (AreDimensions dims × (IsWidth width → ⊥))
  pub stays : answer ≢ code.done → now ≡ was

-- what a tree is for, and how many rows it has
pub record IsFrameOf (t : AnyTable) (frame : Frame) : Type 0 where
  pub dims : frame.dims ≡ t.dims
  pub width : frame.width ≡ t.tree.width
  pub most : frame.most ≡ t.tree.max
  pub rows : frame.rows ≡ length t.tree.table

-- a number is told
abbrev pub Tells : ℕ → ℕ → ℕ → Type 0
Tells number told answer = (answer ≡ code.done) × (told ≡ number)
