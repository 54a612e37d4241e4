-- Bodies as code keeps them.
use Rattle.std.specs.Prelude.{◌≡◌, ℕ, ◌-◌, List, ◌++◌, take, replicate}
use Rattle.ph_model.specs.Lawful.{IsBody}

-- 16 numbers, those behind the dimensions zeros
abbrev pub IsFilled : ℕ → List ℕ → Type 0
IsFilled dims body = body ≡ take dims body ++ replicate (16 - dims) 0

-- a body of so many dimensions at a level, and zeros behind it
pub record IsBodyArray (dims level : ℕ) (body : List ℕ) : Type 0 where
  pub fields : IsBody dims level (take dims body)
  pub filled : IsFilled dims body
