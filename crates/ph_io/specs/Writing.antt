-- What a failed write leaves.
use Rattle.std.specs.Prelude.{◌<◌, ℕ, List, length, take}
use Rattle.ph_io.specs.Giving.{Taken, Given}

-- less than the whole piece was written, from its front
pub record WritesFront (old new : Taken) (piece : List ℕ) : Type 0 where
  pub count : ℕ
  pub short : count < length piece
  pub told : Given old new (take count piece)
