-- The visits that a call counts.
use Rattle.std.specs.Prelude.{◌≡◌, ℕ, ◌+◌, ◌≤◌, Result, OnOk}

-- exactly so many where it ends well, and at most so many else. `before` and `after` are what was counted then
pub record Visits {T E : Type 0} (result : Result T E) (work before after : ℕ) : Type 0 where
  pub all : OnOk result (after ≡ before + work)
  pub most : after ≤ before + work
