-- All that a call of the program can see and change, as its contract sees it.
use Rattle.std.specs.Prelude.{ℕ, List, Option}
use Rattle.ph_specs.specs.State.{Engine, Files}
use Rattle.ph_engine.specs.Standing.{Standing, standing}

-- the bytes still to come, how often reads and writes have failed, and the engine with what stands beside it
pub record Seen : Type 0 where
  pub left : Option (List ℕ)
  pub reads : ℕ
  pub writes : ℕ
  pub at : Standing

abbrev pub seen : Option (List ℕ) → ℕ → Option (List ℕ) → Option ℕ → ℕ → Option Files → ℕ → ℕ → ℕ → Engine → Seen
seen left reads written amount writes files filings visits changes engine =
    record { left = left; reads = reads; writes = writes; at = standing written amount files filings visits changes engine }
