-- What is left of a ball.
use Rattle.std.specs.Prelude.{ℕ, List}
use Rattle.ph_table.specs.Hits.{TableHit}

-- the rows that are still to be listed, with their distances, and how many nodes will be visited for them
pub record Listing : Type 0 where
  pub hits : List TableHit
  pub visits : ℕ
