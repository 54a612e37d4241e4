-- Two slots that are compared.
use Rattle.std.specs.Prelude.{◌≡◌, ◌≤◌, ℕ, ◌+◌, Bool, true}
use Rattle.ph_specs.specs.Engine.{same_slots}
use Rattle.ph_specs.specs.State.{Slot}
use Rattle.ph_commands.specs.Working.{nodes_of}

-- Whether two slots are the same was found by visits of no more than all nodes of both, and of all where they are.
pub record IsCompared (a b : Slot) (visits now_visits : ℕ) (result : Bool) : Type 0 where
  pub same : result ≡ same_slots a b
  pub later : visits ≤ now_visits
  pub few : now_visits ≤ visits + (nodes_of a + nodes_of b)
  pub all : same_slots a b ≡ true → now_visits ≡ visits + (nodes_of a + nodes_of b)
