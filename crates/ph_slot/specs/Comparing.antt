-- Both slots of an engine beside each other.
use Rattle.std.specs.Prelude.{◌≡◌, ℕ, Bool, if◌then◌else◌}
use Rattle.ph_specs.specs.Reply.{Reply}
use Rattle.ph_specs.specs.State.{Engine}
use Rattle.ph_commands.specs.Comparing.{IsCompared}

-- the same of the slots of an engine, with the reply that it has
abbrev pub Compares : Engine → ℕ → ℕ → Reply → Type 0
Compares e visits now_visits reply = (result : Bool) × IsCompared e.a e.b visits now_visits result × (reply ≡ (if result then Reply.Same else Reply.Differ))
