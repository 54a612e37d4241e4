-- Edits that are kept and taken back.
use Rattle.std.specs.Prelude.{◌≡◌, ◌<◌, ◌≤◌, min, ℕ, ◌+◌, ◌*◌, Result, Ok, Err}
use Rattle.ph_specs.specs.Past.{keep, back}
use Rattle.ph_specs.specs.Reply.{Reply}
use Rattle.ph_script.specs.declared.reply.Reply.{Reply as Told}
use Rattle.ph_script.specs.Meaning.{reply_of}
use Rattle.ph_commands.specs.Differing.{back_visits}
use Rattle.ph_commands.specs.Tables.{AnyTable, table_at}

-- from now on so many edits are kept, or memory is missing for some
abbrev pub KeepsOr : {E : Type 0} → AnyTable → ℕ → AnyTable → Result Told E → Type 0
KeepsOr t n now (Ok reply) = (now ≡ table_at t.dims (keep t.tree n)) × (reply_of reply ≡ Reply.Keeping n)
KeepsOr t n now (Err error) = (now ≡ t) × (0 < n)

-- so many edits were taken back, each by at least one change, and so many were begun
pub record WentBack (t : AnyTable) (n begun : ℕ) (now : AnyTable) (visits now_visits changes now_changes : ℕ) : Type 0 where
  pub state : now ≡ table_at t.dims (back t.tree n)
  pub few_visits : now_visits ≤ visits + min (back_visits t.tree.width t.dims t.tree.table t.tree.past begun) (5 * t.tree.width * begun)
  pub later : visits ≤ now_visits
  pub few_changes : now_changes ≤ changes + 4 * n
  pub made : changes + n ≤ now_changes

-- the same of some of as many as were asked for, and not of all
pub record WentPartBack (t : AnyTable) (asked : ℕ) (now : AnyTable) (visits now_visits changes now_changes : ℕ) : Type 0 where
  pub part : ℕ
  pub fewer : part < asked
  pub went : WentBack t part (part + 1) now visits now_visits changes now_changes

-- so many edits were taken back, or fewer where memory is missing
abbrev pub GoesBackOr : {E : Type 0} → AnyTable → ℕ → AnyTable → ℕ → ℕ → ℕ → ℕ → Result Told E → Type 0
GoesBackOr t n now visits now_visits changes now_changes (Ok reply) =
    WentBack t n n now visits now_visits changes now_changes × (reply_of reply ≡ Reply.WentBack n)
GoesBackOr t n now visits now_visits changes now_changes (Err error) = WentPartBack t n now visits now_visits changes now_changes
