-- What stands on a desk, and what stays there.
use Rattle.std.specs.Prelude.{◌≡◌}
use Rattle.ph_io.specs.declared.files.Files.{Ghosts as FilesTell}
use Rattle.ph_io.specs.declared.streams.Sink.{Ghosts as SinkTells}
use Rattle.ph_slot.specs.Beside.{Beside}
use Rattle.ph_slot.specs.Told.{aside_by, beside_by}
use Rattle.ph_slot.specs.declared.desk.Desk.{Desk}

module _ {O F V C : Type 0} (sink : SinkTells O) (store : FilesTell F) where
  abbrev pub beside_at : Desk O F V C → Beside
  beside_at d = beside_by sink store d.out.now d.files.now d.visits.now d.changes.now

-- the same without the sink
abbrev pub aside_at : {O F V C : Type 0} → FilesTell F → Desk O F V C → Beside
aside_at store d = aside_by store d.files.now d.visits.now d.changes.now

-- It lends the same things, with the same limits.
pub record SameDesk {O F V C : Type 0} (a b : Desk O F V C) : Type 0 where
  pub out : b.out.ghost_name ≡ a.out.ghost_name
  pub files : b.files.ghost_name ≡ a.files.ghost_name
  pub visits : b.visits.ghost_name ≡ a.visits.ghost_name
  pub changes : b.changes.ghost_name ≡ a.changes.ghost_name
  pub limits : b.limits.now ≡ a.limits.now
