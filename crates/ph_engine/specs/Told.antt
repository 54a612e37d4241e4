-- What sources, sinks and files tell of a run, whatever they are.
use Rattle.std.specs.Prelude.{ℕ}
use Rattle.ph_io.specs.declared.files.Files.{Ghosts as FilesTell}
use Rattle.ph_io.specs.declared.streams.Sink.{Ghosts as SinkTells}
use Rattle.ph_io.specs.declared.streams.Source.{Ghosts as SourceTells}
use Rattle.ph_specs.specs.State.{Engine}
use Rattle.ph_slot.specs.declared.desk.Desk.{Desk}
use Rattle.ph_engine.specs.Seen.{Seen, seen}
use Rattle.ph_engine.specs.Standing.{Standing, standing}

module _ {O F : Type 0} (sink : SinkTells O) (store : FilesTell F) where
  abbrev pub standing_by : O → F → ℕ → ℕ → Engine → Standing
  standing_by out files visits changes engine =
      standing (sink.written out) (sink.amount out) (store.files files) (store.faults files) visits changes engine

  abbrev pub standing_at : {V C : Type 0} → Desk O F V C → Engine → Standing
  standing_at d = standing_by d.out.now d.files.now d.visits.now d.changes.now

module _ {S O F : Type 0} (source : SourceTells S) (sink : SinkTells O) (store : FilesTell F) where
  abbrev pub seen_by : S → O → F → ℕ → ℕ → Engine → Seen
  seen_by src out files visits changes engine =
      seen (source.left src) (source.faults src) (sink.written out) (sink.amount out) (sink.faults out) (store.files files) (store.faults files) visits changes engine
