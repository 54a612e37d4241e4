-- What sinks and files tell, whatever they are.
use Rattle.std.specs.Prelude.{ℕ, Bool}
use Rattle.ph_io.specs.declared.files.Files.{Ghosts as FilesTell}
use Rattle.ph_io.specs.declared.streams.Sink.{Ghosts as SinkTells}
use Rattle.ph_commands.specs.Told.{taken_by}
use Rattle.ph_slot.specs.Beside.{Beside, alone, aside, beside}
use Rattle.ph_slot.specs.Drafting.{Drafted, drafted}

abbrev pub alone_by : {O : Type 0} → SinkTells O → O → ℕ → ℕ → Beside
alone_by sink out visits changes = alone (taken_by sink out) visits changes

module _ {F : Type 0} (store : FilesTell F) where
  -- a sink over the files, by its loan of them, the writes that came late, and whether none has failed
  abbrev pub drafted_by : ℕ → F → ℕ → Bool → Drafted
  drafted_by loan files late works = drafted loan (store.files files) (store.draft files) (store.faults files) late works

  abbrev pub aside_by : F → ℕ → ℕ → Beside
  aside_by files visits changes = aside (store.files files) (store.faults files) visits changes

module _ {O F : Type 0} (sink : SinkTells O) (store : FilesTell F) where
  abbrev pub beside_by : O → F → ℕ → ℕ → Beside
  beside_by out files visits changes = beside (sink.written out) (sink.amount out) (store.files files) (store.faults files) visits changes
