-- What sinks and files tell, whatever they are.
use Rattle.ph_io.specs.Giving.{Taken, taken_of}
use Rattle.ph_io.specs.declared.files.Files.{Ghosts as FilesTell}
use Rattle.ph_io.specs.declared.streams.Sink.{Ghosts as SinkTells}
use Rattle.ph_commands.specs.Shelves.{Shelf, shelf}

abbrev pub taken_by : {O : Type 0} → SinkTells O → O → Taken
taken_by sink out = taken_of (sink.written out) (sink.amount out)

abbrev pub shelf_by : {F : Type 0} → FilesTell F → F → Shelf
shelf_by store files = shelf (store.files files) (store.draft files) (store.faults files) (store.is_begun files)
