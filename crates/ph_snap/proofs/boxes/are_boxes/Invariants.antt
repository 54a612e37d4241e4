use Rattle.std.proofs.Common.{◌≡◌, drop}
use Rattle.std.specs.List.{list_all}
use Rattle.ph_specs.specs.Load.{known, box_fits}
use Rattle.ph_specs.specs.Record.{first_in, entries_in}
use Rattle.ph_snap.specs.RecordPlaces.{place_of}
use Rattle.ph_snap.proofs.boxes.are_boxes.Given as goal

abbrev pub invariant-loop-i : goal.invariant-loop-i
invariant-loop-i l =
    list_all (box_fits l.format.width (first_in l.words).level (known l.format.dims (place_of l.format.dims l.place))) (drop l.i (entries_in l.format.dims l.words))
    ≡ list_all (box_fits l.format.width (first_in l.words).level (known l.format.dims (place_of l.format.dims l.place))) (entries_in l.format.dims l.words)
