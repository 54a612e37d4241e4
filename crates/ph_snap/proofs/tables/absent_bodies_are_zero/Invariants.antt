use Rattle.std.proofs.Common.{◌≡◌, ◌+◌, ◌-◌, ◌*◌}
use Rattle.ph_specs.specs.Record.{absent_are_zero}
use Rattle.ph_bits.specs.Fields.{digits_row}
use Rattle.ph_snap.specs.Columns.{body_rows}
use Rattle.ph_snap.proofs.tables.absent_bodies_are_zero.Given as goal

abbrev pub invariant-loop-i : goal.invariant-loop-i
invariant-loop-i l =
    absent_are_zero (digits_row l.words (64 + l.i * 2) 2 (l.places - l.i))
    (body_rows l.words (64 + l.places * 2 + l.i * (l.dims * l.level)) l.level l.dims (l.places - l.i))
    ≡ absent_are_zero (digits_row l.words 64 2 l.places) (body_rows l.words (64 + l.places * 2) l.level l.dims l.places)
