use Rattle.std.proofs.Common.{◌≡◌, ◌+◌, ◌-◌, ◌*◌}
use Rattle.ph_specs.specs.Record.{rises_from}
use Rattle.ph_bits.specs.Fields.{digits_row}
use Rattle.ph_snap.proofs.tables.addresses_rise.Given as goal

abbrev pub invariant-loop-i : goal.invariant-loop-i
invariant-loop-i l =
    rises_from l.least (digits_row l.words (l.at + l.i * l.width) l.width (l.count - l.i)) ≡ rises_from 0 (digits_row l.words l.at l.width l.count)
