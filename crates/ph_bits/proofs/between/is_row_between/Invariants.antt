use Rattle.std.proofs.Common.{◌≡◌, drop, length}
use Rattle.ph_specs.specs.TreeRows.{put_together}
use Rattle.ph_model.specs.PutTree.{body_above}
use Rattle.ph_bits.specs.Between.{each_between}
use Rattle.ph_bits.specs.Fields.{digits_row}
use Rattle.ph_bits.proofs.between.is_row_between.Given as goal

abbrev pub invariant-loop-i : goal.invariant-loop-i
invariant-loop-i l =
    let whole = put_together l.level l.addr (body_above l.level l.known) (digits_row l.words l.at l.level (length l.known)) in
    each_between (drop l.i l.low) (drop l.i l.high) (drop l.i whole) ≡ each_between l.low l.high whole
