use Rattle.std.proofs.Common.{◌≡◌, ◌+◌, ◌-◌, ◌*◌, ◌≤◌, drop, length}
use Rattle.ph_specs.specs.TreeRows.{put_together}
use Rattle.ph_model.specs.PutTree.{body_above}
use Rattle.ph_bits.specs.Apart.{squares_apart, greatest_square}
use Rattle.ph_bits.specs.Fields.{digits_row}
use Rattle.ph_bits.proofs.apart.row_distance.Given as goal

abbrev pub invariant-loop-i : goal.invariant-loop-i
invariant-loop-i l =
    let whole = put_together l.level l.addr (body_above l.level l.known) (digits_row l.words l.at l.level (length l.known)) in
    record {
      value : l.sum + squares_apart (drop l.i whole) (drop l.i l.others) ≡ squares_apart whole l.others;
      limit : l.sum + (length l.known - l.i) * greatest_square ≤ 16 * greatest_square;
      within : l.sum ≤ l.fn.limit;
    }
