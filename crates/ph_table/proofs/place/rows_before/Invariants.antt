use Rattle.std.proofs.Common.{◌≡◌, ℕ, ◌-◌, ◌<◌, ◌≤◌, true, false, length, get_or}
use Rattle.ph_specs.specs.ZOrder.{before}
use Rattle.ph_specs.specs.Table.{Row}
use Rattle.ph_table.proofs.place.rows_before.Given as goal

abbrev pub invariant-loop-low : goal.invariant-loop-low
invariant-loop-low g l = record {
  ordered : l.low ≤ l.high;
  within : l.high ≤ length l.rows;
  earlier : (k : ℕ) (d : Row) → k < l.low → before l.w (get_or l.rows k d).point l.p ≡ true;
  later : (k : ℕ) (d : Row) → l.high ≤ k → k < length l.rows → before l.w (get_or l.rows k d).point l.p ≡ false;
}

abbrev pub decreases-loop-low : goal.decreases-loop-low
decreases-loop-low g l = l.high - l.low
