use Rattle.std.proofs.Common.{◌≡◌, ◌≤◌}
use Rattle.ph_near.specs.Halves.{digits_sum}
use Rattle.ph_near.proofs.halves.HalvesDistances.least.Given as goal

abbrev pub invariant-loop-place : goal.invariant-loop-place
invariant-loop-place g l = record {
  within : l.place ≤ g.row.D;
  sum : l.sum ≡ digits_sum g.row.D l.self.low l.self.high 0 l.addr l.place;
}
