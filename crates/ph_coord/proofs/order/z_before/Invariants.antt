use Rattle.std.proofs.Common.{◌≡◌, ◌≤◌}
use Rattle.ph_specs.specs.ZOrder.{before_below, before}
use Rattle.ph_coord.proofs.order.z_before.Given as goal

abbrev pub invariant-loop-place : goal.invariant-loop-place
invariant-loop-place g l = record {
  value : before_below l.place l.w l.p l.q ≡ before l.w l.p l.q;
  limit : l.place ≤ l.w;
}

abbrev pub decreases-loop-place : goal.decreases-loop-place
decreases-loop-place g l = l.place
