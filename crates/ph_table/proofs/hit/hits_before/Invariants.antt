use Rattle.std.proofs.Common.{◌≡◌, ◌≤◌, take}
use Rattle.std.specs.List.{AllByRecursion}
use Rattle.ph_table.proofs.hit.hits_before.Given as goal

abbrev pub invariant-loop-hit : goal.invariant-loop-hit
invariant-loop-hit g l = record {
  place : l.place ≡ l.hit-index;
  nearer : AllByRecursion (λ h. h.distance ≤ l.distance) (take l.place l.hits);
}
