use Rattle.std.proofs.Common.{◌≡◌, take, drop, length, replicate}
use Rattle.ph_specs.specs.TreeRows.{put_together}
use Rattle.ph_model.specs.PutTree.{body_above}
use Rattle.ph_bits.proofs.joins.join_address.Given as goal

abbrev pub invariant-loop-i : goal.invariant-loop-i
invariant-loop-i l = record {
  long : length l.known ≡ l.dims;
  made : take l.i l.known ≡ take l.i (put_together l.level l.addr (body_above l.level l.initial.known) (replicate l.dims 0));
  kept : drop l.i l.known ≡ drop l.i l.initial.known;
}
