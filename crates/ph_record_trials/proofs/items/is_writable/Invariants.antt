use Rattle.std.proofs.Common.{◌≡◌, ◌≤◌, ◌^◌, length, drop}
use Rattle.ph_specs.specs.Pack.{children}
use Rattle.ph_model.specs.Layout.{AreRising}
use Rattle.ph_record_trials.specs.Listed.{flats}
use Rattle.ph_record_trials.proofs.items.is_writable.Given as goal

abbrev pub invariant-loop-i : goal.invariant-loop-i
invariant-loop-i l =
    record {
      few : l.i ≤ length l.fn.items;
      limit : l.next ≤ 2 ^ l.fn.dims;
      bottom : l.fn.level ≡ 0 → children (drop l.i (flats l.fn.dims l.fn.items)) ≡ 0;
      rising : AreRising l.fn.dims l.fn.level l.next (drop l.i (flats l.fn.dims l.fn.items));
    }

abbrev pub decreases-loop-i : goal.decreases-loop-i
decreases-loop-i l = l.i
