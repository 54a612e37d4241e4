use Rattle.std.proofs.Common.{◌≤◌, ◌<◌, ℕ, slice_index_or}
use Rattle.ph_linear.specs.Linear.{addresses}
use Rattle.ph_linear.proofs.searches.near_place.Given as goal

abbrev pub invariant-loop-i : goal.invariant-loop-i
invariant-loop-i l = (j : ℕ) → l.fn.from ≤ j → j < l.i → slice_index_or (addresses l.fn.dims l.fn.words) j 0 < l.fn.addr
