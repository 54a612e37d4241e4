use Rattle.std.proofs.Common.{◌≡◌, ◌<◌, ◌≤◌, ℕ, get_or, length}
use Rattle.ph_node.specs.Apart.{greatest_square}
use Rattle.ph_near.specs.Halves.{half_gap}
use Rattle.ph_near.proofs.halves.Halves.new.Given as goal

abbrev pub invariant-loop-i : goal.invariant-loop-i
invariant-loop-i g l = record {
  lows : length l.low ≡ g.row.D;
  highs : length l.high ≡ g.row.D;
  low : (j : ℕ) → j < l.i → get_or l.low j 0 ≡ half_gap l.level (get_or l.known j 0) 0 (get_or l.center j 0);
  high : (j : ℕ) → j < l.i → get_or l.high j 0 ≡ half_gap l.level (get_or l.known j 0) 1 (get_or l.center j 0);
  small_low : (j : ℕ) → j < l.i → get_or l.low j 0 ≤ greatest_square;
  small_high : (j : ℕ) → j < l.i → get_or l.high j 0 ≤ greatest_square;
}
