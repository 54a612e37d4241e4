use Rattle.std.proofs.Common.{◌≡◌, ℕ, ◌+◌, ◌*◌, ◌<◌, ◌≤◌, get_or, length}
use Rattle.ph_near.proofs.tables.double.Given as goal

abbrev pub invariant-loop-j : goal.invariant-loop-j
invariant-loop-j l = record {
  long : length l.sums ≡ length l.fn.sums;
  lows : (i : ℕ) → i < l.j → get_or l.sums (l.start + i) 0 ≡ get_or l.fn.sums (l.start + i) 0 + l.low;
  highs : (i : ℕ) → i < l.j → get_or l.sums (l.start + l.count + i) 0 ≡ get_or l.fn.sums (l.start + i) 0 + l.high;
  rest : (i : ℕ) → l.j ≤ i → i < l.count → get_or l.sums (l.start + i) 0 ≡ get_or l.fn.sums (l.start + i) 0;
  below : (i : ℕ) → i < l.start → get_or l.sums i 0 ≡ get_or l.fn.sums i 0;
  above : (i : ℕ) → l.start + 2 * l.count ≤ i → get_or l.sums i 0 ≡ get_or l.fn.sums i 0;
}
