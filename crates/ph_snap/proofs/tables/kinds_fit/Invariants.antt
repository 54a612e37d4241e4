use Rattle.std.proofs.Common.{◌≡◌, ◌+◌, ◌-◌, ◌*◌, ◌≤◌}
use Rattle.std.specs.Prelude.{count_by, nat_le, nat_lt, ◌==◌}
use Rattle.std.specs.List.{list_all}
use Rattle.ph_bits.specs.Fields.{digits_row}
use Rattle.ph_snap.proofs.tables.kinds_fit.Given as goal

abbrev pub invariant-loop-i : goal.invariant-loop-i
invariant-loop-i l = record {
  known : list_all (λ k. nat_le k 2) (digits_row l.words (64 + l.i * 2) 2 (l.places - l.i)) ≡ list_all (λ k. nat_le k 2) (digits_row l.words 64 2 l.places);
  all : l.entries + count_by (λ k. nat_lt 0 k) (digits_row l.words (64 + l.i * 2) 2 (l.places - l.i)) ≡ count_by (λ k. nat_lt 0 k) (digits_row l.words 64 2 l.places);
  below : l.children + count_by (λ k. k == 2) (digits_row l.words (64 + l.i * 2) 2 (l.places - l.i)) ≡ count_by (λ k. k == 2) (digits_row l.words 64 2 l.places);
  few : l.entries ≤ l.i;
  fewer : l.children ≤ l.i;
}
