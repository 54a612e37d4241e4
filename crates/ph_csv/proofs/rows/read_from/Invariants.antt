use Rattle.std.proofs.Common.{◌≡◌, ◌+◌, ◌≤◌, length}
use Rattle.std.specs.Prelude.{Some}
use Rattle.std.specs.List.{AllByRecursion as Each}
use Rattle.ph_specs.specs.Coordinate.{IsPoint, IsBox}
use Rattle.ph_specs.specs.declared.Kind.TheVariants.{Boxes}
use Rattle.ph_specs.specs.Csv.{read_records}
use Rattle.ph_csv.specs.Left.{IsReading, left_in, rest_in}
use Rattle.ph_csv.proofs.RowsSoFar.{rows_then}
use Rattle.ph_csv.proofs.rows.read_from.Given as goal

abbrev pub invariant-records : goal.invariant-records
invariant-records g l = record {
  reading : IsReading (λ s. Some s.now) l.reader;
  number : l.n + length (left_in (λ s. Some s.now) l.reader) ≤ l.first + length (left_in (λ s. Some s.now) l.initial.reader);
  rows : read_records l.w g.row.D l.kind l.first (rest_in (λ s. Some s.now) l.initial.reader) ≡
      rows_then l.rows.items (read_records l.w g.row.D l.kind l.n (rest_in (λ s. Some s.now) l.reader));
  points : Each (λ r. IsPoint l.w g.row.D r.point) l.rows.items;
  boxes : l.kind ≡ Boxes → Each (λ r. IsBox r.point) l.rows.items;
}

abbrev pub decreases-records : goal.decreases-records
decreases-records g l = length (left_in (λ s. Some s.now) l.reader)
