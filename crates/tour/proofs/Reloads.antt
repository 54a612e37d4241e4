-- What a snapshot is read as.
use Rattle.std.proofs.Common.{◌≡◌, ℕ, ◌≤◌, true, List, [], ◌∷◌, refl, le-leb, arith}
use Rattle.std.specs.Prelude.{Ok}
use Rattle.ph_specs.specs.declared.Kind.{Kind}
use Rattle.ph_specs.specs.KindRows.{rows_fit}
use Rattle.ph_specs.specs.SavedTable.{read_snapshot}
use Rattle.ph_specs.specs.Snapshot.{snap}
use Rattle.ph_specs.specs.Table.{Row, IsTable}
use Rattle.ph_model.proofs.laws.Loads.{snap-read}
use Rattle.ph_specs.proofs.laws.Put.{and}

points-fit : (rows : List Row) → rows_fit Kind.Points rows ≡ true
points-fit [] = refl
points-fit (r ∷ rows) = points-fit rows

-- the table that is read of a snapshot of points is the one that it is of
pub table_read : (w v : ℕ) (bytes : List ℕ) (saved read : List Row) → v ≡ w → 1 ≤ v → v ≤ 62 → IsTable w 2 saved →
    bytes ≡ snap Kind.Points 2 w saved → read_snapshot Kind.Points 2 v bytes ≡ Ok read → read ≡ saved
table_read w v bytes saved read same low high h is e =
    let l : 1 ≤ w = omega (arith, same, low) in
    let u : w ≤ 62 = omega (arith, same, high) in
    let k : read_snapshot Kind.Points 2 w (snap Kind.Points 2 w saved) ≡ Ok saved = snap-read Kind.Points 2 w saved
    refl (and _ _ (le-leb 1 w l) (le-leb w 62 u)) h (points-fit saved) in
    let f : read_snapshot Kind.Points 2 v bytes ≡ Ok saved = rw (same, is) k in
    cc
