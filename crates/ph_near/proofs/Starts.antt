-- The search of a table by that of its shape, and the point that is asked by its offsets.
use Rattle.std.proofs.Common.{◌≡◌, ℕ, ◌≤◌, sym, ◌∙◌, ap, subst, arith, List, map}
use Rattle.std.specs.Prelude.{ℤ, Option}
use Rattle.ph_specs.specs.Coordinate.{coordinate, offset, IsPoint}
use Rattle.ph_specs.specs.Table.{Row, IsTable}
use Rattle.ph_specs.specs.Node.{PlainNode}
use Rattle.ph_specs.specs.Shape.{shape}
use Rattle.ph_specs.specs.TreeRows.{rows}
use Rattle.ph_model.specs.Lawful.{IsBody, IsLawful}
use Rattle.ph_specs.specs.Distance.{near}
use Rattle.ph_specs.specs.WorkSets.{Placed, reach}
use Rattle.ph_model.proofs.lemmas.PointDigits.{point-whole}
use Rattle.ph_model.proofs.laws.TableShape.{table-shape}
use Rattle.ph_zorder.proofs.Decided.{is_body-point}
use Rattle.ph_table.specs.Hits.{TableHit, hits_of}

module _ (w u d n : ℕ) (root : Option PlainNode) (table : List Row) (q : List ℤ) (os : List ℕ) (l : 1 ≤ w) (e : w ≡ u)
    (s : root ≡ shape u table) (t : IsTable u d table) (p : IsPoint u d q) (o : os ≡ map (offset w) q) where
  wide : 1 ≤ u
  wide = omega (arith, l, e)

  point-here : IsPoint w d q
  point-here = subst (λ v. IsPoint v d q) (sym e) p

  pub root-lawful : IsLawful w d root
  root-lawful =
      subst (λ v. IsLawful v d root) (sym e) (subst (IsLawful u d) (sym s) (table-shape u d table wide t).0)

  pub center-body : IsBody d w os
  center-body = subst (IsBody d w) (sym o) (is_body-point w d q l point-here)

  center-is : map (coordinate w) os ≡ q
  center-is = ap (map (coordinate w)) o ∙ (point-whole w d q point-here).back

  rows-are : rows w d root ≡ table
  rows-are = ap (λ v. rows v d root) e ∙ ap (rows u d) s ∙ (table-shape u d table wide t).1

  pub near-table : hits_of (map (coordinate w) os) (near (map (coordinate w) os) n (rows w d root)) ≡ hits_of q (near q n table)
  near-table =
      ap {B = List TableHit} (λ c. hits_of c (near c n (rows w d root))) center-is ∙ ap {B = List TableHit} (λ r. hits_of q (near q n r)) rows-are

  pub reach-table : reach w d (rows w d root) (map (coordinate w) os) n ≡ reach u d table q n
  reach-table =
      ap {B = List Placed} (λ v. reach v d (rows w d root) (map (coordinate w) os) n) e
      ∙ ap {B = List Placed} (λ r. reach u d r (map (coordinate w) os) n) rows-are
      ∙ ap {B = List Placed} (λ c. reach u d table c n) center-is
