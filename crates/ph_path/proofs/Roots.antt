-- The root of a tree, as a walk is handed it.
use Rattle.std.proofs.Common.{◌≡◌, ℕ, ◌≤◌, List, sym, subst, arith}
use Rattle.std.specs.Prelude.{ℤ, Option}
use Rattle.ph_specs.specs.Coordinate.{IsPoint}
use Rattle.ph_model.specs.Lawful.{IsLawful}
use Rattle.ph_specs.specs.Node.{PlainNode}
use Rattle.ph_specs.specs.Shape.{shape}
use Rattle.ph_specs.specs.Table.{Row, IsTable}
use Rattle.ph_model.proofs.laws.TableShape.{table-shape}

pub shape-lawful : (d w u : ℕ) (o : Option PlainNode) (table : List Row) → 1 ≤ w → w ≡ u → IsTable u d table → o ≡ shape u table → IsLawful w d o
shape-lawful d w u o table l e h f =
    subst (λ n. IsLawful n d o) (sym e) (subst (IsLawful u d) (sym f) (table-shape u d table (omega (arith, l, e)) h).0)

pub same-point : (w u d : ℕ) (p q : List ℤ) → w ≡ u → p ≡ q → IsPoint u d q → IsPoint w d p
same-point w u d p q e f h = subst (λ n. IsPoint n d p) (sym e) (subst (IsPoint u d) (sym f) h)
