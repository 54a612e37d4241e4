-- The rows that are listed are the nearest ones of the table.
use Rattle.std.proofs.Common.{◌≡◌, ℕ, List, [], ◌∷◌, ap, sym, ◌∙◌, subst, refl}
use Rattle.std.specs.Prelude.{ℤ, Result, Ok, Err, IfOk}
use Rattle.std.proofs.lemmas.Bool.{and_parts}
use Rattle.ph_specs.specs.Distance.{near}
use Rattle.ph_model.specs.Nearness.{IsNearest}
use Rattle.ph_specs.specs.Table.{Row, IsTable}
use Rattle.ph_model.proofs.laws.Nearest.{near-nearest}
use Rattle.ph_table.specs.Hits.{TableHit, hits_of}
use Rattle.ph_near.specs.Nearest.{rows_hit}

rows-hit : (q : List ℤ) (rows : List Row) → rows_hit (hits_of q rows) ≡ rows
rows-hit q [] = refl
rows-hit q (r ∷ rows) = ap {B = List Row} (λ t. r ∷ t) (rows-hit q rows)

pub nearest-rows : {T E : Type 0} (items : T → List TableHit) (w d : ℕ) (q : List ℤ) (n : ℕ) (table : List Row)
    (result : Result T E) → IsTable w d table → IfOk result (λ hits. items hits ≡ hits_of q (near q n table)) →
    IfOk result (λ hits. IsNearest w q n table (rows_hit (items hits)))
nearest-rows items w d q n table (Ok hits) t h =
    subst (IsNearest w q n table) (sym (ap rows_hit h ∙ rows-hit q (near q n table))) (near-nearest w q n table (and_parts _ _ t).0)
nearest-rows items w d q n table (Err error) t h = h
