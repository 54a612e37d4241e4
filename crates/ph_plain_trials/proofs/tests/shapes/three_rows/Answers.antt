use Rattle.std.proofs.Common.{◌≡◌, ℕ, [], ◌∷◌, refl, sym, subst, rules, pos}
use Rattle.ph_specs.specs.TableNames.{Row, row, IsTable}
use Rattle.ph_plain_trials.proofs.tests.shapes.three_rows.Goals as goal

abbrev first : Row
first = row (pos 0 ∷ pos 0 ∷ []) 1

abbrev second : Row
second = row (pos 0 ∷ pos 1 ∷ []) 3

abbrev third : Row
third = row (pos 1 ∷ pos 1 ∷ []) 2

three : (w : ℕ) (p q r : Row) → w ≡ 32 → p ≡ first → q ≡ second → r ≡ third → IsTable w 2 (p ∷ q ∷ r ∷ [])
three w p q r v h k m =
    subst (λ w. IsTable w 2 (p ∷ q ∷ r ∷ [])) (sym v)
    (subst (λ (p : Row). IsTable 32 2 (p ∷ q ∷ r ∷ [])) (sym h)
    (subst (λ (q : Row). IsTable 32 2 (first ∷ q ∷ r ∷ [])) (sym k)
    (subst (λ (r : Row). IsTable 32 2 (first ∷ second ∷ r ∷ [])) (sym m) refl)))

pub shape_of-requires : goal.shape_of-requires
shape_of-requires g c = (
  search rules,
  (
    search rules,
    (
      search rules,
      (
        search rules,
        three c.width-w.result c.row.result c.row-2.result c.row-3.result c.width-w.ensures
            c.row.ensures c.row-2.ensures c.row-3.ensures,
      ),
    ),
  ),
)
