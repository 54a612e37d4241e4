-- A page of a ball in arrays of a caller.
use Rattle.std.specs.Prelude.{◌≡◌, ◌≢◌, ◌↔◌, ◌+◌, ◌*◌, ◌^◌, ℕ, List, [], ◌∷◌, ℤ, Option, filter, map}
use Rattle.ph_specs.specs.Distance.{within}
use Rattle.ph_specs.specs.Table.{Row}
use Rattle.ph_specs.specs.Window.{is_after}
use Rattle.ph_table.specs.Hits.{TableHit}
use Rattle.ph_c.specs.Trees.{AnyTable}
use Rattle.ph_c.specs.Edits.{IsPointIn}
use Rattle.ph_c.specs.Windows.{IsLastIn, IsListed, Lent, last_of}
use Rattle.ph_c.specs.Answers.{IsOneOf}
use Rattle.ph_c.specs.Answers as code

-- the number of these two halves
abbrev pub number_of_halves : ℕ → ℕ → ℕ
number_of_halves low high = low + 2 ^ 64 * high

-- the rows of hits that come after the last one listed
abbrev pub behind : ℕ → Option (List ℤ) → List TableHit → List Row
behind width last hits = filter (λ r. is_after width last r.point) (map (λ h. h.row) hits)

-- the rows within a radius that come after the last one listed
abbrev pub ball_rest : AnyTable → List ℤ → ℕ → List ℤ → List Row
ball_rest t q radius last = filter (λ r. is_after t.tree.width (last_of last) r.point) (within q radius t.tree.table)

abbrev pub AreCenter : AnyTable → List ℤ → List ℤ → Type 0
AreCenter t q last = IsPointIn t q × IsLastIn t last

-- A page of a ball. The radius is squared.
pub record IsBall (t : AnyTable) (q : List ℤ) (radius : ℕ) (last : List ℤ) (before after : Lent) (answer : ℕ) : Type 0 where
  pub known : IsOneOf (code.done ∷ code.no_point ∷ []) answer
  pub no_point : (answer ≡ code.no_point) ↔ (AreCenter t q last → ⊥)
  pub listed : answer ≡ code.done → IsListed t.dims (ball_rest t q radius last) before after
  pub kept : answer ≢ code.done → after ≡ before
