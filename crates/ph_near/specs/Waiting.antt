-- What waits in a search, and what comes first of it.
use Rattle.std.specs.Prelude.{ℕ, ◌≤◌, List, ◌∷◌, Option, Some, None}
use Rattle.std.specs.declared.cmp.Ordering.{Ordering}
use Rattle.std.specs.Ordering.{nat_cmp, on, flip_args}
use Rattle.std.specs.Cmp.{IsTotalOrder, back_total, on_total, nat_cmp_total}
use Rattle.std.specs.List.{AllByRecursion as Each}
use Rattle.std.specs.List.Sorted.{IsPermutation}
use Rattle.ph_near.specs.declared.waiting.Waiting.{Waiting}

-- the nearer one is the greater one
abbrev pub waiting_cmp : Waiting → Waiting → Ordering
waiting_cmp = flip_args (on (λ i. i.distance) nat_cmp)

pub waiting_total : IsTotalOrder waiting_cmp
waiting_total = back_total (on_total (λ i. i.distance) nat_cmp_total)

-- what waits: an item that stands apart, if one does, before others
abbrev pub waiting_in : Option Waiting → List Waiting → List Waiting
waiting_in None others = others
waiting_in (Some x) others = x ∷ others

-- the nearest item within a limit leaves the others
pub record IsNext (limit : ℕ) (old : List Waiting) (item : Waiting) (new : List Waiting) : Type 0 where
  pub moved : IsPermutation old (item ∷ new)
  pub first : Each (λ i. item.distance ≤ i.distance) new
  pub within : item.distance ≤ limit
