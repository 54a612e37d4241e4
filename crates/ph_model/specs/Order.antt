-- The Z-order as facts.
use Rattle.std.specs.Prelude.{ℕ, List, ℤ, IsTrue}
use Rattle.ph_specs.specs.ZOrder.{before}
use Rattle.ph_specs.specs.Table.{Row, is_rising}

-- whether p comes before q in Z-order, as a fact
abbrev pub IsBefore : ℕ → List ℤ → List ℤ → Type 0
IsBefore width p q = IsTrue (before width p q)

abbrev pub IsRising : ℕ → List Row → Type 0
IsRising width rows = IsTrue (is_rising width rows)
