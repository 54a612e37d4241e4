-- A point as a record keeps it.
use Rattle.std.specs.Prelude.{ℕ, List, Some}
use Rattle.ph_specs.specs.Node.{Flat}

abbrev pub point_flat : ℕ → List ℕ → ℕ → Flat
point_flat a body v = record { addr = a; body = body; value = Some v }
