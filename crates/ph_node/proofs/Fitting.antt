-- Entries that rise are few enough for a record.
use Rattle.std.proofs.Common.{ℕ, ◌+◌, ◌^◌, ◌≤◌, List, [], ◌∷◌, length, arith}
use Rattle.ph_specs.specs.Node.{Flat}
use Rattle.ph_model.specs.Layout.{AreRising}

few-from : (dims level least : ℕ) (es : List Flat) → least ≤ 2 ^ dims → AreRising dims level least es → length es + least ≤ 2 ^ dims
few-from dims level least [] l h = omega (arith, l)
few-from dims level least (e ∷ es) l h = omega (arith, h.0, few-from dims level (e.addr + 1) es (omega (arith, h.1)) h.3)

pub few : (dims level : ℕ) (es : List Flat) → AreRising dims level 0 es → length es ≤ 2 ^ dims
few dims level es h = omega (arith, few-from dims level 0 es (omega arith) h)
