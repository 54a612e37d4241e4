-- The addresses of the entries of a lawful node rise.
use Rattle.std.proofs.Common.{ℕ, ◌+◌, ◌≤◌, List, [], ◌∷◌}
use Rattle.ph_specs.specs.Node.{Entries, end, point, child}
use Rattle.ph_model.specs.EntryList.{Entry, listed}
use Rattle.ph_model.specs.Lawful.{IsLawfulFrom}

abbrev pub Rising : ℕ → List Entry → Type 0
Rising least [] = Unit {0}
Rising least (e ∷ es) = (least ≤ e.addr) × Rising (e.addr + 1) es

pub lawful-rising : (dims b least : ℕ) (e : Entries) → IsLawfulFrom dims b least e → Rising least (listed e)
lawful-rising dims b least end h = tt
lawful-rising dims b least (point a body v rest) h = (h.0, lawful-rising dims b (a + 1) rest h.3)
lawful-rising dims b least (child a body c chain rest) h = (h.0, lawful-rising dims b (a + 1) rest h.7)
