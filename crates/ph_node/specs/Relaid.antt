-- When a record changes its layout.
use Rattle.std.specs.Prelude.{ℕ, ◌-◌, Bool, not, if◌then◌else◌}
use Rattle.ph_specs.specs.Pack.{is_cube}

-- whether one of two is true and the other is not
abbrev pub differ : Bool → Bool → Bool
differ a b = if a then not b else b

-- whether the record of a node at a level changes its layout when one of its n entries goes
abbrev pub is_relaid : ℕ → ℕ → ℕ → Bool
is_relaid dims level n = differ (is_cube dims level (n - 1)) (is_cube dims level n)
