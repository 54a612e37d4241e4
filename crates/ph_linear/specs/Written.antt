-- The columns of a linear record as fields.
use Rattle.std.specs.Prelude.{ℕ, List, map}
use Rattle.ph_specs.specs.Node.{Flat}
use Rattle.ph_specs.specs.Digits.{Field, field}
use Rattle.ph_specs.specs.Pack.{child_mark}

-- the kinds
abbrev pub kind_fields : List Flat → List Field
kind_fields es = map (λ e. field 1 (child_mark e.value)) es

-- the addresses
abbrev pub address_fields : ℕ → List Flat → List Field
address_fields dims es = map (λ e. field dims e.addr) es

-- the bodies
abbrev pub body_list : List Flat → List (List ℕ)
body_list es = map (λ e. e.body) es
