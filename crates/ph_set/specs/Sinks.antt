-- What sinks of rows take.
use Rattle.std.specs.Prelude.{◌≡◌, ℕ, ◌+◌, ◌-◌, ◌≤◌, nat_lt, if◌then◌else◌, List, ◌++◌, length, Option, Some, None, vec_capacity}
use Rattle.std.specs.declared.vec.Vec.{Vec}
use Rattle.ph_specs.specs.Table.{Row}

-- Of some rows a sink has taken the first ones, and these are left. `adds` tells which rows it takes from one state to another
pub record AreTaken {S : Type 0} (adds : S → S → List Row → Type 0) (old new : S) (rows left : List Row) : Type 0 where
  pub taken : List Row
  pub adds_them : adds old new taken
  pub split : rows ≡ taken ++ left

-- a vector has rows behind those of before, and no less room
pub record HasKept {Z : Type 0} (old new : Vec Row Z) (rows : List Row) : Type 0 where
  pub items : new.items ≡ old.items ++ rows
  pub room : vec_capacity old ≤ vec_capacity new

-- so it is where it has room for them
abbrev pub Keeps : {Z : Type 0} → Vec Row Z → Vec Row Z → List Row → Type 0
Keeps old new rows = length old.items + length rows ≤ vec_capacity old → HasKept old new rows

-- how many more rows may come behind so many: none where these were too many
abbrev pub left_behind : Option ℕ → ℕ → Option ℕ
left_behind None n = None
left_behind (Some k) n = if nat_lt k n then None else Some (k - n)
