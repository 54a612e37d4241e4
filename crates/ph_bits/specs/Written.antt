-- What a pen has written: the number that all digits up to it make.
use Rattle.std.specs.Prelude.{ℕ, ◌+◌, ◌-◌, ◌*◌, ◌^◌, ◌<◌, ◌≤◌, List, length}
use Rattle.ph_bits.specs.Fields.{number_in}
use Rattle.ph_bits.specs.declared.pens.Pen.{Pen}

pub record IsPen (p : Pen) : Type 0 where
  pub some : 1 ≤ p.room
  pub most : p.room ≤ 64
  pub kept : p.kept < 2 ^ (64 - p.room)

-- how many digits there are up to a pen behind words
abbrev pub digits_by : List ℕ → Pen → ℕ
digits_by words p = 64 * length words + (64 - p.room)

-- the number that they make
abbrev pub number_by : List ℕ → Pen → ℕ
number_by words p = number_in words * 2 ^ (64 - p.room) + p.kept
