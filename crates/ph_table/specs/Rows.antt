-- What a table is seen as, and what a put answers.
use Rattle.std.specs.Prelude.{ℕ, List, Option, Some, None}
use Rattle.ph_specs.specs.Table.{Row}
use Rattle.ph_table.specs.declared.table.Put.{Put}
use Rattle.ph_table.specs.declared.table.Put.TheVariants.{New, Old}

-- a width, and the rows of a table of this width
pub record WideRows : Type 0 where
  pub width : ℕ
  pub rows : List Row

abbrev pub wide : ℕ → List Row → WideRows
wide width rows = record { width = width; rows = rows }

-- the answer to a put, by what stood at the point
abbrev pub put_answer : Option ℕ → Put
put_answer None = New
put_answer (Some old) = Old old
