-- The faults of a text.
use Rattle.std.specs.Prelude.{◌≡◌, ℕ, ⊤, not, ◌&&◌, if◌then◌else◌, Result, Ok, Err}
use Rattle.std.specs.List.{list_all}
use Rattle.ph_specs.specs.declared.Kind.{Kind}
use Rattle.ph_specs.specs.Coordinate.{fits, is_box}
use Rattle.ph_specs.specs.Table.{Row}
use Rattle.ph_specs.specs.Csv.{is_boxes}
use Rattle.ph_specs.specs.Reply.{Reply}
use Rattle.ph_specs.specs.Reply.Reply.{BadFields, BadNumber, BadRange, BadReversed}
use Rattle.ph_csv.specs.declared.fault.CsvFault.{CsvFault}
use Rattle.ph_csv.specs.declared.fault.CsvFault.TheVariants.{Fields, Number, Range, Reversed, NoMemory}

-- the answer of the definition is this fault; want of memory may come at any time
abbrev pub IsFault : {X : Type 0} → Result X Reply → CsvFault → Type 0
IsFault answer (Fields n) = answer ≡ Err (BadFields n)
IsFault answer (Number n) = answer ≡ Err (BadNumber n)
IsFault answer (Range n) = answer ≡ Err (BadRange n)
IsFault answer (Reversed n) = answer ≡ Err (BadReversed n)
IsFault answer NoMemory = ⊤

-- the answer of the n-th record, whose fields are the numbers of this row
abbrev pub row_answer : ℕ → Kind → ℕ → Row → Result Row Reply
row_answer width kind n r =
    if not (list_all (fits width) r.point) then Err (BadRange n)
    else (if is_boxes kind && not (is_box r.point) then Err (BadReversed n)
    else Ok r)
