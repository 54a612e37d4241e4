-- What the entries of a node of code are seen as.
use Rattle.std.specs.Prelude.{ℕ, List, take}
use Rattle.std.specs.List.{AllByRecursion as Each}
use Rattle.ph_model.specs.EntryList.{Entry, What, value, node}
use Rattle.ph_shape.specs.Bodies.{IsFilled}
use Rattle.ph_shape.specs.declared.plain.EntryOf.{EntryOf}
use Rattle.ph_shape.specs.declared.plain.HeldOf.{HeldOf}
use Rattle.ph_shape.specs.declared.plain.HeldOf.TheVariants.{Value, Child}

abbrev pub what_of : {P : Type 0} → HeldOf P → What
what_of (Value v) = value v
what_of (Child below) = node below

abbrev pub entry_of : {P : Type 0} → ℕ → EntryOf P → Entry
entry_of dims e = record { addr = e.addr; body = take dims e.body; what = what_of e.held }

-- the bodies are zeros behind the dimensions
abbrev pub AreFilled : {P : Type 0} → ℕ → List (EntryOf P) → Type 0
AreFilled dims es = Each (λ e. IsFilled dims e.body) es
