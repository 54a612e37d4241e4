-- What came of a put or of a removal, as an answer or an error.
use Rattle.std.specs.Prelude.{ℕ, Option, Some, None, Result, Ok, Err}
use Rattle.std.specs.Allocator.{alloc_error}
use Rattle.std.specs.declared.alloc.AllocError.{AllocError}
use Rattle.ph_table.specs.declared.table.Put.{Put}
use Rattle.ph_table.specs.declared.table.Put.TheVariants.{New, Old}
use Rattle.ph_tree.specs.declared.error.PutError.{PutError}
use Rattle.ph_tree.specs.declared.error.PutError.TheVariants.{Full, NoMemory}
use Rattle.ph_tree.specs.declared.puts.Placed.{Placed}
use Rattle.ph_tree.specs.declared.puts.Placed.TheVariants.{Joined, Present, Refused, Failed}
use Rattle.ph_tree.specs.declared.removals.Removed.{Removed}
use Rattle.ph_tree.specs.declared.removals.Removed.TheVariants.{Nothing, Gone, Failed as Broken}

-- with the value that the point had, where it was there
abbrev pub outcome : Placed → ℕ → Result Put PutError
outcome Joined v = Ok New
outcome Present v = Ok (Old v)
outcome Refused v = Err Full
outcome Failed v = Err NoMemory

-- with the value that went, where the point is gone
abbrev pub value_gone : Removed → ℕ → Result (Option ℕ) AllocError
value_gone Nothing v = Ok None
value_gone Gone v = Ok (Some v)
value_gone Broken v = Err alloc_error
