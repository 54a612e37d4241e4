-- What a handle owns.
use Rattle.std.specs.Prelude.{Option, None, Some}
use base.Fml.{Fml, feq}
use mir.Syntax.{Ty}
use denote.RawPtr.{Ptr, null_ptr}
use Rattle.std.specs.Global.{Box, Global}
use Rattle.std.specs.contracts.impls.GlobalAllocator.TheImpl.{ghosts}
use Rattle.std_alloc.specs.Box.Ownership.{box_owns}
use Rattle.ph_c.specs.declared.loose.Loose.{Loose}
use Rattle.ph_c.specs.declared.trees.Tree.{Tree}
use Rattle.ph_c.specs.contracts.trees.Tree.{the_row}

-- the right to give memory back, which does not depend on the value that stands for the heap
abbrev pub freed_by_heap : Ty → Ptr → Fml
freed_by_heap = ghosts.dealloc_token (record { memory = record { seal = tt } })

-- nothing at null, and else the tree there, with the right to give its memory back
abbrev pub handle_owns : Ptr → Option Tree → Fml
handle_owns p None = feq Ptr p null_ptr
handle_owns p (Some t) = box_owns freed_by_heap the_row p t

-- the tree of a box, if there is one
abbrev pub unboxed : Option (Box Tree) → Option Tree
unboxed None = None
unboxed (Some b) = Some b.value

-- the tree of a box that was taken apart, if there is one
abbrev pub held_in : Option (Loose Tree Global) → Option Tree
held_in None = None
held_in (Some parts) = Some parts.held
