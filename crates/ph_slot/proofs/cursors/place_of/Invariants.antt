use Rattle.std.proofs.Common.{◌≡◌}
use Rattle.ph_slot.specs.Naming.{place}
use Rattle.ph_slot.specs.Slots.{named}
use Rattle.ph_slot.proofs.Names.{place_behind}
use Rattle.ph_slot.proofs.cursors.place_of.Given as goal

abbrev pub invariant-loop-i : goal.invariant-loop-i
invariant-loop-i g l = place l.name (named l.held) ≡ place_behind (λ h. h.name) (λ h. h.cursor) l.i l.name l.held
