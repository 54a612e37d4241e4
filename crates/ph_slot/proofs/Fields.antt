-- A slot and a cursor that a slot holds have these fields and no other.
use Rattle.std.proofs.Common.{◌≡◌, ℕ, refl}
use Rattle.ph_slot.specs.declared.cursors.Held.{Held}
use Rattle.ph_slot.specs.declared.slot_of.SlotOf.TheInside.{Inside as SlotInside}

pub slot_fields : {D : ℕ} (s : SlotInside D) → s ≡ record { kind = s.kind; kept = s.kept; cursors = s.cursors }
slot_fields s = refl

pub held_fields : {D : ℕ} (h : Held D) → h ≡ record { name = h.name; cursor = h.cursor }
held_fields h = refl
