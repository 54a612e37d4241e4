-- Slots of any number of dimensions as those of the definitions.
use Rattle.std.specs.Prelude.{◌≡◌, ◌≤◌, ℕ, ◌+◌, ◌%◌, List, length}
use Rattle.ph_specs.specs.declared.Kind.{Kind}
use Rattle.ph_specs.specs.declared.Kind.TheVariants.{Boxes}
use Rattle.ph_specs.specs.SnapshotOf.{IsSnapshotOf}
use Rattle.ph_specs.specs.State.{Slot as State}
use Rattle.ph_specs.specs.WorkSets.{all_nodes}
use Rattle.ph_slot.specs.declared.frame.Frame.{Frame}
use Rattle.ph_slot.specs.declared.slot.Slot.{Slot}
use Rattle.ph_slot.specs.declared.slot.Slot.TheVariants as slot

abbrev pub any_slot : Slot → State
any_slot (slot.D1 s) = s
any_slot (slot.D2 s) = s
any_slot (slot.D3 s) = s
any_slot (slot.D4 s) = s
any_slot (slot.D5 s) = s
any_slot (slot.D6 s) = s
any_slot (slot.D7 s) = s
any_slot (slot.D8 s) = s
any_slot (slot.D9 s) = s
any_slot (slot.D10 s) = s
any_slot (slot.D11 s) = s
any_slot (slot.D12 s) = s
any_slot (slot.D13 s) = s
any_slot (slot.D14 s) = s
any_slot (slot.D15 s) = s
any_slot (slot.D16 s) = s

-- its number of dimensions, by its variant
abbrev pub variant_dims : Slot → ℕ
variant_dims (slot.D1 s) = 1
variant_dims (slot.D2 s) = 2
variant_dims (slot.D3 s) = 3
variant_dims (slot.D4 s) = 4
variant_dims (slot.D5 s) = 5
variant_dims (slot.D6 s) = 6
variant_dims (slot.D7 s) = 7
variant_dims (slot.D8 s) = 8
variant_dims (slot.D9 s) = 9
variant_dims (slot.D10 s) = 10
variant_dims (slot.D11 s) = 11
variant_dims (slot.D12 s) = 12
variant_dims (slot.D13 s) = 13
variant_dims (slot.D14 s) = 14
variant_dims (slot.D15 s) = 15
variant_dims (slot.D16 s) = 16

-- a slot of the table of which the bytes are the snapshot, for a change of each node of its tree
pub record IsLoadedSlot (kind : Kind) (dims width : ℕ) (bytes : List ℕ) (s : State) (changes now_changes : ℕ) : Type 0 where
  pub kind_is : s.kind ≡ kind
  pub dims_are : s.dims ≡ dims
  pub width_is : s.width ≡ width
  pub snapshot : IsSnapshotOf kind dims width bytes s.table
  pub made : now_changes ≡ changes + length (all_nodes width dims s.table)

-- the kind, the number of dimensions and the width of a slot, which has boxes only where that number is even
pub record IsFrameOf (s : State) (frame : Frame) : Type 0 where
  pub kind : frame.kind ≡ s.kind
  pub dims : frame.dims ≡ s.dims
  pub width : frame.width ≡ s.width
  pub some : 1 ≤ s.dims
  pub limit : s.dims ≤ 16
  pub even : s.kind ≡ Boxes → s.dims % 2 ≡ 0
