-- Slots by their number of dimensions.
use Rattle.std.proofs.Common.{◌≡◌, ℕ, List, [], ◌∷◌, refl, ap, sym, ◌∙◌, get_or}
use Rattle.std.specs.Prelude.{◌-◌}
use Rattle.ph_specs.specs.State.{Slot as State}
use Rattle.ph_slot.specs.AnySlots.{any_slot, variant_dims}
use Rattle.ph_slot.specs.declared.slot.Slot.{Slot}
use Rattle.ph_slot.specs.declared.slot.Slot.TheVariants as slot

-- the slots of each number of dimensions, from 1 on
abbrev variants : List (State → Slot)
variants = slot.D1 ∷ slot.D2 ∷ slot.D3 ∷ slot.D4 ∷ slot.D5 ∷ slot.D6 ∷ slot.D7 ∷ slot.D8 ∷ slot.D9 ∷ slot.D10 ∷ slot.D11 ∷ slot.D12 ∷ slot.D13 ∷ slot.D14 ∷ slot.D15 ∷ slot.D16 ∷ []

-- a slot is known by its number of dimensions
abbrev pub by_dims : ℕ → State → Slot
by_dims dims = get_or variants (dims - 1) slot.D1

by-dims : (s : Slot) → s ≡ by_dims (variant_dims s) (any_slot s)
by-dims (slot.D1 s) = refl
by-dims (slot.D2 s) = refl
by-dims (slot.D3 s) = refl
by-dims (slot.D4 s) = refl
by-dims (slot.D5 s) = refl
by-dims (slot.D6 s) = refl
by-dims (slot.D7 s) = refl
by-dims (slot.D8 s) = refl
by-dims (slot.D9 s) = refl
by-dims (slot.D10 s) = refl
by-dims (slot.D11 s) = refl
by-dims (slot.D12 s) = refl
by-dims (slot.D13 s) = refl
by-dims (slot.D14 s) = refl
by-dims (slot.D15 s) = refl
by-dims (slot.D16 s) = refl

-- a slot that has as many dimensions as another
pub same-variant : (a b variant : Slot) → variant_dims a ≡ variant_dims b → a ≡ variant → b ≡ by_dims (variant_dims variant) (any_slot b)
same-variant a b variant d e = by-dims b ∙ ap (λ n. by_dims n (any_slot b)) (sym d ∙ ap variant_dims e)

-- one of two dimensions
pub two-dims : (s : Slot) → variant_dims s ≡ 2 → ((x : State) → s ≡ slot.D2 x → ⊥) → ⊥
two-dims (slot.D2 x) h n = n x refl
two-dims other h n = absurd cc
