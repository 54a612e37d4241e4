-- What the values end as, once a `&mut` to one of them has ended.
use Rattle.std.specs.Prelude.{ℕ, List, slice_set, length}
use Rattle.std.specs.List.{refill}
use Rattle.std.specs.Borrow.{Fml, RattleType, MutBor, Array, Lends}
use Rattle.ph_bits.specs.declared.kids.Kids.{Kids}
use Rattle.ph_bits.specs.contracts.kids.Kids.{the_row}

-- the values with others in their place
abbrev pub with_items : {X : Type 0} → Kids X → List X → Kids X
with_items k xs = record { mark = k.mark; at = k.at; from = k.from; items = xs }

abbrev pub lends_kid : (R : RattleType) → MutBor (Kids R.Denot) → ℕ → MutBor R.Denot → Fml
lends_kid R k i r = Lends (the_row R) R k r (λ x. with_items k.now (slice_set k.now.items i x))

abbrev pub lends_kids : (R : RattleType) → MutBor (Kids R.Denot) → MutBor (List R.Denot) → Fml
lends_kids R k r = Lends (the_row R) (Array R 0) k r (λ xs. with_items k.now (refill (length k.now.items) k.now.items xs))
