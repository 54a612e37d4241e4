-- What a block ends as, once a `&mut` to its words, to one of its values or to all of them has ended.
use Rattle.std.specs.Prelude.{ℕ, List, slice_set, length}
use Rattle.std.specs.List.{refill}
use Rattle.std.specs.Borrow.{Fml, RattleType, MutBor, Array, Lends, u64}
use Rattle.ph_bits.specs.Filled.{Filled}
use Rattle.ph_bits.specs.contracts.block.Block.{the_row}

abbrev pub with_words : {X : Type 0} → Filled X → List ℕ → Filled X
with_words b ws = record b { words = refill (length b.words) b.words ws }

abbrev pub lends_words : (R : RattleType) → MutBor (Filled R.Denot) → MutBor (List ℕ) → Fml
lends_words R b r = Lends (the_row R) (Array u64 0) b r (with_words b.now)

abbrev pub with_value : {X : Type 0} → Filled X → ℕ → X → Filled X
with_value b i x = record b { values = slice_set b.values i x }

abbrev pub lends_value : (R : RattleType) → MutBor (Filled R.Denot) → ℕ → MutBor R.Denot → Fml
lends_value R b i r = Lends (the_row R) R b r (with_value b.now i)

abbrev pub with_values : {X : Type 0} → Filled X → List X → Filled X
with_values b xs = record b { values = refill (length b.values) b.values xs }

abbrev pub lends_values : (R : RattleType) → MutBor (Filled R.Denot) → MutBor (List R.Denot) → Fml
lends_values R b r = Lends (the_row R) (Array R 0) b r (with_values b.now)
