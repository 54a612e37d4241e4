-- What places end as, once a `&mut` to the words behind the header has ended.
use Rattle.std.specs.Prelude.{ℕ, List, ◌++◌, map, take, drop, Some}
use Rattle.std.specs.Borrow.{Fml, MutBor, Array, Lends, u64}
use Rattle.std.specs.List.{refill}
use Rattle.ph_bits.specs.Slots.{words_in}
use Rattle.ph_bits.specs.declared.places.Places.{Places}
use Rattle.ph_bits.specs.contracts.places.Places.{the_row}

-- the places with ws in place of the first n words
abbrev pub with_words : Places → ℕ → List ℕ → Places
with_words p n ws = record { mark = p.mark; at = p.at; slots = take 1 p.slots ++ (map Some (refill n (words_in n p.slots) ws) ++ drop n (drop 1 p.slots)) }

abbrev pub lends_words : MutBor Places → ℕ → MutBor (List ℕ) → Fml
lends_words p n r = Lends the_row (Array u64 0) p r (with_words p.now n)
