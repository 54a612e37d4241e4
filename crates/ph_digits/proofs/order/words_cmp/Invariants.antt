use Rattle.std.proofs.Common.{◌≡◌, ◌<◌, ◌^◌, ◌∷◌, length}
use Rattle.std.specs.Int.Bits.{bit_xor}
use Rattle.ph_digits.specs.WordOrder.{words_cmp}
use Rattle.ph_digits.proofs.order.words_cmp.Given as goal

abbrev pub invariant-loop-x : goal.invariant-loop-x
invariant-loop-x l = record {
  order : words_cmp (l.first ∷ l.x-iterator.a.rest.now) (l.second ∷ l.x-iterator.b.rest.now) ≡ words_cmp l.xs l.ys;
  difference : l.difference ≡ bit_xor l.first l.second;
  first_fits : l.first < 2 ^ 64;
  second_fits : l.second < 2 ^ 64;
  same : length l.x-iterator.a.rest.now ≡ length l.x-iterator.b.rest.now;
}
