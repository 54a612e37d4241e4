-- The Z-order of lists of numbers.
use Rattle.std.specs.Prelude.{ℕ, zero, suc, ◌<◌, ◌≤◌, ◌^◌, List, [], ◌∷◌}
use Rattle.std.specs.declared.cmp.Ordering.{Ordering}
use Rattle.std.specs.Cmp.{IsTotalOrder, on_total}
use Rattle.std.specs.Cmp.Lexicographic.{slice_cmp, nat_list_cmp_total}
use Rattle.std.specs.Ordering.{nat_cmp}
use Rattle.ph_model.specs.PutTree.{body_address}

-- the addresses of numbers at each place below one, from the greatest place on
abbrev pub addresses_below : ℕ → List ℕ → List ℕ
addresses_below zero xs = []
addresses_below (suc place) xs = body_address place xs ∷ addresses_below place xs

-- how numbers stand to others by their digits below a place: the greatest place at which their addresses differ decides
abbrev pub words_cmp_below : ℕ → List ℕ → List ℕ → Ordering
words_cmp_below place xs ys = slice_cmp nat_cmp (addresses_below place xs) (addresses_below place ys)

-- the Z-order of numbers of at most 64 binary digits
unfoldable pub words_cmp : List ℕ → List ℕ → Ordering
words_cmp xs ys = words_cmp_below 64 xs ys

pub words_total : IsTotalOrder words_cmp
unfolding words_cmp
words_total = on_total (addresses_below 64) nat_list_cmp_total

-- a number has a binary digit 1 above all those of another
pub record IsHigher (a b : ℕ) : Type 0 where
  pub place : ℕ
  pub reached : 2 ^ place ≤ a
  pub above : b < 2 ^ place
