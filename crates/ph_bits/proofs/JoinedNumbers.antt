-- The numbers that a row of fields makes behind digits that are known.
use Rattle.std.proofs.Common.{◌≡◌, ℕ, ◌+◌, ◌-◌, ◌*◌, ◌/◌, ◌%◌, ◌^◌, ◌<◌, ◌≤◌, zero, suc, List, [], ◌∷◌, sym, ◌∙◌, ap, subst, arith, length, drop, get_or}
use Rattle.std.proofs.Math.Nat.{div-mul-le_self, mul-mod_left}
use Rattle.std.proofs.Math.Pow.{pow_mono}
use Rattle.std.proofs.lemmas.List.{get_or-map}
use Rattle.ph_model.specs.Digits.{digits_at}
use Rattle.ph_specs.specs.TreeRows.{put_together}
use Rattle.ph_model.specs.Lawful.{IsBody}
use Rattle.ph_model.specs.PutTree.{body_above}
use Rattle.ph_model.proofs.laws.LawfulRows.{put_together-small}
use Rattle.ph_model.proofs.lemmas.Joined.{length-put_together, get-put_together}
use Rattle.ph_digits.proofs.Joins.{above-long, kept-at, small-at}
use Rattle.ph_bits.specs.Fields.{digits_row}
use Rattle.ph_bits.proofs.RowPlaces.{length-row, row-at}

-- a number has no more digits than what is known of it
pub joined-small : (level x d y : ℕ) → level ≤ 61 → x < 2 ^ 62 → d < 2 → y < 2 ^ level → x / 2 ^ (level + 1) * 2 ^ (level + 1) + d * 2 ^ level + y < 2 ^ 62
joined-small level x d y l h k m = by_digit d k
  where
    above : ℕ
    above = x / 2 ^ (level + 1) * 2 ^ (level + 1)

    by_small : (d : ℕ) → above + d / 2 ^ 0 % 2 * 2 ^ level + y < 2 ^ 62
    by_small d =
        (put_together-small 62 level d (above ∷ []) (y ∷ []) (omega (arith, l)) (mul-mod_left (x / 2 ^ (level + 1)) (2 ^ (level + 1)), tt)
        (omega (arith, h, div-mul-le_self x (2 ^ (level + 1))), tt) (m, tt)).0

    by_digit : (d : ℕ) → d < 2 → above + d * 2 ^ level + y < 2 ^ 62
    by_digit zero k = by_small 0
    by_digit (suc zero) k = by_small 1
    by_digit (suc (suc d)) k = absurd (omega (arith, k))

-- its digits above a level, a digit there and the digits below fit a word together
pub sum-fits : (level i n above digit below : ℕ) (xs known : List ℕ) → drop i xs ≡ drop i known → IsBody n 62 known →
    level ≤ 61 → above ≤ get_or xs i 0 → digit ≤ 2 ^ 61 → below < 2 ^ level → above + digit + below < 2 ^ 64
sum-fits level i n above digit below xs known e k l a d b =
    omega (arith, a, d, b, kept-at i xs known e, small-at 62 n i known k, pow_mono {i = level} {j = 61} l)

module _ (ws known : List ℕ) (at level a : ℕ) where
  abbrev row : List ℕ
  row = digits_row ws at level (length known)

  long : length (body_above level known) ≡ length row
  long = above-long level known ∙ sym (length-row ws at level (length known))

  pub joined-long : length (put_together level a (body_above level known) (digits_row ws at level (length known))) ≡ length known
  joined-long = length-put_together level a (body_above level known) row long ∙ above-long level known

  -- a number as the code makes it
  pub joined-at : (i p q r : ℕ) → i < length known → p ≡ get_or known i 0 / 2 ^ (level + 1) * 2 ^ (level + 1) →
      q ≡ a / 2 ^ (length known - 1 - i) % 2 * 2 ^ level → r ≡ digits_at ws (at + i * level) level
      → p + q + r ≡ get_or (put_together level a (body_above level known) (digits_row ws at level (length known))) i 0
  joined-at i p q r l e f g =
      ap (λ t. t + q + r) (e ∙ sym (get_or-map (λ x. x / 2 ^ (level + 1) * 2 ^ (level + 1)) known i 0 0 l))
      ∙ ap (λ t. get_or (body_above level known) i 0 + t + r) (f ∙ ap (λ t. a / 2 ^ (t - 1 - i) % 2 * 2 ^ level) (sym (above-long level known)))
      ∙ ap (λ t. get_or (body_above level known) i 0 + a / 2 ^ (length (body_above level known) - 1 - i) % 2 * 2 ^
      level + t) (g ∙ sym (row-at ws at level (length known) i l))
      ∙ sym (get-put_together level a i (body_above level known) row long (subst (λ t. i < t) (sym (above-long level known)) l))
