-- What one comparison of a binary search tells of all rows on one side of it.
use Rattle.std.proofs.Common.{◌≡◌, ℕ, zero, suc, ◌+◌, ◌<◌, ◌≤◌, ◌⊎◌, inl, inr, Bool, true, false, List, [], ◌∷◌, length, get_or, refl, sym, ◌∙◌, arith}
use Rattle.std.specs.Prelude.{ℤ}
use Rattle.std.specs.List.{list_all}
use Rattle.std.proofs.lemmas.Bool.{and_parts}
use Rattle.ph_specs.specs.ZOrder.{before}
use Rattle.ph_specs.specs.Table.{Row, is_rising}
use Rattle.ph_specs.proofs.laws.Order.{before_trans}
use Rattle.ph_specs.proofs.laws.Put.{either}

-- what passes a test in all of a list passes it at a place
pub all-at : (test : Row → Bool) (rows : List Row) (k : ℕ) (d : Row) → list_all test rows ≡ true → k < length rows → test (get_or rows k d) ≡ true
all-at test [] k d h l = absurd (omega arith)
all-at test (r ∷ rows) zero d h l = (and_parts _ _ h).0
all-at test (r ∷ rows) (suc k) d h l = all-at test rows k d (and_parts _ _ h).1 (omega arith)

-- of two places the row at the first comes first
pub rising-at : (w : ℕ) (rows : List Row) (i j : ℕ) (d e : Row) → is_rising w rows ≡ true → i < j → j < length rows →
    before w (get_or rows i d).point (get_or rows j e).point ≡ true
rising-at w [] i j d e h l m = absurd (omega arith)
rising-at w (r ∷ rows) i zero d e h l m = absurd (omega arith)
rising-at w (r ∷ rows) zero (suc j) d e h l m = all-at (λ s. before w r.point s.point) rows j e (and_parts _ _ h).0 (omega arith)
rising-at w (r ∷ rows) (suc i) (suc j) d e h l m = rising-at w rows i j d e (and_parts _ _ h).1 (omega arith) (omega arith)

same-at : (rows : List Row) (i j : ℕ) (d e : Row) → i ≡ j → j < length rows → get_or rows i d ≡ get_or rows j e
same-at [] i j d e h l = absurd (omega arith)
same-at (r ∷ rows) zero zero d e h l = refl
same-at (r ∷ rows) zero (suc j) d e h l = absurd (omega arith)
same-at (r ∷ rows) (suc i) zero d e h l = absurd (omega arith)
same-at (r ∷ rows) (suc i) (suc j) d e h l = same-at rows i j d e (omega arith) (omega arith)

lower : (k m : ℕ) → k ≤ m → (k < m) ⊎ (k ≡ m)
lower zero zero h = inr refl
lower zero (suc m) h = inl (omega arith)
lower (suc k) zero h = absurd (omega arith)
lower (suc k) (suc m) h = elim (lower k m (omega arith)) [ inl l ↦ inl (omega arith) | inr e ↦ inr (omega arith) ]

-- a row that comes before the point, and each row in front of it
pub earlier-up : (w : ℕ) (rows : List Row) (p : List ℤ) (r : Row) (m k : ℕ) (d : Row) → is_rising w rows ≡ true →
    m < length rows → r ≡ get_or rows m r → before w r.point p ≡ true → k < m + 1 → before w (get_or rows k d).point p ≡ true
earlier-up w rows p r m k d h l e b i =
    elim (lower k m (omega arith)) [
      | inl front ↦ before_trans w (get_or rows k d).point r.point p (rw e (rising-at w rows k m d r h front l)) b
      | inr here ↦ rw (same-at rows k m d r here l, ← e) b
    ]

-- a row that does not come before the point, and each row behind it
pub later-down : (w : ℕ) (rows : List Row) (p : List ℤ) (r : Row) (m k : ℕ) (d : Row) → is_rising w rows ≡ true →
    r ≡ get_or rows m r → before w r.point p ≡ false → m ≤ k → k < length rows → before w (get_or rows k d).point p ≡ false
later-down w rows p r m k d h e b i l =
    elim (lower m k i) [
      | inl behind ↦ elim (either (before w (get_or rows k d).point p)) [
        | inl back ↦
            let clash : true ≡ false = sym (before_trans w r.point (get_or rows k d).point p (rw e (rising-at w rows m k r d h behind l)) back) ∙ b in cc
        | inr not_yet ↦ not_yet
      ]
      | inr here ↦ rw (same-at rows k m d r (sym here) (omega arith), ← e) b
    ]
