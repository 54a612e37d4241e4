-- Putting a row among rows that all come before it, or all behind it.
use Rattle.std.proofs.Common.{◌≡◌, ℕ, ◌+◌, ◌<◌, refl, sym, ◌∙◌, ap, arith, List, [], ◌∷◌, ◌++◌, true, inl, inr}
use Rattle.std.specs.Prelude.{ℤ}
use Rattle.std.specs.List.{AllByRecursion as Each}
use Rattle.ph_specs.specs.Coordinate.{same_point}
use Rattle.ph_specs.specs.ZOrder.{address, before}
use Rattle.ph_specs.specs.Table.{Row, row, put}
use Rattle.ph_specs.proofs.laws.Put.{either, not_same, before-differs, before-not}
use Rattle.ph_model.proofs.lemmas.Joined.{offsets, from_place, same_number}
use Rattle.ph_model.proofs.lemmas.PointDigits.{address-is}
use Rattle.ph_model.proofs.laws.LawfulRows.{before-at}

-- ---- the order

-- of two points that agree above a place, the one with the smaller address there comes first
pub before-by : (w b : ℕ) (p q : List ℤ) → b < w →
    from_place (b + 1) (offsets w p) ≡ from_place (b + 1) (offsets w q) → address w p b < address w q b → before w p q ≡ true
before-by w b p q l e h =
    before-at w b w p q l (λ j i. address-is w j p ∙ same_number 0 (b + 1) j (offsets w p) (offsets w q) (omega (arith, i)) e ∙ sym (address-is w j q)) h

-- ---- the rows

abbrev pub AllBehind : ℕ → List ℤ → List Row → Type 0
AllBehind w p rs = Each (λ r. before w p r.point ≡ true) rs

abbrev pub AllBefore : ℕ → List ℤ → List Row → Type 0
AllBefore w p rs = Each (λ r. before w r.point p ≡ true) rs

pub put-front : (w : ℕ) (rs : List Row) (p : List ℤ) (v : ℕ) → AllBehind w p rs → put w rs p v ≡ row p v ∷ rs
put-front w [] p v h = refl
put-front w (r ∷ rs) p v h =
    let n : r.point ≡ p → ⊥ = λ e. before-differs w p r.point h.0 (sym e) in rw (not_same r.point p n, h.0)

pub put-after : (w : ℕ) (rs ss : List Row) (p : List ℤ) (v : ℕ) → AllBefore w p rs → put w (rs ++ ss) p v ≡ rs ++ put w ss p v
put-after w [] ss p v h = refl
put-after w (r ∷ rs) ss p v h =
    rw (not_same r.point p (before-differs w r.point p h.0), before-not w r.point p h.0) (ap {B = List Row} (λ t. r ∷ t) (put-after w rs ss p v h.1))

pub put-inside : (w : ℕ) (rs ss : List Row) (p : List ℤ) (v : ℕ) → AllBehind w p ss → put w (rs ++ ss) p v ≡ put w rs p v ++ ss
put-inside w [] ss p v h = put-front w ss p v h
put-inside w (r ∷ rs) ss p v h =
    elim (either (same_point r.point p)) [
      | inl same ↦ rw same
      | inr other ↦ elim (either (before w p r.point)) [
        | inl first ↦ rw (other, first)
        | inr later ↦
            rw (other, later) (ap {B = List Row} (λ t. r ∷ t) (put-inside w rs ss p v h))
      ]
    ]
