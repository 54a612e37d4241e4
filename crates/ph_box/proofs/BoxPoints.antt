-- Boxes as points of a width, and the windows of questions about them.
use Rattle.std.proofs.Common.{◌≡◌, ℕ, ◌*◌, ◌/◌, ◌%◌, ◌∙◌, true, List, ◌++◌, length}
use Rattle.std.proofs.Common.{take-append-drop, replicate, length-append, eq-eqb, eqb-true, arith, sym, subst}
use Rattle.std.specs.Prelude.{ℤ, ◌==◌}
use Rattle.std.specs.List.{list_all}
use Rattle.std.proofs.lemmas.Bool.{and_parts}
use Rattle.std.proofs.lemmas.List.{length-replicate}
use Rattle.std.proofs.lemmas.List.Folds.{list_all-append}
use Rattle.ph_specs.specs.Boxes.{IsWindowFor}
use Rattle.ph_specs.specs.Coordinate.{fits, greatest, high_corner, least, low_corner, IsPoint}
use Rattle.ph_specs.proofs.laws.Boxes.{greatest_all, least_all, overlaps-window, inside-window, covers-window}
use Rattle.ph_specs.proofs.lemmas.Tests.{and-made}
use Rattle.ph_box.specs.Questions.{asks, low_bound, high_bound}
use Rattle.ph_box.specs.declared.question.Question.{Question}
use Rattle.ph_box.specs.declared.question.Question.TheVariants.{Overlap, Inside, Cover}

long : (w d : ℕ) (p : List ℤ) → IsPoint w d p → length p ≡ d
long w d p h = eqb-true (length p) d (and_parts (length p == d) (list_all (fits w) p) h).0

fitting : (w d : ℕ) (p : List ℤ) → IsPoint w d p → list_all (fits w) p ≡ true
fitting w d p h = (and_parts (length p == d) (list_all (fits w) p) h).1

point : (w d : ℕ) (p : List ℤ) → length p ≡ d → list_all (fits w) p ≡ true → IsPoint w d p
point w d p e f = and-made (length p == d) (list_all (fits w) p) (eq-eqb (length p) d e) f

module _ (w k d : ℕ) (double : k * 2 ≡ d) where
  joined : (lo hi : List ℤ) → IsPoint w k lo → IsPoint w k hi → IsPoint w d (lo ++ hi)
  joined lo hi l h =
      point w d (lo ++ hi) (omega (arith, double, length-append lo hi, long w k lo l, long w k hi h))
      (list_all-append (fits w) lo hi ∙ and-made (list_all (fits w) lo) (list_all (fits w) hi) (fitting w k lo l) (fitting w k hi h))

  -- the least coordinates in front of a point, and the greatest behind it
  least-joined : (p : List ℤ) → IsPoint w k p → IsPoint w d (replicate (length p) (least w) ++ p)
  least-joined p h =
      joined (replicate (length p) (least w)) p
      (point w k (replicate (length p) (least w)) (length-replicate (length p) (least w) ∙ long w k p h) (least_all w (length p))) h

  joined-greatest : (p : List ℤ) → IsPoint w k p → IsPoint w d (p ++ replicate (length p) (greatest w))
  joined-greatest p h =
      joined p (replicate (length p) (greatest w)) h
      (point w k (replicate (length p) (greatest w)) (length-replicate (length p) (greatest w) ∙ long w k p h) (greatest_all w (length p)))

  bound-points : (question : Question) (lo hi : List ℤ) → IsPoint w k lo → IsPoint w k hi →
      IsPoint w d (low_bound question w lo hi) × IsPoint w d (high_bound question w lo hi)
  bound-points Overlap lo hi l h = (least-joined lo l, joined-greatest hi h)
  bound-points Inside lo hi l h = (joined lo lo l l, joined hi hi h h)
  bound-points Cover lo hi l h = (least-joined hi h, joined-greatest lo l)

  window-between : (question : Question) (lo hi : List ℤ) → length lo ≡ k → length hi ≡ k →
      IsWindowFor w d (asks question (lo ++ hi)) (low_bound question w lo hi) (high_bound question w lo hi)
  window-between Overlap lo hi l h = overlaps-window w k d lo hi double l h
  window-between Inside lo hi l h = inside-window w k d lo hi double l h
  window-between Cover lo hi l h = covers-window w k d lo hi double l h

-- points between which a question about a box finds its boxes
abbrev pub Answer : Question → ℕ → ℕ → List ℤ → List ℤ → List ℤ → Type 0
Answer question w d asked from to = (IsPoint w d from × IsPoint w d to) × IsWindowFor w d (asks question asked) from to

-- what lies between the bounds of a box that is given by its corners
pub answered : (question : Question) (w d : ℕ) (asked lo hi from to : List ℤ) → d % 2 ≡ 0 → lo ≡ low_corner asked → hi ≡ high_corner asked →
    IsPoint w (d / 2) lo × IsPoint w (d / 2) hi → from ≡ low_bound question w lo hi → to ≡ high_bound question w lo hi → Answer question w d asked from to
answered question w d asked lo hi from to even is-lo is-hi are f g =
    let k : ℕ = d / 2 in
    let double : k * 2 ≡ d = omega (arith, even) in
    let whole : lo ++ hi ≡ asked = (λ i. is-lo i ++ is-hi i) ∙ take-append-drop (length asked / 2) asked in
    let bounds : Answer question w d (lo ++ hi) (low_bound question w lo hi) (high_bound question w lo hi) =
    (bound-points w k d double question lo hi are.0 are.1, window-between w k d double question lo hi (long w k lo are.0) (long w k hi are.1)) in
    subst (λ q. Answer question w d q from to) whole
    (subst (λ x. Answer question w d (lo ++ hi) x to) (sym f)
    (subst (λ x. Answer question w d (lo ++ hi) (low_bound question w lo hi) x) (sym g) bounds))
