-- A point behind which a walk goes on, by its offsets.
use Rattle.std.proofs.Common.{◌≡◌, ℕ, ◌+◌, ◌*◌, ◌/◌, ◌%◌, ◌^◌, ◌<◌, ◌≤◌, List, [], ◌∷◌, length, take, map, refl, sym, ◌∙◌, ap, subst, arith, Bool, false}
use Rattle.std.specs.Prelude.{ℤ, nat_lt}
use Rattle.ph_specs.specs.Coordinate.{offset, IsPoint}
use Rattle.ph_specs.specs.ZOrder.{address, before}
use Rattle.ph_model.specs.Lawful.{IsBody}
use Rattle.ph_model.specs.PutTree.{body_address, body_address_from, body_above}
use Rattle.ph_model.proofs.lemmas.Joined.{from_place, number_at, offsets-coordinate, same_number, same_from}
use Rattle.ph_zorder.proofs.Decided.{address-is, before-decided, is_body-point}
use Rattle.ph_specs.proofs.laws.Order.{before_irrefl}
use Rattle.ph_path.specs.Known.{Known, known_at, point_at}
use Rattle.ph_window.specs.Mark.{Mark, IsMark}
use Rattle.ph_path.proofs.Knowns.{above-same, above-from, offsets-point}
use Rattle.ph_digits.specs.Differences.{IsTopDifference}
use Rattle.ph_digits.proofs.Cuts.{other_address}
use Rattle.ph_digits.proofs.Tops.{top-lower}

body-number : (s t : ℕ) (xs : List ℕ) → body_address_from s t xs ≡ number_at s t xs
body-number s t [] = refl
body-number s t (x ∷ xs) = body-number (s * 2 + x / 2 ^ t % 2) t xs

pub address-digits : (w t : ℕ) (xs : List ℕ) → address w (point_at w xs) t ≡ body_address t xs
address-digits w t xs = sym (address-is t w (point_at w xs)) ∙ ap (body_address t) (offsets-coordinate w xs)

pub parting-order : (d w t : ℕ) (xs ys : List ℕ) → IsBody d w xs → IsBody d w ys → IsTopDifference xs ys t →
    before w (point_at w xs) (point_at w ys) ≡ nat_lt (body_address t xs) (body_address t ys)
parting-order d w t xs ys h k p =
    before-decided w t w (point_at w xs) (point_at w ys) (top-lower d w t xs ys h k p)
    (λ j i m. address-digits w j xs ∙ body-number 0 j xs ∙ same_number 0 (t + 1) j xs ys (omega (arith, i)) p.agree ∙
    sym (body-number 0 j ys) ∙ sym (address-digits w j ys))
    (λ e. other_address t xs ys (h.0 ∙ sym k.0) p.agree p.differ (sym (address-digits w t xs) ∙ e ∙ address-digits w t ys))
    ∙ ap (λ a. nat_lt a (address w (point_at w ys) t)) (address-digits w t xs) ∙ ap (λ a. nat_lt (body_address t xs) a) (address-digits w t ys)

-- ---- as the code keeps it

pub mark-body : (d w : ℕ) (p : List ℤ) (os : List ℕ) → 1 ≤ w → IsPoint w d p → take (length p) os ≡ map (offset w) p → IsBody d w (take d os)
mark-body d w p os l h e = subst (IsBody d w) (sym (offsets-point w d p os h e)) (is_body-point w d p l h)

-- ---- where the digits at hand and the point part

above-top-same : (level place : ℕ) (xs ys : List ℕ) → place ≤ level → IsTopDifference xs ys place → body_above level ys ≡ body_above level xs
above-top-same level place xs ys l p = above-same place level ys xs l (sym p.agree)

above-apart : (level place : ℕ) (xs ys : List ℕ) → level < place → IsTopDifference xs ys place → body_above level ys ≡ body_above level xs → ⊥
above-apart level place xs ys l p e =
    p.differ (same_from (level + 1) place xs ys (omega (arith, l)) (sym (above-from level xs) ∙ ap (from_place (level + 1)) (sym e) ∙ above-from level ys))

module _ {d u : ℕ} {ks xs os : List ℕ} {m : Mark} {k : Known} (e : xs ≡ os) (h : IsMark d (known_at u os))
    (v : known_at u os ≡ m) (b : IsBody d k.width ks) (s : ks ≡ k.digits) (same : m.width ≡ k.width) where
  mk : xs ≡ m.digits
  mk = e ∙ ap (λ (m : Mark). m.digits) v

  body-k : IsBody d m.width k.digits
  body-k = subst (λ w. IsBody d w k.digits) (sym same) (subst (IsBody d k.width) s b)

  at-place : (place : ℕ) → IsTopDifference xs ks place → IsTopDifference m.digits k.digits place
  at-place place p = subst (λ x. IsTopDifference x k.digits place) mk (subst (λ y. IsTopDifference xs y place) s p)

  pub part-order : (place : ℕ) (late : Bool) → IsTopDifference xs ks place ×
      (late ≡ nat_lt (body_address place xs) (body_address place ks)) →
      late ≡ before m.width (point_at m.width m.digits) (point_at m.width k.digits)
  part-order place late p =
      p.1 ∙ (λ i. nat_lt (body_address place (mk i)) (body_address place (s i)))
      ∙ sym (parting-order d m.width place m.digits k.digits (subst (IsMark d) v h).body body-k (at-place place p.0))

  pub part-none : xs ≡ ks → false ≡ before m.width (point_at m.width m.digits) (point_at m.width k.digits)
  part-none q =
      sym (ap (λ x. before m.width (point_at m.width m.digits) (point_at m.width x)) (sym s ∙ sym q ∙ mk) ∙ before_irrefl m.width (point_at m.width m.digits))

  pub part-holds : (place level : ℕ) → place ≤ level → IsTopDifference xs ks place → body_above level k.digits ≡ body_above level m.digits
  part-holds place level l p = above-top-same level place m.digits k.digits l (at-place place p)

  -- they part above a level, and one of them comes later
  pub part-stands : {place level : ℕ} {late t : Bool} → IsTopDifference xs ks place ×
      (late ≡ nat_lt (body_address place xs) (body_address place ks)) → level < place → late ≡ t →
      (body_above level k.digits ≡ body_above level m.digits → ⊥) × (before m.width (point_at m.width m.digits) (point_at m.width k.digits) ≡ t)
  part-stands {place = place} {level = level} {late = late} p l is =
      (above-apart level place m.digits k.digits l (at-place place p.0), sym (part-order place late p) ∙ is)
