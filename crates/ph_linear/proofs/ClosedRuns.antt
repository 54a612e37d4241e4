-- Runs of digits that are moved together, and runs that are moved apart with fields between them.
use Rattle.std.proofs.Common.{◌≡◌, ℕ, ◌+◌, ◌*◌, ◌^◌, ◌≤◌, refl, sym, ◌∙◌, ap, subst, arith, List, length}
use Rattle.ph_model.specs.Digits.{digits_at}
use Rattle.ph_model.proofs.laws.WordDigits.{digits-parts}
use Rattle.ph_bits.specs.Moved.{IsMoved}
use Rattle.ph_linear.specs.Edited.{IsOver}
use Rattle.ph_linear.proofs.Overs.{over-same, over-next}

pub over-moved : (old new : List ℕ) (from to len v : ℕ) → IsMoved old from to len new → v ≡ digits_at old from len → IsOver old to len v new
over-moved old new from to len v m e = record { value = m.value ∙ sym e; front = m.front; behind = m.behind }

-- three runs behind one that stays, each moved down to where the one in front of it ends, and then zeros
pub closed : (old w1 w2 w3 new : List ℕ) (f k m1 a m2 b m3 pad : ℕ) → length w1 ≡ length old → length w2 ≡ length old → length w3 ≡ length old → length new ≡ length old
    → 64 + f ≤ k → k + m1 ≤ a → a + m2 ≤ b → b + m3 ≤ 64 * length old → 64 + (f + m1 + m2 + m3) + pad ≤ 64 * length old
    → IsMoved old k (64 + f) m1 w1 → IsMoved w1 a (64 + (f + m1)) m2 w2 → IsMoved w2 b (64 + (f + m1 + m2)) m3 w3 → IsOver w3 (64 + (f + m1 + m2 + m3)) pad 0 new
    → IsOver old 64 (f + m1 + m2 + m3 + pad)
    ((((digits_at old 64 f * 2 ^ m1 + digits_at old k m1) * 2 ^ m2 + digits_at old a m2) * 2 ^ m3 + digits_at old
    b m3) * 2 ^ pad + 0) new
closed old w1 w2 w3 new f k m1 a m2 b m3 pad e1 e2 e3 e4 l1 l2 l3 l4 l5 p1 p2 p3 p4 =
    let o1 : IsOver old 64 (f + m1) (digits_at old 64 f * 2 ^ m1 + digits_at old k m1) w1 =
    over-next old old w1 64 f m1 (digits_at old 64 f) (digits_at old k m1) refl e1 (omega (arith, l5))
    (over-same old 64 f (digits_at old 64 f) refl) (over-moved old w1 k (64 + f) m1 (digits_at old k m1) p1 refl) in
    let s2 : digits_at old a m2 ≡ digits_at w1 a m2 = sym (o1.behind a m2 (omega (arith, l1, l2)) (omega (arith, l3, l4))) in
    let o2 : IsOver old 64 (f + m1 + m2) ((digits_at old 64 f * 2 ^ m1 + digits_at old k m1) * 2 ^ m2 + digits_at old a m2) w2 =
    over-next old w1 w2 64 (f + m1) m2 _ (digits_at old a m2) e1 e2 (omega (arith, l5)) o1 (over-moved w1 w2 a (64 + (f + m1)) m2 (digits_at old a m2) p2 s2) in
    let s3 : digits_at old b m3 ≡ digits_at w2 b m3 = sym (o2.behind b m3 (omega (arith, l1, l2, l3)) l4) in
    let o3 : IsOver old 64 (f + m1 + m2 + m3) (((digits_at old 64 f * 2 ^ m1 + digits_at old k m1) * 2 ^ m2 + digits_at old a m2) * 2 ^ m3 + digits_at old b m3) w3 =
    over-next old w2 w3 64 (f + m1 + m2) m3 _ (digits_at old b m3) e2 e3 (omega (arith, l5)) o2 (over-moved w2 w3 b (64 + (f + m1 + m2)) m3 (digits_at old b m3) p3 s3) in
    over-next old w3 new 64 (f + m1 + m2 + m3) pad _ 0 e3 e4 l5 o3 p4

-- digits, and then those in front of them
pub over-before : (old mid new : List ℕ) (at m w x y : ℕ) → length mid ≡ length old → length new ≡ length old → at + m + w ≤ 64 * length old
    → IsOver old (at + m) w y mid → IsOver mid at m x new → IsOver old at (m + w) (x * 2 ^ w + y) new
over-before old mid new at m w x y e f l p q = record {
  value =
      let n : at + m + w ≤ 64 * length new = omega (arith, l, f) in
      digits-parts new at m w n
      ∙ ap (λ t. t * 2 ^ w + digits_at new (at + m) w) q.value
      ∙ ap (λ t. x * 2 ^ w + t) (q.behind (at + m) w (omega arith) (omega (arith, l, e)) ∙ p.value);
  front = λ a k h. q.front a k h ∙ p.front a k (omega (arith, h));
  behind = λ a k h i. q.behind a k (omega (arith, h)) (omega (arith, i, e)) ∙ p.behind a k (omega (arith, h)) i;
}

-- the same run by equal numbers
pub moved-equal : (old new : List ℕ) (from from2 to to2 len len2 : ℕ) → from ≡ from2 → to ≡ to2 → len ≡ len2 →
    IsMoved old from to len new → IsMoved old from2 to2 len2 new
moved-equal old new from from2 to to2 len len2 e f g o =
    subst (λ t. IsMoved old from2 to2 t new) g (subst (λ t. IsMoved old from2 t len new) f (subst (λ t. IsMoved old t to len new) e o))
