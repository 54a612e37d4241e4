-- Some of the fields of a table, in a row, are digits of its words.
use Rattle.std.proofs.Common.{◌≡◌, ℕ, ◌+◌, ◌-◌, ◌*◌, ◌/◌, ◌%◌, ◌^◌, ◌≤◌, ◌<◌, sym, ◌∙◌, ap, subst, arith, List, [], ◌∷◌, ◌++◌, length, length-append}
use Rattle.std.specs.List.{AllByRecursion as Each}
use Rattle.std.proofs.lemmas.List.{append_assoc}
use Rattle.std.proofs.lemmas.Nat.{div-mul-add, mod-mul-add, pow_pos, shr-shr}
use Rattle.std.proofs.Math.Nat.{mul-div_cancel}
use Rattle.ph_specs.specs.Digits.{Field, field, number_after, number_of, digits_of, words_for, words_of}
use Rattle.ph_model.specs.Digits.{digits_at}
use Rattle.ph_model.proofs.laws.WordDigits.{digits-behind, digits-front}
use Rattle.ph_model.proofs.lemmas.Columns.{digits_of-append, number_after-append}
use Rattle.ph_model.proofs.lemmas.Grouped.{Each-front, Each-back}
use Rattle.ph_specs.proofs.lemmas.Numbers.{Fit, number_after-start, number_of-small, length-words_of, number_of-words_of}
use Rattle.ph_bits.specs.Fields.{number_in}
use Rattle.ph_bits.specs.declared.edits.Edit.{Edit}
use Rattle.ph_linear.specs.declared.copies.Column.{Column}
use Rattle.ph_linear.specs.Edited.{stretch, column_edited}

-- ---- one row of fields

-- the digits of fields between others
digits-inner : (fs gs hs : List Field) → Fit gs → Fit hs → number_of (fs ++ (gs ++ hs)) / 2 ^ digits_of hs % 2 ^ digits_of gs ≡ number_of gs
digits-inner fs gs hs h k =
    let n : ℕ = number_of fs in
    let e : number_of (fs ++ (gs ++ hs)) ≡ (number_of fs * 2 ^ digits_of gs + number_of gs) * 2 ^ digits_of hs + number_of hs =
    number_after-append 0 fs (gs ++ hs) ∙ number_after-append n gs hs ∙ number_after-start (number_after n gs) hs ∙
    ap (λ t. t * 2 ^ digits_of hs + number_of hs) (number_after-start n gs) in
    ap (λ t. t / 2 ^ digits_of hs % 2 ^ digits_of gs) e
    ∙ ap (λ t. t % 2 ^ digits_of gs) (div-mul-add (n * 2 ^ digits_of gs + number_of gs) (2 ^ digits_of hs) (number_of hs) (number_of-small hs k))
    ∙ mod-mul-add n (2 ^ digits_of gs) (number_of gs) (number_of-small gs h)

-- where they lie in words
spread : (all a b c t n : ℕ) → all ≡ a + (b + c) → t ≡ words_for all → t ≤ n → (a + b ≤ 64 * t) × (a + b ≤ 64 * n) × (64 * t - a - b ≡ (64 * words_for all - all) + c)
spread all a b c t n e f l = (omega (arith, e, f), omega (arith, e, f, l), omega (arith, e, f))

pub segment : (w : ℕ) (fs gs hs : List Field) (vs : List ℕ) → Fit (fs ++ (gs ++ hs)) → Each (λ x. x < 2 ^ 64) vs
    → digits_at (w ∷ words_of (fs ++ (gs ++ hs)) ++ vs) (64 + digits_of fs) (digits_of gs) ≡ number_of gs
segment w fs gs hs vs h k =
    let all : List Field = fs ++ (gs ++ hs) in
    let ts : List ℕ = words_of all in
    let pad : ℕ = 64 * words_for (digits_of all) - digits_of all in
    let d : digits_of (fs ++ (gs ++ hs)) ≡ digits_of fs + (digits_of gs + digits_of hs) =
    digits_of-append fs (gs ++ hs) ∙ ap (λ t. digits_of fs + t) (digits_of-append gs hs) in
    let m : length (words_of (fs ++ (gs ++ hs))) ≤ length (words_of (fs ++ (gs ++ hs)) ++ vs) = omega (arith, length-append (words_of (fs ++ (gs ++ hs))) vs) in
    let s = spread (digits_of all) (digits_of fs) (digits_of gs) (digits_of hs) (length ts) (length (ts ++ vs)) d (length-words_of all) m in
    let r : Fit (gs ++ hs) = Each-back (λ (f : Field). f.number < 2 ^ f.width) fs (gs ++ hs) h in
    digits-behind w (ts ++ vs) (digits_of fs) (digits_of gs) s.1
    ∙ digits-front ts vs (digits_of fs) (digits_of gs) s.0 k
    ∙ ap (λ t. number_in ts / 2 ^ t % 2 ^ digits_of gs) s.2
    ∙ ap (λ t. t / 2 ^ (pad + digits_of hs) % 2 ^ digits_of gs) (number_of-words_of all h)
    ∙ ap (λ t. t % 2 ^ digits_of gs)
    (sym (shr-shr (number_of all * 2 ^ pad) pad (digits_of hs)) ∙ ap (λ t. t / 2 ^ digits_of hs)
    (mul-div_cancel (number_of all) (pow_pos pad)))
    ∙ digits-inner fs gs hs (Each-front (λ (f : Field). f.number < 2 ^ f.width) gs hs r) (Each-back (λ (f : Field). f.number < 2 ^ f.width) gs hs r)

-- ---- a column with an edit

-- fields that are copied as one
copied : (r w d : ℕ) (gs rest : List Field) → w ≡ digits_of gs → d ≡ number_of gs → number_after r (field w d ∷ rest) ≡ number_after (number_after r gs) rest
copied r w d gs rest e f =
    ap (λ t. number_after (r * 2 ^ t + d) rest) e ∙ ap (λ t. number_after (r * 2 ^ digits_of gs + t) rest) f ∙
    ap (λ t. number_after t rest) (sym (number_after-start r gs))

module _ (words : List ℕ) (w : ℕ) (table : List Field) (vs : List ℕ) (is : words ≡ w ∷ words_of table ++ vs) (h : Fit table) (k : Each (λ x. x < 2 ^ 64) vs) where
  pub segment-of : (fs gs hs : List Field) (at n : ℕ) → table ≡ fs ++ (gs ++ hs) → at ≡ 64 + digits_of fs → n ≡ digits_of gs → digits_at words at n ≡ number_of gs
  segment-of fs gs hs at n e a b =
      ap (λ t. digits_at t at n) is
      ∙ ap (λ t. digits_at (w ∷ words_of table ++ vs) t n) a
      ∙ ap (λ t. digits_at (w ∷ words_of table ++ vs) (64 + digits_of fs) t) b
      ∙ ap (λ t. digits_at (w ∷ words_of t ++ vs) (64 + digits_of fs) (digits_of gs)) e
      ∙ segment w fs gs hs vs (subst Fit e h) k

  -- the column as it was: fields in front of the edit, those left out, and those behind it
  pub column-number : (c : Column) (e : Edit) (fs front gone back hs new : List Field) (r : ℕ) →
      table ≡ fs ++ ((front ++ (gone ++ back)) ++ hs) → c.at ≡ 64 + digits_of fs
      → digits_of front ≡ e.place * c.width → digits_of gone ≡ e.less * c.width → digits_of back ≡ (c.count - (e.place + e.less)) * c.width
      → number_after r (column_edited words c e new) ≡ number_after r (front ++ (new ++ back))
  column-number c e fs front gone back hs new r t a d1 d2 d3 =
      let b1 : (e.place - 0) * c.width ≡ digits_of front = sym (d1 ∙ ap (λ s. s * c.width) (omega arith)) in
      let p1 : c.at + 0 * c.width ≡ 64 + digits_of fs = a-plus c.at (0 * c.width) (64 + digits_of fs) a (omega arith) in
      let s1 : digits_at words (c.at + 0 * c.width) ((e.place - 0) * c.width) ≡ number_of front =
      segment-of fs front ((gone ++ back) ++ hs) (c.at + 0 * c.width) ((e.place - 0) * c.width) (t ∙ ap (λ s. fs ++ s) (append_assoc front (gone ++ back) hs)) p1 b1 in
      let p2 : c.at + (e.place + e.less) * c.width ≡ 64 + digits_of (fs ++ (front ++ gone)) =
      behind c.at (digits_of fs) e.place e.less c.width (digits_of front) (digits_of gone) a d1 d2 ∙
      ap (λ s. 64 + s) (sym (digits_of-append fs (front ++ gone) ∙
      ap (λ s. digits_of fs + s) (digits_of-append front gone))) in
      let s2 : digits_at words (c.at + (e.place + e.less) * c.width) ((c.count - (e.place + e.less)) * c.width) ≡ number_of back =
      segment-of (fs ++ (front ++ gone)) back hs _ _ (t ∙ regroup fs front gone back hs) p2 (sym d3) in
      copied r ((e.place - 0) * c.width) _ front (new ++ stretch words c (e.place + e.less) c.count ∷ []) b1 s1
      ∙ number_after-append (number_after r front) new (stretch words c (e.place + e.less) c.count ∷ [])
      ∙ copied (number_after (number_after r front) new) _ _ back [] (sym d3) s2
      ∙ sym (number_after-append r front (new ++ back) ∙ number_after-append (number_after r front) new back)
    where
      a-plus : (x y z : ℕ) → x ≡ z → y ≡ 0 → x + y ≡ z
      a-plus x y z e f = omega (arith, e, f)

      behind : (at f p l w x y : ℕ) → at ≡ 64 + f → x ≡ p * w → y ≡ l * w → at + (p + l) * w ≡ 64 + (f + (x + y))
      behind at f p l w x y e g h = omega (arith, e, g, h)

      regroup : (fs xs ys zs hs : List Field) → fs ++ ((xs ++ (ys ++ zs)) ++ hs) ≡ (fs ++ (xs ++ ys)) ++ (zs ++ hs)
      regroup fs xs ys zs hs = simp append_assoc
