-- Digits that are put in place of others.
use Rattle.std.proofs.Common.{◌≡◌, ℕ, zero, suc, ◌+◌, ◌-◌, ◌*◌, ◌/◌, ◌%◌, ◌^◌, ◌≤◌, ◌<◌, refl, sym, ◌∙◌, ap, subst}
use Rattle.std.proofs.Common.{arith, List, [], ◌∷◌, ◌++◌, length, length-append, map, take, replicate, slice_index_or}
use Rattle.std.specs.List.{AllByRecursion as Each}
use Rattle.std.proofs.lemmas.List.{append-nil}
use Rattle.std.proofs.lemmas.Nat.{mod-mul-add, pow-add}
use Rattle.std.proofs.Math.Nat.{mod-eq_of_lt, pow-le-pow_right}
use Rattle.ph_specs.specs.Digits.{Field, field, number_after, number_of, digits_of, pieces, words_for, words_of}
use Rattle.ph_model.specs.Digits.{digits_at}
use Rattle.ph_model.proofs.laws.OneToOne.{pieces-small}
use Rattle.ph_specs.proofs.laws.ReadBack.{pieces-number}
use Rattle.ph_model.proofs.laws.WordDigits.{digits-behind, digits-first, digits-parts, number-append, number-small}
use Rattle.ph_model.proofs.lemmas.Columns.{number_after-append}
use Rattle.ph_specs.proofs.lemmas.Numbers.{Fit, number_after-start, length-words_of, number_of-words_of}
use Rattle.ph_model.proofs.lemmas.RowsBehind.{Each-append}
use Rattle.ph_bits.specs.Fields.{number_in, IsPut}
use Rattle.ph_bits.specs.declared.edits.Edit.{Edit}
use Rattle.ph_linear.specs.declared.copies.Column.{Column}
use Rattle.ph_linear.specs.Edited.{IsColumn, IsOver, IsColumnOver, stretch, column_edited}
use Rattle.ph_linear.proofs.Segments.{segment}

pub over-put : (old new : List ℕ) (at w v : ℕ) → IsPut old at w v new → IsOver old at w v new
over-put old new at w v p = record { value = p.value; front = p.front; behind = p.behind }

-- no digits, and digits that stay
pub over-same : (old : List ℕ) (at w v : ℕ) → digits_at old at w ≡ v → IsOver old at w v old
over-same old at w v e = record { value = e; front = λ a k l. refl; behind = λ a k l m. refl }

-- digits and those behind them
pub over-next : (old mid new : List ℕ) (at m w x y : ℕ) → length mid ≡ length old → length new ≡ length old → at + m + w ≤ 64 * length old
    → IsOver old at m x mid → IsOver mid (at + m) w y new → IsOver old at (m + w) (x * 2 ^ w + y) new
over-next old mid new at m w x y e f l p q = record {
  value =
      let n : at + m + w ≤ 64 * length new = omega (arith, l, f) in
      digits-parts new at m w n
      ∙ ap (λ t. t * 2 ^ w + digits_at new (at + m) w) (q.front at m (omega arith) ∙ p.value)
      ∙ ap (λ t. x * 2 ^ w + t) q.value;
  front = λ a k h. q.front a k (omega (arith, h)) ∙ p.front a k h;
  behind = λ a k h i. q.behind a k (omega (arith, h)) (omega (arith, i, e)) ∙ p.behind a k (omega (arith, h)) i;
}

-- the field, or the fields, of an entry within a column
pub over-column : (old new : List ℕ) (c : Column) (e : Edit) (fs : List Field) → length new ≡ length old →
    c.at + c.count * c.width ≤ 64 * length old → e.place < c.count → e.less ≡ 1
    → digits_of fs ≡ c.width → IsOver old (c.at + e.place * c.width) c.width (number_of fs) new → IsColumnOver old c e fs new
over-column old new c e fs f l p less d o = record {
  value =
      let w : ℕ = c.width in
      let k : ℕ = c.count - (e.place + e.less) in
      let z = spans c.at e.place e.less c.count c.width (length old) (length new) p less l f in
      ap (λ t. digits_at new c.at t) z.0
      ∙ digits-parts new c.at (e.place * w) (w + k * w) z.1
      ∙ ap (λ t. digits_at new c.at (e.place * w) * 2 ^ (w + k * w) + t) (digits-parts new (c.at + e.place * w) w (k * w) z.2)
      ∙ ap (λ t. t * 2 ^ (w + k * w) +
      (digits_at new (c.at + e.place * w) w * 2 ^ (k * w) + digits_at new (c.at + e.place * w + w) (k * w)))
      (o.front c.at (e.place * w) (omega arith))
      ∙ ap (λ t. digits_at old c.at (e.place * w) * 2 ^ (w + k * w) + (t * 2 ^ (k * w) + digits_at new (c.at + e.place * w + w) (k * w))) o.value
      ∙ ap (λ t. digits_at old c.at (e.place * w) * 2 ^ (w + k * w) + (number_of fs * 2 ^ (k * w) + t))
      (o.behind (c.at + e.place * w + w) (k * w) (omega arith) (omega (arith, z.2, f)))
      ∙ sym (made old c e fs less d);
  front = λ a k h. o.front a k (omega (arith, h));
  behind = λ a k h i.
      o.behind a k (omega (arith, h, (spans c.at e.place e.less c.count c.width (length old) (length new) p less l f).0)) i;
}
  where
    spans : (at p l n w x y : ℕ) → p < n → l ≡ 1 → at + n * w ≤ 64 * x → y ≡ x
        → (n * w ≡ p * w + (w + (n - (p + l)) * w)) × (at + p * w + (w + (n - (p + l)) * w) ≤ 64 * y) × (at + p * w + w + (n - (p + l)) * w ≤ 64 * y)
    spans at p l n w x y h e b f =
        let r : ℕ = n - (p + l) in
        let g : n ≡ p + (1 + (n - (p + l))) = omega (arith, h, e) in
        let m : n * w ≡ (p + (1 + (n - (p + l)))) * w = ap (λ t. t * w) g in
        (omega (arith, m), omega (arith, m, b, f), omega (arith, m, b, f))

    made : (old : List ℕ) (c : Column) (e : Edit) (fs : List Field) → e.less ≡ 1 → digits_of fs ≡ c.width
        → number_of (column_edited old c e fs) ≡ digits_at old c.at (e.place * c.width) * 2 ^
        (c.width + (c.count - (e.place + e.less)) * c.width) +
        (number_of fs * 2 ^ ((c.count - (e.place + e.less)) * c.width) + digits_at old
        (c.at + e.place * c.width + c.width) ((c.count - (e.place + e.less)) * c.width))
    made old c e fs less d =
        let w : ℕ = c.width in
        let k : ℕ = c.count - (e.place + e.less) in
        let behind : List Field = stretch old c (e.place + e.less) c.count ∷ [] in
        let s : ℕ = 0 * 2 ^ ((e.place - 0) * w) + digits_at old (c.at + 0 * w) ((e.place - 0) * w) in
        let z1 : e.place - 0 ≡ e.place = omega arith in
        let z2 : c.at + 0 * c.width ≡ c.at = omega arith in
        let z3 : 0 * 2 ^ ((e.place - 0) * c.width) + digits_at old (c.at + 0 * c.width) ((e.place - 0) * c.width) ≡
        digits_at old (c.at + 0 * c.width) ((e.place - 0) * c.width) = omega arith in
        let z4 : c.at + (e.place + e.less) * c.width ≡ c.at + e.place * c.width + c.width = ap (λ t. c.at + (e.place + t) * c.width) less ∙ omega arith in
        let first : s ≡ digits_at old c.at (e.place * w) = z3 ∙ ap (λ t. digits_at old t ((e.place - 0) * w)) z2 ∙ ap (λ t. digits_at old c.at (t * w)) z1 in
        number_after-append s fs behind
        ∙ ap (λ t. t * 2 ^ (k * w) + digits_at old (c.at + (e.place + e.less) * w) (k * w))
        (number_after-start s fs ∙ ap (λ t. s * 2 ^ t + number_of fs) d ∙ ap (λ t. t * 2 ^ w + number_of fs) first)
        ∙ ap (λ t. (digits_at old c.at (e.place * w) * 2 ^ w + number_of fs) * 2 ^ (k * w) + digits_at old t (k * w)) z4
        ∙ apart (digits_at old c.at (e.place * w)) (number_of fs) (2 ^ w) (2 ^ (k * w)) (2 ^ (w + k * w)) _ (pow-add 2 w (k * w))
      where
        apart : (x y P K R z : ℕ) → R ≡ P * K → (x * P + y) * K + z ≡ x * R + (y * K + z)
        apart x y P K R z f = let g : x * R ≡ x * (P * K) = ap (λ t. x * t) f in omega (arith, g)

-- the one field that is put
pub over-field : (old new : List ℕ) (c : Column) (e : Edit) (v : ℕ) → length new ≡ length old →
    c.at + c.count * c.width ≤ 64 * length old → e.place < c.count → e.less ≡ 1 → e.more ≡ 1
    → IsPut old (c.at + e.place * c.width) c.width v new → IsColumnOver old c e (replicate e.more (field c.width v)) new
over-field old new c e v f l p less more put =
    let digits : digits_of (replicate e.more (field c.width v)) ≡ c.width =
    ap (λ t. digits_of (replicate t (field c.width v))) more ∙ omega arith in
    let number : number_of (replicate e.more (field c.width v)) ≡ v =
    ap (λ t. number_of (replicate t (field c.width v))) more ∙ omega arith in
    over-column old new c e (replicate e.more (field c.width v)) f l p less digits
    (subst (λ t. IsOver old (c.at + e.place * c.width) c.width t new) (sym number) (over-put old new (c.at + e.place * c.width) c.width v put))

-- ---- rows

pub row-more : (r w : ℕ) (xs : List ℕ) (i : ℕ) → i < length xs → number_after r (map (field w) (take (i + 1) xs)) ≡
    number_after r (map (field w) (take i xs)) * 2 ^ w + slice_index_or xs i 0
row-more r w [] i l = absurd (omega (arith, l))
row-more r w (x ∷ xs) zero l = refl
row-more r w (x ∷ xs) (suc i) l =
    let k : suc i + 1 ≡ suc (i + 1) = omega arith in
    ap (λ t. number_after r (map (field w) (take t (x ∷ xs)))) k ∙ row-more (r * 2 ^ w + x) w xs i (omega (arith, l))

pub each-at : (w n : ℕ) (xs : List ℕ) (i : ℕ) → Each (λ x. x < 2 ^ w) (take n xs) → i < n → i < length xs → slice_index_or xs i 0 < 2 ^ w
each-at w n [] i h l m = absurd (omega (arith, m))
each-at w zero (x ∷ xs) i h l m = absurd (omega (arith, l))
each-at w (suc n) (x ∷ xs) zero h l m = h.0
each-at w (suc n) (x ∷ xs) (suc i) h l m = each-at w n xs i h.1 (omega (arith, l)) (omega (arith, m))

pub digits-row : (w : ℕ) (xs : List ℕ) → digits_of (map (field w) xs) ≡ length xs * w
digits-row w [] = omega arith
digits-row w (x ∷ xs) = omega (arith, digits-row w xs)

-- ---- a table in place of one with as many digits

pub all-digits : (ws : List ℕ) → Each (λ x. x < 2 ^ 64) ws → digits_at ws 0 (64 * length ws) ≡ number_in ws
all-digits ws h =
    let z : 64 * length ws - 0 - 64 * length ws ≡ 0 = omega arith in
    ap (λ t. number_in ws / 2 ^ t % 2 ^ (64 * length ws)) z
    ∙ ap (λ t. t % 2 ^ (64 * length ws)) (omega arith)
    ∙ mod-eq_of_lt (number-small ws h)

-- the number of the digits of words, in three parts
three : (ws : List ℕ) (a b c : ℕ) → Each (λ x. x < 2 ^ 64) ws → a + (b + c) ≡ 64 * length ws →
    number_in ws ≡ digits_at ws 0 a * 2 ^ (b + c) + (digits_at ws a b * 2 ^ c + digits_at ws (a + b) c)
three ws a b c h e =
    let l1 : 0 + a + (b + c) ≤ 64 * length ws = omega (arith, e) in
    let l2 : a + b + c ≤ 64 * length ws = omega (arith, e) in
    let za : 0 + a ≡ a = omega arith in
    let all : digits_at ws 0 (a + (b + c)) ≡ number_in ws = ap (λ t. digits_at ws 0 t) e ∙ all-digits ws h in
    sym all
    ∙ digits-parts ws 0 a (b + c) l1
    ∙ ap (λ t. digits_at ws 0 a * 2 ^ (b + c) + digits_at ws t (b + c)) za
    ∙ ap (λ t. digits_at ws 0 a * 2 ^ (b + c) + t) (digits-parts ws a b c l2)

-- what lies behind the fields of a table is made of the values
behind-table : (w : ℕ) (fs : List Field) (vs : List ℕ) (d r : ℕ) → Fit fs → Each (λ x. x < 2 ^ 64) vs →
    d ≡ digits_of fs → d + r ≡ 64 * (words_for (digits_of fs) + length vs) →
    digits_at (w ∷ words_of fs ++ vs) (64 + d) r ≡ number_in vs
behind-table w fs vs d r h k a e =
    let t : ℕ = words_for (digits_of fs) in
    let pad : ℕ = 64 * words_for (digits_of fs) - digits_of fs in
    let m : length (words_of fs ++ vs) ≡ words_for (digits_of fs) + length vs = length-append (words_of fs) vs ∙ ap (λ s. s + length vs) (length-words_of fs) in
    let l : d + r ≤ 64 * length (words_of fs ++ vs) = omega (arith, e, m) in
    let z : 64 * length (words_of fs ++ vs) - d - r ≡ 0 = omega (arith, e, m) in
    let p : r ≡ (64 * words_for (digits_of fs) - digits_of fs) + 64 * length vs = omega (arith, a, e) in
    let q : number_in (words_of fs ++ vs) ≡ number_of fs * 2 ^ r + number_in vs =
    number-append (words_of fs) vs ∙ ap (λ s. s * 2 ^ (64 * length vs) + number_in vs) (number_of-words_of fs h)
    ∙ again (number_of fs) (2 ^ pad) (2 ^ (64 * length vs)) (2 ^ r) (number_in vs) (ap (λ s. 2 ^ s) p ∙ pow-add 2 pad (64 * length vs)) in
    let o : 0 < 2 = omega arith in
    let b : 64 * length vs ≤ r = omega (arith, p) in
    let small : number_in vs < 2 ^ r = below _ _ _ (number-small vs k) (pow-le-pow_right o b) in
    digits-behind w (words_of fs ++ vs) d r l
    ∙ ap (λ s. number_in (words_of fs ++ vs) / 2 ^ s % 2 ^ r) z
    ∙ ap (λ s. s % 2 ^ r) (omega arith)
    ∙ ap (λ s. s % 2 ^ r) q
    ∙ mod-mul-add (number_of fs) (2 ^ r) (number_in vs) small
  where
    again : (n P K R v : ℕ) → R ≡ P * K → n * P * K + v ≡ n * R + v
    again n P K R v f = let g : n * R ≡ n * (P * K) = ap (λ s. n * s) f in omega (arith, g)

    below : (a b c : ℕ) → a < b → b ≤ c → a < c
    below a b c x y = omega (arith, x, y)

pub same-number : (xs ys : List ℕ) → Each (λ x. x < 2 ^ 64) xs → Each (λ x. x < 2 ^ 64) ys → length xs ≡ length ys → number_in xs ≡ number_in ys → xs ≡ ys
same-number xs ys h k l e =
    sym (pieces-number 64 xs h) ∙ ap (λ n. pieces 64 n (number_in xs)) l ∙ ap (pieces 64 (length ys)) e ∙ pieces-number 64 ys k

pub over-table : (w : ℕ) (fs gs : List Field) (vs new : List ℕ) → w < 2 ^ 64 → digits_of gs ≡ digits_of fs → Fit fs →
    Fit gs → Each (λ x. x < 2 ^ 64) vs → Each (λ x. x < 2 ^ 64) new
    → length new ≡ length (w ∷ words_of fs ++ vs) → IsOver (w ∷ words_of fs ++ vs) 64 (digits_of fs) (number_of gs) new → new ≡ w ∷ words_of gs ++ vs
over-table w fs gs vs new u d f g h k l o =
    let old : List ℕ = w ∷ words_of fs ++ vs in
    let target : List ℕ = w ∷ words_of gs ++ vs in
    let n : ℕ = digits_of fs in
    let r : ℕ = 64 * (words_for (digits_of fs) + length vs) - digits_of fs in
    let s : ℕ = n + r in
    let enough : digits_of fs ≤ 64 * words_for (digits_of fs) = omega arith in
    let sum : digits_of fs + (64 * (words_for (digits_of fs) + length vs) - digits_of fs) ≡ 64 * (words_for (digits_of fs) + length vs) = omega (arith, enough) in
    let ws : Each (λ x. x < 2 ^ 64) (words_of gs ++ vs) = Each-append (λ x. x < 2 ^ 64) (words_of gs) vs (pieces-small 64 (words_for (digits_of gs)) _) h in
    let os : Each (λ x. x < 2 ^ 64) (words_of fs ++ vs) = Each-append (λ x. x < 2 ^ 64) (words_of fs) vs (pieces-small 64 (words_for (digits_of fs)) _) h in
    let lold : length (w ∷ words_of fs ++ vs) ≡ 1 + (words_for (digits_of fs) + length vs) = omega (arith, length-append (words_of fs) vs, length-words_of fs) in
    let ltar : length (w ∷ words_of gs ++ vs) ≡ 1 + (words_for (digits_of fs) + length vs) =
    omega (arith, length-append (words_of gs) vs, length-words_of gs ∙ ap words_for d) in
    let anew : 64 + (digits_of fs + (64 * (words_for (digits_of fs) + length vs) - digits_of fs)) ≡ 64 * length new = omega (arith, sum, lold, l) in
    let atar : 64 + (digits_of fs + (64 * (words_for (digits_of fs) + length vs) - digits_of fs)) ≡ 64 * length (w ∷ words_of gs ++ vs) = omega (arith, sum, ltar) in
    let first : digits_at old 0 64 ≡ digits_at target 0 64 = digits-first w (words_of fs ++ vs) 0 64 0 (omega arith)
    os ∙ sym (digits-first w (words_of gs ++ vs) 0 64 0 (omega arith) ws) in
    let middle : digits_at target 64 n ≡ number_of gs = middle-table w gs vs n g h (sym d) in
    let last : digits_at old (64 + n) r ≡ digits_at target (64 + n) r =
    behind-table w fs vs n r f h refl sum
    ∙ sym (behind-table w gs vs n r g h (sym d) (sum ∙ ap (λ t. 64 * (words_for t + length vs)) (sym d))) in
    let inside : 64 + n + r ≤ 64 * length old = omega (arith, sum, lold) in
    let same : number_in new ≡ number_in target =
    three new 64 n r k anew
    ∙ ap (λ t. t * 2 ^ s + (digits_at new 64 n * 2 ^ r + digits_at new (64 + n) r)) (o.front 0 64 (omega arith) ∙ first)
    ∙ ap (λ t. digits_at target 0 64 * 2 ^ s + (t * 2 ^ r + digits_at new (64 + n) r)) (o.value ∙ sym middle)
    ∙ ap (λ t. digits_at target 0 64 * 2 ^ s + (digits_at target 64 n * 2 ^ r + t)) (o.behind (64 + n) r (omega arith) inside ∙ last)
    ∙ sym (three target 64 n r (u, ws) atar) in
    same-number new target k (u, ws) (l ∙ lold ∙ sym ltar) same
  where
    middle-table : (w : ℕ) (gs : List Field) (vs : List ℕ) (n : ℕ) → Fit gs → Each (λ x. x < 2 ^ 64) vs →
        n ≡ digits_of gs → digits_at (w ∷ words_of gs ++ vs) 64 n ≡ number_of gs
    middle-table w gs vs n g h e =
        ap (λ t. digits_at (w ∷ words_of gs ++ vs) 64 t) e
        ∙ ap (λ t. digits_at (w ∷ words_of t ++ vs) 64 (digits_of gs)) (sym (append-nil gs))
        ∙ segment w [] gs [] vs (subst Fit (sym (append-nil gs)) g) h

-- words have room for their first word and for a table of so many digits
pub table-inside : (d x y z k len : ℕ) → d ≡ x → y ≡ z + k → z ≡ (d + 63) / 64 → len ≡ suc y → 64 + x ≤ 64 * len
table-inside d x y z k len e f g i = omega (arith, e, f, g, i)

-- the first of small words is small
pub first-small : (ws : List ℕ) → Each (λ x. x < 2 ^ 64) ws → slice_index_or ws 0 0 < 2 ^ 64
first-small [] h = omega arith
first-small (x ∷ ws) h = h.0

-- ---- columns

pub over-equal : (old new : List ℕ) (at at2 w w2 v v2 : ℕ) → at ≡ at2 → w ≡ w2 → v ≡ v2 → IsOver old at w v new → IsOver old at2 w2 v2 new
over-equal old new at at2 w w2 v v2 e f g o = subst (λ t. IsOver old at2 w2 t new) g (subst (λ t. IsOver old at2 t v new) f (subst (λ t. IsOver old t w v new) e o))

-- a column lies within as many other words
pub column-stays : (old new : List ℕ) (c : Column) → IsColumn old c → length new ≡ length old → IsColumn new c
column-stays old new c k e = record { inside = omega (arith, k.inside, e); near = k.near }

-- a column whose digits are those of other words has the same fields with an edit
pub column-same : (old mid : List ℕ) (c : Column) (e : Edit) (fs : List Field) → e.place + e.less ≤ c.count →
    ((a k : ℕ) → c.at ≤ a → a + k ≤ c.at + c.count * c.width → digits_at mid a k ≡ digits_at old a k)
    → column_edited mid c e fs ≡ column_edited old c e fs
column-same old mid c e fs l h =
    let p : ℕ = e.place + e.less in
    let w : ℕ = c.width in
    let z = inner c.at c.count c.width e.place e.less l in
    ap {B = List Field} (λ t. field ((e.place - 0) * w) t ∷ (fs ++ stretch mid c p c.count ∷ [])) (h (c.at + 0 * w) ((e.place - 0) * w) (omega arith) z.0)
    ∙ ap {B = List Field} (λ t. stretch old c 0 e.place ∷ (fs ++ field ((c.count - p) * w) t ∷ [])) (h (c.at + p * w) ((c.count - p) * w) (omega arith) z.1)
  where
    inner : (at n w p l : ℕ) → p + l ≤ n → (at + 0 * w + (p - 0) * w ≤ at + n * w) × (at + (p + l) * w + (n - (p + l)) * w ≤ at + n * w)
    inner at n w p l h =
        let r : ℕ = n - (p + l) in
        let e : p + (l + (n - (p + l))) ≡ n = omega (arith, h) in
        let f : (p + (l + (n - (p + l)))) * w ≡ n * w = ap (λ t. t * w) e in
        let g : (p - 0) * w ≡ p * w = ap (λ t. t * w) (omega arith) in
        (omega (arith, f, g), omega (arith, f))
