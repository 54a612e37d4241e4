-- Rows of which each comes before the next one are in order.
use Rattle.std.proofs.Common.{◌≡◌, ℕ, zero, suc, ◌+◌, ◌-◌, ◌<◌, ◌≤◌, Bool, true, false, List, [], ◌∷◌, length, get_or, refl, sym, ◌∙◌, ap, arith, inl, inr}
use Rattle.std.specs.List.{list_all}
use Rattle.std.proofs.lemmas.Bool.{and_parts, cases_lt}
use Rattle.ph_specs.specs.ZOrder.{before}
use Rattle.ph_specs.specs.Table.{Row, is_rising}
use Rattle.ph_specs.proofs.laws.Put.{either, and, list_all_before}

-- each of so many comes before the next one
abbrev pub AreNext : ℕ → List Row → ℕ → Type 0
AreNext w rows n = (j : ℕ) (d : Row) → suc j < n → before w (get_or rows j d).point (get_or rows (suc j) d).point ≡ true

pub rise-all : (w : ℕ) (rows : List Row) → AreNext w rows (length rows) → is_rising w rows ≡ true
rise-all w [] h = refl
rise-all w (r ∷ []) h = refl
rise-all w (r ∷ s ∷ rows) h =
    let first : before w r.point s.point ≡ true = h 0 r (omega arith) in
    let more : is_rising w (s ∷ rows) ≡ true = rise-all w (s ∷ rows) (λ j d l. h (suc j) d (omega (arith, l))) in
    and _ _ (and _ _ first (list_all_before w r.point s.point rows first (and_parts _ _ more).0)) more

pub rise-next : (w : ℕ) (rows : List Row) → is_rising w rows ≡ true → AreNext w rows (length rows)
rise-next w [] h j d l = absurd (let no : ⊥ = omega (arith, l) in no)
rise-next w (r ∷ []) h j d l = absurd (let no : ⊥ = omega (arith, l) in no)
rise-next w (r ∷ s ∷ rows) h zero d l = (and_parts _ _ (and_parts _ _ h).0).0
rise-next w (r ∷ s ∷ rows) h (suc j) d l = rise-next w (s ∷ rows) (and_parts (list_all (λ t. before w r.point t.point) (s ∷ rows)) _ h).1 j d (omega (arith, l))

pub next-more : (w : ℕ) (rows : List Row) (i : ℕ) → AreNext w rows i →
    ((d : Row) → before w (get_or rows (i - 1) d).point (get_or rows i d).point ≡ true) → 1 ≤ i → AreNext w rows (i + 1)
next-more w rows i h b l j d m =
    elim (cases_lt (suc j) i) [
      | inl lt ↦ h j d lt
      | inr ge ↦
          let e : i ≡ suc j = omega (arith, ge, m) in
          let f : i - 1 ≡ j = omega (arith, e) in
          sym (λ q. before w (get_or rows (f q) d).point (get_or rows (e q) d).point) ∙ b d
    ]

-- an item of a list, whatever stands for one behind its end
pub get-same : {X : Type 0} (xs : List X) (i : ℕ) (a b : X) → i < length xs → get_or xs i a ≡ get_or xs i b
get-same [] i a b l = absurd (let no : ⊥ = omega (arith, l) in no)
get-same (x ∷ xs) zero a b l = refl
get-same (x ∷ xs) (suc i) a b l = get-same xs i a b (omega (arith, l))

pub pair-more : (w : ℕ) (rows : List Row) (i : ℕ) (x y : Row) (t : Bool) → AreNext w rows i → 1 ≤ i →
    i < length rows → x ≡ get_or rows (i - 1) x → y ≡ get_or rows i y → t ≡ before w x.point y.point → t ≡ true →
    AreNext w rows (i + 1)
pair-more w rows i x y t h l m e k is holds =
    next-more w rows i h (λ d. (λ q. before w (sym (e ∙ get-same rows (i - 1) x d (omega (arith, l, m))) q).point
    (sym (k ∙ get-same rows i y d m) q).point) ∙ sym is ∙ holds) l

pub pair-breaks : (w : ℕ) (rows : List Row) (i : ℕ) (x y : Row) (t : Bool) → 1 ≤ i → i < length rows →
    x ≡ get_or rows (i - 1) x → y ≡ get_or rows i y → t ≡ before w x.point y.point → t ≡ false → is_rising w rows ≡ false
pair-breaks w rows i x y t l m e k is fails =
    elim (either (is_rising w rows)) [
      | inl rises ↦
          let f : suc (i - 1) ≡ i = omega (arith, l) in
          let b : before w (get_or rows (i - 1) x).point (get_or rows (suc (i - 1)) x).point ≡ true = rise-next w rows rises (i - 1) x (omega (arith, l, m)) in
          let c : before w x.point y.point ≡ true = (λ q. before w (e q).point ((k ∙ get-same rows i y x m ∙ ap (λ n. get_or rows n x) (sym f)) q).point) ∙ b in
          absurd (let clash : true ≡ false = sym c ∙ sym is ∙ fails in cc)
      | inr gone ↦ gone
    ]

pub next-down : (w : ℕ) (rows : List Row) (i n : ℕ) → n ≤ i → AreNext w rows i → AreNext w rows n
next-down w rows i n l h j d m = h j d (omega (arith, l, m))
