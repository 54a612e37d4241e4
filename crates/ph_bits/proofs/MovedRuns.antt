-- Runs of digits that were moved, one behind the other.
use Rattle.std.proofs.Common.{◌≡◌, ℕ, zero, suc, ◌+◌, ◌-◌, ◌*◌, ◌/◌, ◌%◌, ◌^◌, ◌≤◌, ◌<◌, refl, sym, ◌∙◌, ap}
use Rattle.std.proofs.Common.{subst, arith, List, length, slice_index_or, slice_set, Fits, w64}
use Rattle.std.proofs.Math.Nat.{mod-one, mod-eq_of_lt}
use Rattle.std.specs.List.{AllByRecursion as Each}
use Rattle.ph_model.specs.Digits.{digits_at}
use Rattle.ph_model.proofs.laws.WordDigits.{each-fits, digits-one, digits-two, digits-parts, digits-below, digits-within}
use Rattle.ph_bits.specs.Fields.{number_in, with_digits, IsPut}
use Rattle.ph_bits.specs.Moved.{IsMoved}
use Rattle.ph_bits.proofs.Codes.{one}
use Rattle.ph_bits.proofs.Replaced.{put}

-- no digits are where they were
pub moved-none : (ws : List ℕ) (from to len : ℕ) → len ≡ 0 → IsMoved ws from to len ws
moved-none ws from to len e =
    subst (λ t. IsMoved ws from to t ws) (sym e)
    (record {
      value = mod-one (number_in ws / 2 ^ (64 * length ws - to - 0)) ∙ sym (mod-one (number_in ws / 2 ^ (64 * length ws - from - 0)));
      front = λ a k l. refl;
      behind = λ a k l m. refl;
    })

pub moved-put : (ws new : List ℕ) (from to w v : ℕ) → v ≡ digits_at ws from w → IsPut ws to w v new → IsMoved ws from to w new
moved-put ws new from to w v e p = record { value = p.value ∙ e; front = p.front; behind = p.behind }

-- the first digits, and then those behind them
pub moved-down : (old mid new : List ℕ) (from to m w : ℕ) → length mid ≡ length old → length new ≡ length old → to ≤ from → from + m + w ≤ 64 * length old
    → IsMoved old from to m mid → IsMoved mid (from + m) (to + m) w new → IsMoved old from to (m + w) new
moved-down old mid new from to m w e f o l p q = record {
  value =
      let n : to + m + w ≤ 64 * length new = omega (arith, l, o, f) in
      digits-parts new to m w n
      ∙ ap (λ t. t * 2 ^ w + digits_at new (to + m) w) (q.front to m (omega arith) ∙ p.value)
      ∙ ap (λ t. digits_at old from m * 2 ^ w + t) (q.value ∙ p.behind (from + m) w (omega (arith, o)) (omega (arith, l)))
      ∙ sym (digits-parts old from m w l);
  front = λ a k h. q.front a k (omega (arith, h)) ∙ p.front a k h;
  behind = λ a k h i. q.behind a k (omega (arith, h)) (omega (arith, i, e)) ∙ p.behind a k (omega (arith, h)) i;
}

-- the last digits, and then those in front of them
pub moved-up : (old mid new : List ℕ) (from to m w : ℕ) → length mid ≡ length old → length new ≡ length old → from ≤ to → to + m + w ≤ 64 * length old
    → IsMoved old (from + m) (to + m) w mid → IsMoved mid from to m new → IsMoved old from to (m + w) new
moved-up old mid new from to m w e f o l p q = record {
  value =
      let n : to + m + w ≤ 64 * length new = omega (arith, l, f) in
      let i : from + m + w ≤ 64 * length old = omega (arith, l, o) in
      digits-parts new to m w n
      ∙ ap (λ t. t * 2 ^ w + digits_at new (to + m) w) (q.value ∙ p.front from m (omega (arith, o)))
      ∙ ap (λ t. digits_at old from m * 2 ^ w + t) (q.behind (to + m) w (omega arith) (omega (arith, l, e)) ∙ p.value)
      ∙ sym (digits-parts old from m w i);
  front = λ a k h. q.front a k h ∙ p.front a k (omega (arith, h));
  behind = λ a k h i. q.behind a k (omega (arith, h)) (omega (arith, i, e)) ∙ p.behind a k (omega (arith, h)) i;
}

-- the last digits, and then those in front of them, which are stored as a number: the runs may overlap in any way
pub moved-stored : (old mid new : List ℕ) (from to m w v : ℕ) → length mid ≡ length old → length new ≡ length old →
    from + m + w ≤ 64 * length old → to + m + w ≤ 64 * length old → v ≡ digits_at old from m
    → IsMoved old (from + m) (to + m) w mid → IsPut mid to m v new → IsMoved old from to (m + w) new
moved-stored old mid new from to m w v e f k l d p q = record {
  value =
      let n : to + m + w ≤ 64 * length new = omega (arith, l, f) in
      digits-parts new to m w n
      ∙ ap (λ t. t * 2 ^ w + digits_at new (to + m) w) (q.value ∙ d)
      ∙ ap (λ t. digits_at old from m * 2 ^ w + t) (q.behind (to + m) w (omega arith) (omega (arith, l, e)) ∙ p.value)
      ∙ sym (digits-parts old from m w k);
  front = λ a j h. q.front a j h ∙ p.front a j (omega (arith, h));
  behind = λ a j h i. q.behind a j (omega (arith, h)) (omega (arith, i, e)) ∙ p.behind a j (omega (arith, h)) i;
}

pub moved-equal : (old new : List ℕ) (from from2 to to2 len len2 : ℕ) → from ≡ from2 → to ≡ to2 → len ≡ len2 →
    IsMoved old from to len new → IsMoved old from2 to2 len2 new
moved-equal old new from from2 to to2 len len2 e f g o =
    subst (λ t. IsMoved old from2 to2 t new) g (subst (λ t. IsMoved old from2 t len new) f (subst (λ t. IsMoved old t to len new) e o))

-- ---- a run of many digits: those that fill the word in which it begins, then whole words, then what is left

-- how many digits fill the word, and how many words are whole
abbrev pub filling : ℕ → ℕ
filling to = (64 - to % 64) % 64

abbrev pub whole_words : ℕ → ℕ → ℕ
whole_words to len = (len - (64 - to % 64) % 64) / 64

fills : (to : ℕ) → 64 * ((to + filling to) / 64) ≡ to + filling to
fills to = omega arith

parts-low : (to len : ℕ) → 64 ≤ len → filling to + 64 * whole_words to len ≤ len
parts-low to len h = omega (arith, h)

-- the first digits, then the words, then the rest
parts-down : (old first mid new : List ℕ) (from to len front whole : ℕ) → length first ≡ length old →
    length mid ≡ length old → length new ≡ length old → to ≤ from → from + len ≤ 64 * length old
    → front + 64 * whole ≤ len → 64 * ((to + front) / 64) ≡ to + front
    → IsMoved old from to front first → IsMoved first (from + front) (64 * ((to + front) / 64)) (64 * whole) mid →
    IsMoved mid (from + (front + 64 * whole)) (to + (front + 64 * whole)) (len - (front + 64 * whole)) new
    → IsMoved old from to len new
parts-down old first mid new from to len front whole e f g o l m w p q r =
    let two : IsMoved old from to (front + 64 * whole) mid =
    moved-down old first mid from to front (64 * whole) e f o (omega (arith, l, m)) p
    (moved-equal first mid (from + front) (from + front) (64 * ((to + front) / 64)) (to + front) (64 * whole) (64 * whole) refl w refl q) in
    moved-equal old new from from to to (front + 64 * whole + (len - (front + 64 * whole))) len refl refl (omega (arith, m))
    (moved-down old mid new from to (front + 64 * whole) (len - (front + 64 * whole)) f g o (omega (arith, l, m)) two r)

-- the rest, then the words, then the first digits
parts-up : (old last mid new : List ℕ) (from to len front whole : ℕ) → length last ≡ length old → length mid ≡ length old →
    length new ≡ length old → from ≤ to → to + len ≤ 64 * length old
    → front + 64 * whole ≤ len → 64 * ((to + front) / 64) ≡ to + front
    → IsMoved old (from + (front + 64 * whole)) (to + (front + 64 * whole)) (len - (front + 64 * whole)) last →
    IsMoved last (from + front) (64 * ((to + front) / 64)) (64 * whole) mid → IsMoved mid from to front new
    → IsMoved old from to len new
parts-up old last mid new from to len front whole e f g o l m w p q r =
    let rest : ℕ = len - (front + 64 * whole) in
    let two : IsMoved old (from + front) (to + front) (64 * whole + (len - (front + 64 * whole))) mid =
    moved-up old last mid (from + front) (to + front) (64 * whole) rest e f (omega (arith, o)) (omega (arith, l, m))
    (moved-equal old last (from + (front + 64 * whole)) (from + front + 64 * whole) (to + (front + 64 * whole))
    (to + front + 64 * whole) rest rest (omega arith) (omega arith) refl p)
    (moved-equal last mid (from + front) (from + front) (64 * ((to + front) / 64)) (to + front) (64 * whole) (64 * whole) refl w refl q) in
    moved-equal old new from from to to (front + (64 * whole + (len - (front + 64 * whole)))) len refl refl (omega (arith, m))
    (moved-up old mid new from to front (64 * whole + rest) f g o (omega (arith, l, m)) two r)

pub many-down : (old first mid new : List ℕ) (from to len : ℕ) → length first ≡ length old →
    length mid ≡ length first → length new ≡ length mid → to ≤ from → 64 ≤ len → from + len ≤ 64 * length old
    → IsMoved old from to (filling to) first
    → IsMoved first (from + filling to) (64 * ((to + filling to) / 64)) (64 * whole_words to len) mid
    → IsMoved mid (from + (filling to + 64 * whole_words to len)) (to + (filling to + 64 * whole_words to len))
    (len - (filling to + 64 * whole_words to len)) new
    → IsMoved old from to len new
many-down old first mid new from to len e f g o h l =
    parts-down old first mid new from to len (filling to) (whole_words to len) e (f ∙ e) (g ∙ f ∙ e) o l (parts-low to len h) (fills to)

pub many-up : (old last mid new : List ℕ) (from to len : ℕ) → length last ≡ length old →
    length mid ≡ length last → length new ≡ length mid → from ≤ to → 64 ≤ len → to + len ≤ 64 * length old
    → IsMoved old (from + (filling to + 64 * whole_words to len)) (to + (filling to + 64 * whole_words to len))
    (len - (filling to + 64 * whole_words to len)) last
    → IsMoved last (from + filling to) (64 * ((to + filling to) / 64)) (64 * whole_words to len) mid
    → IsMoved mid from to (filling to) new
    → IsMoved old from to len new
many-up old last mid new from to len e f g o h l =
    parts-up old last mid new from to len (filling to) (whole_words to len) e (f ∙ e) (g ∙ f ∙ e) o l (parts-low to len h) (fills to)

-- ---- words

-- a whole word that is stored
pub word-stored : (ws : List ℕ) (place v : ℕ) → place < length ws → ((i : ℕ) → Fits w64 (slice_index_or ws i 0)) →
    v < 2 ^ 64 → slice_set ws place v ≡ with_digits ws (64 * place) 64 v
word-stored ws place v l h f =
    let a : 64 * place / 64 ≡ place = omega arith in
    let b : 64 - 64 * place % 64 - 64 ≡ 0 = omega arith in
    let w : ℕ = slice_index_or ws (64 * place / 64) 0 in
    let whole : slice_index_or ws (64 * place / 64) 0 / 2 ^ 0 % 2 ^ 64 * 2 ^ 0 ≡ slice_index_or ws (64 * place / 64) 0 = all w (h (64 * place / 64)).fits in
    ap (λ t. slice_set ws t v) (sym a)
    ∙ one ws (64 * place) 64 v v (omega arith) (omega arith) (omega (arith, l)) h f
    (subst (λ t. v + slice_index_or ws (64 * place / 64) 0 / 2 ^ t % 2 ^ 64 * 2 ^ t ≡ slice_index_or ws (64 * place / 64) 0 + v * 2 ^ t) (sym b) (omega (arith, whole)))
  where
    all : (w : ℕ) → w < 2 ^ 64 → w / 2 ^ 0 % 2 ^ 64 * 2 ^ 0 ≡ w
    all w l =
        let z : w / 2 ^ 0 ≡ w = omega arith in
        let m : w % 2 ^ 64 ≡ w = mod-eq_of_lt l in
        ap (λ t. t % 2 ^ 64 * 2 ^ 0) z ∙ omega (arith, m)

-- a word that is made of two, in the first of which `shift` digits stand in front
pub word-across : (ws : List ℕ) (start shift v : ℕ) → shift < 64 → suc start < length ws → ((i : ℕ) → Fits w64 (slice_index_or ws i 0))
    → v ≡ slice_index_or ws start 0 % 2 ^ (64 - shift) * 2 ^ shift + slice_index_or ws (suc start) 0 / 2 ^ (64 - shift)
    → v ≡ digits_at ws (64 * start + shift) 64
word-across ws start shift v q s h e =
    let room : 64 - shift + shift ≡ 64 = omega (arith, q) in
    e ∙ sym (digits-two ws start shift (64 - shift) shift (64 - shift) (omega (arith, q)) (omega (arith, q)) s
    (each-fits ws h)) ∙ ap (λ t. digits_at ws (64 * start + shift) t) room

pub word-put : (ws : List ℕ) (place v : ℕ) → place < length ws → ((i : ℕ) → Fits w64 (slice_index_or ws i 0)) → v < 2 ^ 64 →
    IsPut ws (64 * place) 64 v (slice_set ws place v)
word-put ws place v l h small =
    let inside : 64 * place + 64 ≤ 64 * length ws = omega (arith, l) in
    put ws _ (64 * place) 64 v inside small h (word-stored ws place v l h small)

pub word-moved : (ws : List ℕ) (start shift place v : ℕ) → 0 < shift → shift < 64 → suc start < length ws →
    place < length ws → ((i : ℕ) → Fits w64 (slice_index_or ws i 0))
    → v ≡ slice_index_or ws start 0 % 2 ^ (64 - shift) * 2 ^ shift + slice_index_or ws (suc start) 0 / 2 ^ (64 - shift)
    → IsMoved ws (64 * start + shift) (64 * place) 64 (slice_set ws place v)
word-moved ws start shift place v p q s l h e =
    let d : v ≡ digits_at ws (64 * start + shift) 64 = word-across ws start shift v q s h e in
    let small : v < 2 ^ 64 = subst (λ t. t < 2 ^ 64) (sym d) (digits-below ws (64 * start + shift) 64) in
    moved-put ws _ (64 * start + shift) (64 * place) 64 v d (word-put ws place v l h small)

-- digits of words that are equal
same-words : (old new : List ℕ) (from to n : ℕ) →
    ((i : ℕ) → i < n → slice_index_or new (to + i) 0 ≡ slice_index_or old (from + i) 0) → from + n ≤ length old →
    to + n ≤ length new
    → Each (λ x. x < 2 ^ 64) old → Each (λ x. x < 2 ^ 64) new → digits_at new (64 * to) (64 * n) ≡ digits_at old (64 * from) (64 * n)
same-words old new from to zero s l m h k =
    mod-one (number_in new / 2 ^ (64 * length new - 64 * to - 0)) ∙ sym (mod-one (number_in old / 2 ^ (64 * length old - 64 * from - 0)))
same-words old new from to (suc n) s l m h k =
    let e : 64 * suc n ≡ 64 * n + 64 = omega arith in
    let a : 64 * (to + n) + 0 ≡ 64 * to + 64 * n = omega arith in
    let b : 64 * (from + n) + 0 ≡ 64 * from + 64 * n = omega arith in
    let last : digits_at new (64 * to + 64 * n) 64 ≡ digits_at old (64 * from + 64 * n) 64 =
    ap (λ t. digits_at new t 64) (sym a)
    ∙ digits-one new (to + n) 0 64 0 refl (omega (arith, m)) k
    ∙ ap (λ t. t / 2 ^ 0 % 2 ^ 64) (s n (omega arith))
    ∙ sym (digits-one old (from + n) 0 64 0 refl (omega (arith, l)) h)
    ∙ ap (λ t. digits_at old t 64) b in
    ap (λ t. digits_at new (64 * to) t) e
    ∙ digits-parts new (64 * to) (64 * n) 64 (omega (arith, m))
    ∙ ap (λ t. t * 2 ^ 64 + digits_at new (64 * to + 64 * n) 64) (same-words old new from to n (λ i p. s i (omega (arith, p))) (omega (arith, l)) (omega (arith, m)) h k)
    ∙ ap (λ t. digits_at old (64 * from) (64 * n) * 2 ^ 64 + t) last
    ∙ sym (digits-parts old (64 * from) (64 * n) 64 (omega (arith, l)))
    ∙ ap (λ t. digits_at old (64 * from) t) (sym e)

-- digits within words that stayed
same-digits : (old new : List ℕ) (at n a k : ℕ) →
    ((i : ℕ) → i < n → slice_index_or new (at + i) 0 ≡ slice_index_or old (at + i) 0) → length new ≡ length old →
    at + n ≤ length old
    → Each (λ x. x < 2 ^ 64) old → Each (λ x. x < 2 ^ 64) new → 64 * at ≤ a → a + k ≤ 64 * (at + n) → digits_at new a k ≡ digits_at old a k
same-digits old new at n a k s e l h j f g =
    let p : ℕ = a - 64 * at in
    let b : 64 * at + (a - 64 * at) ≡ a = omega (arith, f) in
    let i : a - 64 * at + k ≤ 64 * n = omega (arith, f, g) in
    ap (λ t. digits_at new t k) (sym b)
    ∙ sym (digits-within new (64 * at) (64 * n) p k (omega (arith, l, e)) i)
    ∙ ap (λ t. t / 2 ^ (64 * n - p - k) % 2 ^ k) (same-words old new at at n s l (omega (arith, l, e)) h j)
    ∙ digits-within old (64 * at) (64 * n) p k (omega (arith, l)) i
    ∙ ap (λ t. digits_at old t k) b

-- whole words that were copied
pub words-moved : (old new : List ℕ) (from to n : ℕ) → length new ≡ length old → from + n ≤ length old →
    to + n ≤ length old → ((i : ℕ) → Fits w64 (slice_index_or old i 0)) → ((i : ℕ) → Fits w64 (slice_index_or new i 0))
    → ((i : ℕ) → i < n → slice_index_or new (to + i) 0 ≡ slice_index_or old (from + i) 0)
    → ((i : ℕ) → i < to → slice_index_or new i 0 ≡ slice_index_or old i 0)
    → ((i : ℕ) → to + n ≤ i → slice_index_or new i 0 ≡ slice_index_or old i 0)
    → IsMoved old (64 * from) (64 * to) (64 * n) new
words-moved old new from to n e l m h k s f g = record {
  value = same-words old new from to n s l (omega (arith, e, m)) (each-fits old h) (each-fits new k);
  front = λ a w p. same-digits old new 0 to a w (λ i q. f (0 + i) (omega (arith, q))) e (omega (arith, m))
      (each-fits old h) (each-fits new k) (omega arith) (omega (arith, p));
  behind = λ a w p q.
      same-digits old new (to + n) (length old - (to + n)) a w (λ i r. g (to + n + i) (omega arith)) e
      (omega (arith, m)) (each-fits old h) (each-fits new k) (omega (arith, p)) (omega (arith, q, m));
}
