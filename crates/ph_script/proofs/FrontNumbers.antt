-- A number of few digits at a place of a text.
use Rattle.std.proofs.Common.{◌≡◌, ℕ, zero, suc, ◌+◌, ◌*◌, ◌-◌, ◌%◌, ◌^◌, ◌<◌, ◌≤◌, List, [], ◌∷◌, length, take, drop, get_or}
use Rattle.std.proofs.Common.{◌++◌, Bool, true, false, refl, sym, ap, ◌∙◌, subst, add-one, lit<, arith, inl, inr}
use Rattle.std.specs.Prelude.{ℤ, pos, neg_ℤ, Option, Some, None, IfSome, ◌⊎◌, ◌==◌, ◌||◌, ◌&&◌, not, nat_lt, fold, if◌then◌else◌}
use Rattle.std.specs.Array.{IsFirstChunk}
use Rattle.std.specs.Char.{is_ascii_digit}
use Rattle.std.specs.List.{list_all, position_or_len}
use Rattle.std.proofs.Math.Nat.{pow-le-pow_right, pow-succ', mod-eq_of_lt}
use Rattle.std.proofs.lemmas.Bool.{and_parts, lt-ltb}
use Rattle.std.proofs.lemmas.Bool.Decides.{nat_tests}
use Rattle.std.proofs.lemmas.List.{length-take, length-take-le, length-drop, drop-drop, drop-take, take-take, take-append-drop, get_or-drop, take_more}
use Rattle.std.proofs.lemmas.List.Sums.{fold-append}
use Rattle.std.proofs.lemmas.List.Folds.{list_all-append}
use Rattle.ph_coord.specs.Spelling.{size_of, of_whole, number_of}
use Rattle.ph_coord.specs.declared.number.Number.TheVariants.{Whole}
use Rattle.ph_specs.proofs.laws.Put.{either}
use Rattle.ph_script.specs.declared.numbers.Short.{Short}
use Rattle.ph_script.specs.Words.{IsShort, IsDigits, IsNumberAt}
use Rattle.ph_specs.specs.Lines.{is_blank, natural, number}

-- so many digits are below this
pub few-digits : (i most size : ℕ) → i ≤ most → size < 10 ^ i → size < 10 ^ most
few-digits i most size l h = omega (arith, h, pow-le-pow_right {n = 10} (omega arith) l)

natural-digits : (ds : List ℕ) → 0 < length ds → list_all is_ascii_digit ds ≡ true → natural ds ≡ Some (size_of ds)
natural-digits ds l h = rw (lt-ltb 0 (length ds) l, h) refl

short-whole : (minus : Bool) (size : ℕ) → size < 10 ^ 18 → Whole (minus && not (size == 0)) size ≡ of_whole (Some (if minus then neg_ℤ (pos size) else pos size))
short-whole false size h = rw (lt-ltb size (2 ^ 128) (omega (arith, h))) refl
short-whole true zero h = refl
short-whole true (suc size) h =
    let e : size + 1 ≡ suc size = omega arith in
    let t : (suc size == 0) ≡ false = grind (arith, nat_tests) in
    let l : nat_lt (suc size) (2 ^ 128) ≡ true = lt-ltb (suc size) (2 ^ 128) (omega (arith, h)) in
    rw (t, e, l) refl

-- what may stand before digits: a minus, a plus or nothing
abbrev pub IsSign : List ℕ → Bool → ℕ → Type 0
IsSign text minus start = ((minus ≡ true) × (start ≡ 1) × (0 < length text) × (get_or text 0 0 ≡ 45)) ⊎
    (((minus ≡ false) × (start ≡ 1) × (0 < length text) × (get_or text 0 0 ≡ 43)) ⊎ ((minus ≡ false) × (start ≡ 0)))

-- digits have no blank before the one that ends them
digits-end : (ds : List ℕ) (count : ℕ) → count ≤ length ds → list_all is_ascii_digit (take count ds) ≡ true →
    (count < length ds → is_blank (get_or ds count 0) ≡ true) → position_or_len is_blank ds ≡ count
digits-end [] zero l h e = refl
digits-end (d ∷ ds) zero l h e = rw (e (omega arith)) refl
digits-end [] (suc count) l h e = absurd (omega (arith, l))
digits-end (d ∷ ds) (suc count) l h e =
    let p = and_parts (is_ascii_digit d) (list_all is_ascii_digit (take count ds)) h in
    let other : is_blank d ≡ false = grind (arith, nat_tests) in
    let i = digits-end ds count (omega (arith, l)) p.1 (λ k. e (omega (arith, k))) in
    rw (other, i) (omega arith)

digit-sign : (d : ℕ) → is_ascii_digit d ≡ true → ((d == 43) ≡ false) × ((d == 45) ≡ false)
digit-sign d h = (grind (arith, nat_tests), grind (arith, nat_tests))

plain-number : (ds : List ℕ) → 0 < length ds → list_all is_ascii_digit ds ≡ true → number ds ≡ Some (pos (size_of ds))
plain-number [] l h = absurd (omega (arith, l))
plain-number (d ∷ ds) l h =
    let s = digit-sign d (and_parts _ _ h).0 in
    rw (s.0, s.1) (rw (natural-digits (d ∷ ds) l h) refl)

-- the number behind a sign, and where its word ends
pub record Ends (text : List ℕ) (end : ℕ) (z : ℤ) : Type 0 where
  pub blank : position_or_len is_blank text ≡ end
  pub same : number (take end text) ≡ Some z

signed-ends : (b : ℕ) (ds : List ℕ) (minus : Bool) (count size : ℕ) → (minus ≡ true) × (b ≡ 45) ⊎ (minus ≡ false) ×
    (b ≡ 43) → 0 < count → count ≤ length ds → list_all is_ascii_digit (take count ds) ≡ true →
    size ≡ size_of (take count ds) → (count < length ds → is_blank (get_or ds count 0) ≡ true) →
    Ends (b ∷ ds) (suc count) (if minus then neg_ℤ (pos size) else pos size)
signed-ends b ds minus count size s some l h e k =
    let more : 0 < length (take count ds) = omega (arith, length-take count ds) in
    let n = natural-digits (take count ds) more h in
    let i = digits-end ds count l h k in
    elim s [
      | inl m ↦ record { blank = rw (m.1, i) (omega arith); same = rw (m.0, m.1, n, e) refl }
      | inr p ↦ record { blank = rw (p.1, i) (omega arith); same = rw (p.0, p.1, n, e) refl }
    ]

plain-ends : (ds : List ℕ) (count size : ℕ) → 0 < count → count ≤ length ds →
    list_all is_ascii_digit (take count ds) ≡ true → size ≡ size_of (take count ds) →
    (count < length ds → is_blank (get_or ds count 0) ≡ true) → Ends ds count (pos size)
plain-ends ds count size some l h e k =
    let more : 0 < length (take count ds) = omega (arith, length-take count ds) in
    record { blank = digits-end ds count l h k; same = plain-number (take count ds) more h ∙ ap (λ n. Some (pos n)) (sym e) }

pub front-ends : (text : List ℕ) (minus : Bool) (start count size : ℕ) → IsSign text minus start → 0 < count →
    count ≤ length (drop start text) → list_all is_ascii_digit (take count (drop start text)) ≡ true →
    size ≡ size_of (take count (drop start text)) →
    (start + count < length text → is_blank (get_or text (start + count) 0) ≡ true) →
    Ends text (start + count) (if minus then neg_ℤ (pos size) else pos size)
front-ends [] minus start count size s some l h e k = absurd (elim s [
  | inl m ↦ omega (arith, m.2)
  | inr r ↦ elim r [
    | inl p ↦ omega (arith, p.2)
    | inr n ↦ (let z = rw n.1 at l in omega (arith, z, some))
  ]
])
front-ends (b ∷ ds) minus start count size s some l h e k = elim s [
  | inl m ↦ (let one : 1 + count ≡ suc count = omega arith in
      rw (m.1, one) (signed-ends b ds minus count size (inl (m.0, m.3)) some (rw m.1 at l) (rw m.1 at h) (rw m.1 at e)
      (λ j. rw (m.1, one) at (k (rw (m.1, one) (omega (arith, j)))))))
  | inr r ↦ elim r [
    | inl p ↦ (let one : 1 + count ≡ suc count = omega arith in
        rw (p.1, one) (signed-ends b ds minus count size (inr (p.0, p.3)) some (rw p.1 at l) (rw p.1 at h)
        (rw p.1 at e) (λ j. rw (p.1, one) at (k (rw (p.1, one) (omega (arith, j)))))))
    | inr n ↦ (let none : 0 + count ≡ count = omega arith in
        rw (n.1, n.0, none) (plain-ends (b ∷ ds) count size some (rw n.1 at l) (rw n.1 at h) (rw n.1 at e) (λ j. rw (n.1, none) at (k (rw (n.1, none) j)))))
  ]
]

pub sign-of : (text : List ℕ) (minus : Bool) (start : ℕ) → 0 < length text → minus ≡ (get_or text 0 0 == 45) →
    start ≡ (if (get_or text 0 0 == 45) || (get_or text 0 0 == 43) then 1 else 0) → IsSign text minus start
sign-of text minus start l m s =
    elim (either (get_or text 0 0 == 45)) [
      | inl is ↦ inl (m ∙ is, rw is at s, l, grind (arith, nat_tests))
      | inr plain ↦ elim (either (get_or text 0 0 == 43)) [
        | inl is ↦ inr (inl (m ∙ plain, rw (plain, is) at s, l, grind (arith, nat_tests)))
        | inr other ↦ inr (inr (m ∙ plain, rw (plain, other) at s))
      ]
    ]

-- a short number in the code's terms
pub short-number : (text : List ℕ) (s : Short) → IsShort text s → Whole (s.minus && not (s.size == 0)) s.size ≡ number_of text
short-number text s h = rw h.same (short-whole s.minus s.size h.limit)

-- ---- digits one by one

-- what is below a power of ten, times ten and with a digit more
power-more : (k size digit : ℕ) → size < 10 ^ k → digit ≤ 9 → size * 10 + digit < 10 ^ (k + 1)
power-more k size digit l d = rw (add-one k, pow-succ' 10 k) (omega (arith, l, d))

pub digits-more : (text : List ℕ) (from before at size digit next : ℕ) → IsDigits text from before at size →
    at < length text → is_ascii_digit (get_or text at 0) ≡ true → digit ≤ 9 → digit ≡ get_or text at 0 - 48 →
    next ≡ ((size * 10) % 2 ^ 64 + digit) % 2 ^ 64 → IsDigits text from before (at + 1) next
digits-more text from before at size digit next h l is few d e =
    let ds = drop from text in
    let here : get_or ds h.count 0 ≡ get_or text at 0 = get_or-drop from text h.count 0 ∙ ap (λ i. get_or text i 0) h.reaches in
    let behind : h.count < length ds = omega (arith, length-drop from text, h.reaches, l) in
    let taken : take (h.count + 1) ds ≡ take h.count ds ++ get_or text at 0 ∷ [] = take_more ds h.count 0 behind ∙ ap (λ b. take h.count ds ++ b ∷ []) here in
    record {
      count = h.count + 1;
      reaches = omega (arith, h.reaches);
      within = omega (arith, l);
      digits = ap (list_all is_ascii_digit) taken ∙ list_all-append is_ascii_digit (take h.count ds) (get_or text at 0 ∷ []) ∙ rw (h.digits, is) refl;
      value = λ k b most.
          let v = h.value k b (omega (arith, most)) in
          let below : size < 10 ^ 17 = few-digits (k + h.count) 17 size (omega (arith, most)) v.1 in
          let ten : (size * 10) % 2 ^ 64 ≡ size * 10 = mod-eq_of_lt (omega (arith, below)) in
          let all : (size * 10 + digit) % 2 ^ 64 ≡ size * 10 + digit = mod-eq_of_lt (omega (arith, below, few)) in
          let is : next ≡ size * 10 + digit = e ∙ rw ten all in
          let sum : k + h.count + 1 ≡ k + (h.count + 1) = omega arith in (
            is ∙ rw (d, v.0) (sym (ap (fold (λ n b. n * 10 + (b - 48)) before) taken ∙
                fold-append (λ n b. n * 10 + (b - 48)) before (take h.count ds) (get_or text at 0 ∷ []))),
            rw is (subst (λ j. size * 10 + digit < 10 ^ j) sum (power-more (k + h.count) size digit v.1 few)),
          );
    }

digit-below : (d : ℕ) → is_ascii_digit d ≡ true → d - 48 ≤ 9
digit-below d h = grind (arith, nat_tests)

fold-below : (k n : ℕ) (ds : List ℕ) → n < 10 ^ k → list_all is_ascii_digit ds ≡ true → fold (λ n b. n * 10 + (b - 48)) n ds < 10 ^ (k + length ds)
fold-below k n [] l h = subst (λ j. n < 10 ^ j) (omega arith) l
fold-below k n (d ∷ ds) l h =
    let p = and_parts (is_ascii_digit d) (list_all is_ascii_digit ds) h in
    subst (λ j. fold (λ n b. n * 10 + (b - 48)) (n * 10 + (d - 48)) ds < 10 ^ j) (omega arith)
    (fold-below (k + 1) (n * 10 + (d - 48)) ds (power-more k n (d - 48) l (digit-below d p.0)) p.1)

-- a number that the first bytes of a text spell
digits-first : (text bytes : List ℕ) (from count size : ℕ) → from ≤ length text → IsFirstChunk (drop from text) bytes count → list_all is_ascii_digit bytes ≡ true
    → size ≡ fold (λ n b. n * 10 + (b - 48)) 0 bytes → IsDigits text from 0 (from + count) size
digits-first text bytes from count size l front digits is =
    let long : length bytes ≡ count = ap length front.same ∙ length-take-le count (drop from text) front.enough in
    record {
      count = count;
      reaches = refl;
      within = omega (arith, front.enough, length-drop from text, l);
      digits = rw front.same at digits;
      value = λ k b most. (is ∙ ap (fold (λ n b. n * 10 + (b - 48)) 0) front.same, rw (is, sym long) (fold-below k 0 bytes b digits));
    }

pub digits-read : (text bytes : List ℕ) (from count : ℕ) (read : Option ℕ) → from ≤ length text → IsFirstChunk (drop from text) bytes count
    → IfSome read (λ n. (list_all is_ascii_digit bytes ≡ true) × (n ≡ fold (λ n b. n * 10 + (b - 48)) 0 bytes)) → IfSome read (λ n. IsDigits text from 0 (from + count) n)
digits-read text bytes from count None l front h = h
digits-read text bytes from count (Some n) l front h = digits-first text bytes from count n l front h.0 h.1

take-both : (m n : ℕ) (xs : List ℕ) → take (m + n) xs ≡ take m xs ++ take n (drop m xs)
take-both m n xs = sym (take-append-drop m (take (m + n) xs)) ∙ rw (take-take m (m + n) xs (omega arith), drop-take m n xs) refl

-- digits behind others
pub digits-both : (text : List ℕ) (from at end front size : ℕ) → IsDigits text from 0 at front → IsDigits text at front end size → IsDigits text from 0 end size
digits-both text from at end front size f h =
    let ds = drop from text in
    let behind : drop at text ≡ drop f.count ds = sym (drop-drop f.count from text ∙ ap (λ i. drop i text) f.reaches) in
    let taken : take (f.count + h.count) ds ≡ take f.count ds ++ take h.count (drop at text) =
    take-both f.count h.count ds ∙ ap (λ l. take f.count ds ++ take h.count l) (sym behind) in
    record {
      count = f.count + h.count;
      reaches = omega (arith, f.reaches, h.reaches);
      within = h.within;
      digits = ap (list_all is_ascii_digit) taken ∙ list_all-append is_ascii_digit (take f.count ds) (take h.count (drop at text)) ∙ rw (f.digits, h.digits) refl;
      value = λ k b most.
          let first = f.value k b (omega (arith, most)) in
          let more = h.value (k + f.count) first.1 (omega (arith, most)) in
          let sum : k + f.count + h.count ≡ k + (f.count + h.count) = omega arith in (
            more.0 ∙ ap (λ n. fold (λ n b. n * 10 + (b - 48)) n (take h.count (drop at text))) first.0
                ∙ sym (ap (fold (λ n b. n * 10 + (b - 48)) 0) taken ∙ fold-append (λ n b. n * 10 + (b - 48)) 0 (take f.count ds) (take h.count (drop at text))),
            subst (λ j. size < 10 ^ j) sum more.1,
          );
    }

-- the number of a word at a place of a text
pub number-at : (text : List ℕ) (from : ℕ) (minus : Bool) (sign end size : ℕ) → from < length text →
    minus ≡ (get_or text from 0 == 45) →
    sign ≡ (if (get_or text from 0 == 45) || (get_or text from 0 == 43) then 1 else 0) →
    IsDigits text (from + sign) 0 end size → 0 < end - (from + sign) → end - (from + sign) ≤ 18 →
    (end < length text → is_blank (get_or text end 0) ≡ true) → IsNumberAt text from end (record { minus = minus; size = size })
number-at text from minus sign end size l m s h some few blank =
    let word = drop from text in
    let count = h.count in
    let none : from + 0 ≡ from = omega arith in
    let first : get_or text from 0 ≡ get_or word 0 0 = sym (get_or-drop from text 0 0 ∙ ap (λ i. get_or text i 0) none) in
    let total : from + (sign + count) ≡ end = omega (arith, h.reaches) in
    let behind : drop (from + sign) text ≡ drop sign word = sym (drop-drop sign from text) in
    let signed = sign-of word minus sign (omega (arith, l, length-drop from text)) (rw first at m) (rw first at s) in
    let any : 0 < count = omega (arith, some, h.reaches) in
    let v = h.value 0 (lit< tt) (omega (arith, few, h.reaches)) in
    let inside : count ≤ length (drop (from + sign) text) = omega (arith, h.within, h.reaches, length-drop (from + sign) text) in
    let ends = front-ends word minus sign count size signed any (rw behind at inside) (rw behind at h.digits)
    (rw behind at v.0) (λ k. rw (get_or-drop from text (sign + count) 0, total)
    (blank (omega (arith, k, total, length-drop from text)))) in
    record {
      count = sign + count;
      reaches = total;
      some = omega (arith, any);
      within = h.within;
      ends = ends.blank;
      number = record { same = ends.same; limit = few-digits (0 + count) 18 size (omega (arith, few, h.reaches)) v.1 };
      blank = blank;
    }
