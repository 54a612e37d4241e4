-- The words of the first places, where one place more has a word, and where a place has another word.
use Rattle.std.proofs.Common.{◌≡◌, ℕ, zero, suc, ◌+◌, ◌-◌, ◌<◌, ◌≤◌, refl, sym, ◌∙◌, ap, subst, arith, List, [], ◌∷◌, ◌++◌, append_assoc}
use Rattle.std.proofs.Common.{length, length-append, length-drop, length-take, map, take, take_at, drop, slice_set, Option, Some}
use Rattle.std.proofs.lemmas.List.{length-set, length-map, map-append, take-map}
use Rattle.std.specs.List.{refill}
use Rattle.ph_bits.specs.Slots.{given, words_at, words_in, AreWritten}

given-some : (xs : List ℕ) → map given (map Some xs) ≡ xs
given-some [] = refl
given-some (x ∷ xs) = ap {B = List ℕ} (λ t. x ∷ t) (given-some xs)

pub words-given : (n : ℕ) (cs : List (Option ℕ)) (xs : List ℕ) → take n cs ≡ map Some xs → words_at n cs ≡ xs
words-given n cs xs e = ap (map given) e ∙ given-some xs

take-more : (n : ℕ) (cs : List (Option ℕ)) (x : ℕ) → n < length cs → take (n + 1) (slice_set cs n (Some x)) ≡ take n cs ++ Some x ∷ []
take-more n [] x l = absurd (omega (arith, l))
take-more zero (c ∷ cs) x l = refl
take-more (suc n) (c ∷ cs) x l =
    let e : suc n + 1 ≡ suc (n + 1) = omega arith in
    ap (λ t. take t (c ∷ slice_set cs n (Some x))) e ∙ ap {B = List (Option ℕ)} (λ t. c ∷ t) (take-more n cs x (omega (arith, l)))

map-more : (xs : List ℕ) (x : ℕ) → map Some xs ++ Some x ∷ [] ≡ map Some (xs ++ x ∷ [])
map-more [] x = refl
map-more (y ∷ xs) x = ap {B = List (Option ℕ)} (λ t. Some y ∷ t) (map-more xs x)

pub written-more : (n : ℕ) (cs : List (Option ℕ)) (x : ℕ) → AreWritten n cs → n < length cs → AreWritten (n + 1) (slice_set cs n (Some x))
written-more n cs x h l =
    let m : n + 1 ≤ length (slice_set cs n (Some x)) = omega (arith, l, length-set cs n (Some x)) in
    (m, (h.1.0 ++ x ∷ [], take-more n cs x l ∙ ap (λ t. t ++ Some x ∷ []) h.1.1 ∙ map-more h.1.0 x))

words-more : (n : ℕ) (cs : List (Option ℕ)) (x : ℕ) → n < length cs → words_at (n + 1) (slice_set cs n (Some x)) ≡ words_at n cs ++ x ∷ []
words-more n cs x l = ap (map given) (take-more n cs x l) ∙ map-append given (take n cs) (Some x ∷ [])

-- one word more behind i of them
pub written-behind : (n i : ℕ) (cs ds : List (Option ℕ)) (x : ℕ) → ds ≡ slice_set cs (n + i) (Some x) →
    n + i < length cs → AreWritten (n + i) cs → AreWritten (n + (i + 1)) ds
written-behind n i cs ds x e l h =
    let next : n + i + 1 ≡ n + (i + 1) = omega arith in subst (λ t. AreWritten t ds) next (subst (AreWritten (n + i + 1)) (sym e) (written-more (n + i) cs x h l))

pub words-behind : (n i : ℕ) (cs ds : List (Option ℕ)) (x : ℕ) (ws xs : List ℕ) → ds ≡ slice_set cs (n + i) (Some x) →
    n + i < length cs → words_at (n + i) cs ≡ ws ++ xs → words_at (n + (i + 1)) ds ≡ ws ++ (xs ++ x ∷ [])
words-behind n i cs ds x ws xs e l h =
    let next : n + (i + 1) ≡ n + i + 1 = omega arith in
    ap (λ t. words_at t ds) next ∙ ap (words_at (n + i + 1)) e ∙ words-more (n + i) cs x l ∙ ap (λ t. t ++ x ∷ []) h ∙ append_assoc ws xs (x ∷ [])

take-set : (n i : ℕ) (cs : List (Option ℕ)) (c : Option ℕ) → take n (slice_set cs i c) ≡ slice_set (take n cs) i c
take-set n i [] c = ends n
  where
    ends : (n : ℕ) → take n (slice_set [] i c) ≡ slice_set (take n []) i c
    ends zero = refl
    ends (suc n) = refl
take-set zero zero (d ∷ cs) c = refl
take-set zero (suc i) (d ∷ cs) c = refl
take-set (suc n) zero (d ∷ cs) c = refl
take-set (suc n) (suc i) (d ∷ cs) c = ap {B = List (Option ℕ)} (λ t. d ∷ t) (take-set n i cs c)

set-some : (xs : List ℕ) (i x : ℕ) → slice_set (map Some xs) i (Some x) ≡ map Some (slice_set xs i x)
set-some [] i x = refl
set-some (y ∷ xs) zero x = refl
set-some (y ∷ xs) (suc i) x = ap {B = List (Option ℕ)} (λ t. Some y ∷ t) (set-some xs i x)

set-given : (cs : List (Option ℕ)) (i x : ℕ) → map given (slice_set cs i (Some x)) ≡ slice_set (map given cs) i x
set-given [] i x = refl
set-given (c ∷ cs) zero x = refl
set-given (c ∷ cs) (suc i) x = ap {B = List ℕ} (λ t. given c ∷ t) (set-given cs i x)

pub written-set : (n : ℕ) (cs : List (Option ℕ)) (i x : ℕ) → AreWritten n cs → AreWritten n (slice_set cs i (Some x))
written-set n cs i x h =
    let m : n ≤ length (slice_set cs i (Some x)) = omega (arith, h.0, length-set cs i (Some x)) in
    (m, (slice_set h.1.0 i x, take-set n i cs (Some x) ∙ ap (λ t. slice_set t i (Some x)) h.1.1 ∙ set-some h.1.0 i x))

pub words-set : (n : ℕ) (cs : List (Option ℕ)) (i x : ℕ) → words_at n (slice_set cs i (Some x)) ≡ slice_set (words_at n cs) i x
words-set n cs i x = ap (map given) (take-set n i cs (Some x)) ∙ set-given (take n cs) i x

-- ---- fewer places

pub take-fewer : {A : Type 0} (m n : ℕ) (cs : List A) → m ≤ n → take m cs ≡ take m (take n cs)
take-fewer zero n cs l = refl
take-fewer (suc m) zero cs l = absurd (omega (arith, l))
take-fewer (suc m) (suc n) [] l = refl
take-fewer {A = A} (suc m) (suc n) (c ∷ cs) l = ap {B = List A} (λ t. c ∷ t) (take-fewer m n cs (omega (arith, l)))

pub written-fewer : (m n : ℕ) (cs : List (Option ℕ)) → m ≤ n → AreWritten n cs → AreWritten m cs
written-fewer m n cs l h =
    let k : m ≤ length cs = omega (arith, l, h.0) in (k, (take m h.1.0, take-fewer m n cs l ∙ ap (take m) h.1.1 ∙ take-map Some m h.1.0))

pub words-fewer : (m n : ℕ) (cs : List (Option ℕ)) → m ≤ n → words_at m cs ≡ take m (words_at n cs)
words-fewer m n cs l = ap (map given) (take-fewer m n cs l) ∙ sym (take-map given m (take n cs))

pub length-words : (n : ℕ) (cs : List (Option ℕ)) → AreWritten n cs → length (words_at n cs) ≡ n
length-words n cs h = omega (arith, length-map (take n cs) given, length-take n cs, h.0)

-- ---- behind the header

set-behind : (cs : List (Option ℕ)) (i : ℕ) (c : Option ℕ) → drop 1 (slice_set cs (i + 1) c) ≡ slice_set (drop 1 cs) i c
set-behind [] i c = refl
set-behind (d ∷ cs) i c = let e : i + 1 ≡ suc i = omega arith in ap (λ k. drop 1 (slice_set (d ∷ cs) k c)) e

set-header : (cs : List (Option ℕ)) (c : Option ℕ) → drop 1 (slice_set cs 0 c) ≡ drop 1 cs
set-header [] c = refl
set-header (d ∷ cs) c = refl

pub in-header : (n : ℕ) (cs : List (Option ℕ)) (c : Option ℕ) → words_in n (slice_set cs 0 c) ≡ words_in n cs
in-header n cs c = ap (words_at n) (set-header cs c)

pub in-set : (n : ℕ) (cs : List (Option ℕ)) (i x : ℕ) → words_in n (slice_set cs (i + 1) (Some x)) ≡ slice_set (words_in n cs) i x
in-set n cs i x = ap (words_at n) (set-behind cs i (Some x)) ∙ words-set n (drop 1 cs) i x

pub in-more : (n : ℕ) (cs : List (Option ℕ)) (x : ℕ) → n + 1 < length cs → words_in (n + 1) (slice_set cs (n + 1) (Some x)) ≡ words_in n cs ++ x ∷ []
in-more n cs x l = ap (words_at (n + 1)) (set-behind cs n (Some x)) ∙ words-more n (drop 1 cs) x (omega (arith, l, length-drop 1 cs))

pub in-fewer : (m n : ℕ) (cs : List (Option ℕ)) → m ≤ n → words_in m cs ≡ take m (words_in n cs)
in-fewer m n cs l = words-fewer m n (drop 1 cs) l

pub length-in : (n : ℕ) (cs : List (Option ℕ)) → n + 1 ≤ length cs → length (words_in n cs) ≡ n
length-in n cs l = omega (arith, length-map (take n (drop 1 cs)) given, length-take n (drop 1 cs), length-drop 1 cs, l)

-- the words behind the header are those of all places but the first
pub in-at : (n : ℕ) (cs : List (Option ℕ)) → words_in n cs ≡ drop 1 (words_at (n + 1) cs)
in-at n cs = let e : n + 1 ≡ suc n = omega arith in behind n cs ∙ ap (λ k. drop 1 (words_at k cs)) (sym e)
  where
    behind : (n : ℕ) (cs : List (Option ℕ)) → words_in n cs ≡ drop 1 (words_at (suc n) cs)
    behind zero [] = refl
    behind (suc n) [] = refl
    behind n (c ∷ cs) = refl

pub written-in : (n : ℕ) (cs : List (Option ℕ)) → AreWritten (n + 1) cs → AreWritten n (drop 1 cs)
written-in n cs h =
    let next : n + 1 ≡ suc n = omega arith in
    let m : n ≤ length (drop 1 cs) = omega (arith, h.0, length-drop 1 cs) in
    (m, (drop 1 h.1.0, behind n cs ∙ ap (λ k. drop 1 (take k cs)) (sym next) ∙ ap (drop 1) h.1.1 ∙ others h.1.0))
  where
    behind : (n : ℕ) (cs : List (Option ℕ)) → take n (drop 1 cs) ≡ drop 1 (take (suc n) cs)
    behind zero [] = refl
    behind (suc n) [] = refl
    behind n (c ∷ cs) = refl

    others : (xs : List ℕ) → drop 1 (map Some xs) ≡ map Some (drop 1 xs)
    others [] = refl
    others (x ∷ xs) = refl

-- words that are written behind those
pub in-extended : (n k : ℕ) (cs ds : List (Option ℕ)) (ws : List ℕ) → AreWritten (n + 1) cs → words_at (n + 1 + k) ds ≡ words_at (n + 1) cs ++ ws
    → words_in (n + k) ds ≡ words_in n cs ++ ws
in-extended n k cs ds ws h e =
    let next : n + k + 1 ≡ n + 1 + k = omega arith in
    in-at (n + k) ds ∙ ap (λ t. drop 1 (words_at t ds)) next ∙ ap (drop 1) e
    ∙ without (words_at (n + 1) cs) ws (omega (arith, length-words (n + 1) cs h)) ∙ ap (λ (t : List ℕ). t ++ ws) (sym (in-at n cs))
  where
    without : (xs ys : List ℕ) → 0 < length xs → drop 1 (xs ++ ys) ≡ drop 1 xs ++ ys
    without [] ys l = absurd (omega (arith, l))
    without (x ∷ xs) ys l = refl

pub one_written : (cs : List (Option ℕ)) (x : ℕ) → 0 < length cs → AreWritten 1 (slice_set cs 0 (Some x))
one_written [] x l = absurd (omega (arith, l))
one_written (c ∷ cs) x l = (omega arith, (x ∷ [], refl))

-- the words that a look at the places shows
pub in-shown : (n : ℕ) (cs : List (Option ℕ)) (ws : List ℕ) → take (n + 1) cs ≡ map Some ws → take (length ws - 1) (drop 1 ws) ≡ words_in n cs
in-shown n cs ws e = up ws ∙ ap (drop 1) (sym (words-given (n + 1) cs ws e)) ∙ sym (in-at n cs)
  where
    take-all : (xs : List ℕ) → take (length xs) xs ≡ xs
    take-all [] = refl
    take-all (x ∷ xs) = ap {B = List ℕ} (λ t. x ∷ t) (take-all xs)

    up : (ws : List ℕ) → take (length ws - 1) (drop 1 ws) ≡ drop 1 ws
    up [] = refl
    up (w ∷ ws) = let e : suc (length ws) - 1 ≡ length ws = omega arith in ap (λ k. take k ws) e ∙ take-all ws

-- other words behind the header, as many as there are
refilled : (n : ℕ) (cs : List (Option ℕ)) (ws : List ℕ) → n ≤ length cs → length (map Some (refill n (words_at n cs) ws)) ≡ n
refilled n cs ws h =
    let old : List ℕ = words_at n cs in
    let e : length (words_at n cs) ≡ n = omega (arith, length-map (take n cs) given, length-take n cs, h) in
    let xs : List ℕ = refill n (words_at n cs) ws in
    omega (arith, length-map xs Some, length-take n (ws ++ drop (length ws) old), length-append ws (drop (length ws) old), length-drop (length ws) old, e)

abbrev pub lent : ℕ → List (Option ℕ) → List ℕ → List (Option ℕ)
lent n cs ws = take 1 cs ++ (map Some (refill n (words_in n cs) ws) ++ drop n (drop 1 cs))

pub in-lent : (n : ℕ) (cs : List (Option ℕ)) (ws : List ℕ) → n + 1 ≤ length cs → words_in n (lent n cs ws) ≡ refill (length (words_in n cs)) (words_in n cs) ws
in-lent n [] ws h = absurd (omega (arith, h))
in-lent n (c ∷ cs) ws h =
    let old : List ℕ = words_at n cs in
    let e : length (words_at n cs) ≡ n = omega (arith, length-map (take n cs) given, length-take n cs, h) in
    let xs : List ℕ = refill n (words_at n cs) ws in
    ap (map given) (take_at (map Some xs) (drop n cs) n (refilled n cs ws (omega (arith, h)))) ∙ given-some xs ∙ ap (λ k. refill k old ws) (sym e)

pub length-lent : (n : ℕ) (cs : List (Option ℕ)) (ws : List ℕ) → n + 1 ≤ length cs → length (lent n cs ws) ≡ length cs
length-lent n [] ws h = absurd (omega (arith, h))
length-lent n (c ∷ cs) ws h = omega (arith, length-append (map Some (refill n (words_at n cs) ws)) (drop n cs), refilled n cs ws (omega (arith, h)), length-drop n cs, h)

pub written-lent : (n : ℕ) (cs : List (Option ℕ)) (ws : List ℕ) → AreWritten (n + 1) cs → AreWritten (n + 1) (lent n cs ws)
written-lent n [] ws h = absurd (omega (arith, h.0))
written-lent n (c ∷ cs) ws h =
    let next : n + 1 ≡ suc n = omega arith in
    let m : n + 1 ≤ length (lent n (c ∷ cs) ws) = omega (arith, h.0, length-lent n (c ∷ cs) ws h.0) in
    let xs : List ℕ = refill n (words_at n cs) ws in
    let front : take n (map Some xs ++ drop n cs) ≡ map Some xs = take_at (map Some xs) (drop n cs) n (refilled n cs ws (omega (arith, h.0))) in
    let one = some_first c (take n cs) h.1.0 (ap (λ k. take k (c ∷ cs)) (sym next) ∙ h.1.1) in
    (m, (one.0 ∷ xs, ap (λ k. take k (lent n (c ∷ cs) ws)) next ∙ (λ i. one.1 i ∷ front i)))
  where
    some_first : (c : Option ℕ) (cs : List (Option ℕ)) (xs : List ℕ) → c ∷ cs ≡ map Some xs → (x : ℕ) × (c ≡ Some x)
    some_first c cs [] e = cc
    some_first c cs (x ∷ xs) e = (x, cc)
