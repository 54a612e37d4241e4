-- Bytes that go through a block to a sink, in two steps.
use Rattle.std.proofs.Common.{◌≡◌, ℕ, zero, suc, ◌+◌, ◌<◌, List, [], ◌∷◌, ◌++◌, length, take, drop, get_or}
use Rattle.std.proofs.Common.{refl, ap, sym, ◌∙◌, append_assoc, append-nil, length-append, arith}
use Rattle.std.proofs.lemmas.List.{take-append-le}
use Rattle.ph_io.specs.Giving.{Taken, Given}
use Rattle.ph_io.specs.Writing.{WritesFront}
use Rattle.ph_io.proofs.Appending.{given_none, given_both}
use Rattle.ph_specs.specs.Digits.{bytes_of, word_bytes}
use Rattle.ph_snap.specs.Saving.{Passed}

take-behind : (xs ys : List ℕ) (n : ℕ) → take (length xs + n) (xs ++ ys) ≡ xs ++ take n ys
take-behind [] ys n = ap (λ m. take m ys) (omega arith)
take-behind (x ∷ xs) ys n =
    let one : length (x ∷ xs) + n ≡ suc (length xs + n) = omega arith in
    ap (λ m. take m (x ∷ (xs ++ ys))) one ∙ ap (λ t. x ∷ t) (take-behind xs ys n)

-- what was given, and then a front of a piece, is a front of the whole
front-on : (a b c : Taken) (whole before piece behind : List ℕ) → whole ≡ before ++ (piece ++ behind) → Given a b before → WritesFront b c piece → WritesFront a c whole
front-on a b c whole before piece behind e h w =
    let front : take (length before + w.count) whole ≡ before ++ take w.count piece =
    ap (λ t. take (length before + w.count) t) e ∙ take-behind before (piece ++ behind) w.count ∙
    ap (λ t. before ++ t) (take-append-le w.count piece behind (omega (arith, w.short))) in
    record {
      count = length before + w.count;
      short = rw e (omega (arith, w.short, length-append before (piece ++ behind), length-append piece behind));
      told = rw front (given_both a b c before (take w.count piece) h w.told);
    }

-- a front of a piece is one of the piece with more behind it
pub front-more : (a b : Taken) (piece behind : List ℕ) → WritesFront a b piece → WritesFront a b (piece ++ behind)
front-more a b piece behind w = front-on a a b (piece ++ behind) [] piece behind refl (given_none a) w

pub passed-both : (a b c : Taken) (u v w xs ys : List ℕ) → Passed a u b v xs → Passed b v c w ys → Passed a u c w (xs ++ ys)
passed-both a b c u v w xs ys h k = record {
  gave = h.gave ++ k.gave;
  given = given_both a b c h.gave k.gave h.given k.given;
  all = append_assoc h.gave k.gave w
      ∙ ap (λ t. h.gave ++ t) k.all
      ∙ sym (append_assoc h.gave v ys)
      ∙ ap (λ t. t ++ ys) h.all
      ∙ append_assoc u xs ys;
}

-- bytes that passed, and then a front of those that wait with a piece behind them
pub passed-front : (a b c : Taken) (u v xs ys zs whole : List ℕ) → whole ≡ xs ++ (ys ++ zs) → Passed a u b v xs → WritesFront b c (v ++ ys) → WritesFront a c (u ++ whole)
passed-front a b c u v xs ys zs whole e h w =
    let all : u ++ whole ≡ h.gave ++ ((v ++ ys) ++ zs) =
    ap (λ t. u ++ t) e ∙ sym (append_assoc u xs (ys ++ zs)) ∙ ap (λ t. t ++ (ys ++ zs)) (sym h.all) ∙
    append_assoc h.gave v (ys ++ zs) ∙ ap (λ t. h.gave ++ t) (sym (append_assoc v ys zs)) in
    front-on a b c (u ++ whole) h.gave (v ++ ys) zs all h.given w

-- bytes that passed, and then all that wait
pub passed-given : (a b c : Taken) (u v xs : List ℕ) → Passed a u b v xs → Given b c v → Given a c (u ++ xs)
passed-given a b c u v xs h k = rw (← h.all) (given_both a b c h.gave v h.given k)

-- ---- words

pub words-more : (ws : List ℕ) (i d : ℕ) → i < length ws → bytes_of (take (suc i) ws) ≡ bytes_of (take i ws) ++ word_bytes (get_or ws i d)
words-more [] i d h = absurd (omega arith)
words-more (w ∷ ws) zero d h = append-nil (word_bytes w)
words-more (w ∷ ws) (suc i) d h =
    ap (λ t. word_bytes w ++ t) (words-more ws i d (omega arith)) ∙ sym (append_assoc (word_bytes w) (bytes_of (take i ws)) (word_bytes (get_or ws i d)))

words-rest : (ws : List ℕ) (i d : ℕ) → i < length ws → bytes_of ws ≡ bytes_of (take i ws) ++ (word_bytes (get_or ws i d) ++ bytes_of (drop (suc i) ws))
words-rest [] i d h = absurd (omega arith)
words-rest (w ∷ ws) zero d h = refl
words-rest (w ∷ ws) (suc i) d h =
    ap (λ t. word_bytes w ++ t) (words-rest ws i d (omega arith)) ∙
    sym (append_assoc (word_bytes w) (bytes_of (take i ws)) (word_bytes (get_or ws i d) ++ bytes_of (drop (suc i) ws)))

-- the first words passed, and then a front of what waits was given
pub words-front : (a b c : Taken) (u v ws : List ℕ) (i : ℕ) → i < length ws → Passed a u b v (bytes_of (take i ws)) →
    WritesFront b c v → WritesFront a c (u ++ bytes_of ws)
words-front a b c u v ws i l h w =
    let word : List ℕ = word_bytes (get_or ws i 0) in
    passed-front a b c u v (bytes_of (take i ws)) word (bytes_of (drop (suc i) ws)) (bytes_of ws) (words-rest ws i 0 l) h (front-more b c v word w)
