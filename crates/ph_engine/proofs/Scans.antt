-- What a search for a line feed tells of a piece.
use Rattle.std.proofs.Common.{◌≡◌, ℕ, zero, suc, ◌+◌, ◌<◌, ◌≤◌, Bool, true, false, not, List, [], ◌∷◌, ◌++◌, length, take, drop, get_or, refl, ap}
use Rattle.std.proofs.Common.{sym, ◌∙◌, arith, length-drop}
use Rattle.std.specs.Prelude.{◌==◌, nat_lt}
use Rattle.std.proofs.lemmas.List.Sums.{fails_before_first, passes_at_first}
use Rattle.ph_script.specs.Shown.{is_feed, feed_at, before_feed, unended}
use Rattle.ph_engine.specs.Machine.{KEPT, KEPT-is}
use Rattle.ph_io.proofs.Appending.{take_plus}
use Rattle.std.proofs.lemmas.List.{take-append-drop}
use Rattle.std.proofs.lemmas.Bool.Decides.{nat_tests}
use Rattle.ph_specs.specs.Lines.{LF}
use Rattle.ph_specs.proofs.laws.Put.{and}
use Rattle.ph_engine.specs.Cutting.{is_unbroken}

-- the byte at a place is no line feed
abbrev IsOther : List ℕ → ℕ → Type 0
IsOther bytes k = (get_or bytes k 0 == LF) ≡ true → ⊥

not-by : (b : Bool) → (b ≡ true → ⊥) → not b ≡ true
not-by true h = absurd (h refl)
not-by false h = refl

-- all bytes in front of a place
front-unbroken : (bytes : List ℕ) (i : ℕ) → i ≤ length bytes → ((k : ℕ) → k < i → IsOther bytes k) → is_unbroken (take i bytes) ≡ true
front-unbroken [] zero l h = refl
front-unbroken [] (suc i) l h = absurd (omega arith)
front-unbroken (b ∷ bs) zero l h = refl
front-unbroken (b ∷ bs) (suc i) l h =
    and _ _ (not-by (b == LF) (h 0 (omega arith))) (front-unbroken bs i (omega arith) (λ k m. h (suc k) (omega arith)))

-- all bytes
all-unbroken : (bytes : List ℕ) → ((k : ℕ) → k < length bytes → IsOther bytes k) → is_unbroken bytes ≡ true
all-unbroken [] h = refl
all-unbroken (b ∷ bs) h = and _ _ (not-by (b == LF) (h 0 (omega arith))) (all-unbroken bs (λ k m. h (suc k) (omega arith)))

-- what is in front of a line feed, the line feed, and what is behind
parted : (bytes : List ℕ) (i : ℕ) → i < length bytes → (get_or bytes i 0 == LF) ≡ true → take i bytes ++ LF ∷ [] ≡ take (suc i) bytes
parted [] i l h = absurd (omega arith)
parted (b ∷ bs) zero l h = let e : b ≡ LF = grind (arith, nat_tests) in ap (λ t. t ∷ []) (sym e)
parted (b ∷ bs) (suc i) l h = ap (λ t. b ∷ t) (parted bs i (omega arith) h)

-- ---- the first line feed of a piece from a place on

fails : (bytes : List ℕ) (k : ℕ) → k < feed_at bytes → IsOther bytes k
fails bytes k l e = let f : is_feed (get_or bytes k 0) ≡ false = fails_before_first is_feed bytes k 0 l in let clash : true ≡ false = sym e ∙ f in cc

passes : (bytes : List ℕ) → feed_at bytes < length bytes → (get_or bytes (feed_at bytes) 0 == LF) ≡ true
passes bytes l = passes_at_first is_feed bytes 0 l

-- what is in front of it, and what it ends
pub feed-unbroken : (bytes : List ℕ) → feed_at bytes < length bytes → is_unbroken (before_feed bytes) ≡ true
feed-unbroken bytes l = front-unbroken bytes (feed_at bytes) (omega (arith, l)) (λ k m. fails bytes k m)

pub none-unbroken : (bytes : List ℕ) → feed_at bytes ≡ length bytes → is_unbroken bytes ≡ true
none-unbroken bytes e = all-unbroken bytes (λ k l. fails bytes k (omega (arith, e, l)))

pub feed-next : (piece : List ℕ) (at next : ℕ) → feed_at (drop at piece) < length (drop at piece) →
    next ≡ at + feed_at (drop at piece) + 1 → take at piece ++ (before_feed (drop at piece) ++ LF ∷ []) ≡ take next piece
feed-next piece at next l e =
    let n : next ≡ at + suc (feed_at (drop at piece)) = omega (arith, e) in
    ap (λ t. take at piece ++ t) (parted (drop at piece) (feed_at (drop at piece)) l (passes (drop at piece) l)) ∙
    rw n (take_plus piece at (suc (feed_at (drop at piece))))

pub feed-within : (piece : List ℕ) (at next : ℕ) → at ≤ length piece →
    feed_at (drop at piece) < length (drop at piece) → next ≡ at + feed_at (drop at piece) + 1 → next ≤ length piece
feed-within piece at next w l e = omega (arith, e, l, length-drop at piece)

pub whole : (piece : List ℕ) (at : ℕ) → take at piece ++ drop at piece ≡ piece
whole piece at = take-append-drop at piece

-- what is kept behind a line feed, and where there is none
pub unended-feed : (line bytes : List ℕ) → feed_at bytes < length bytes → unended line bytes ≡ []
unended-feed line bytes l = let t : nat_lt (feed_at bytes) (length bytes) ≡ true = grind (arith, nat_tests) in rw t refl

pub unended-none : (line bytes : List ℕ) → feed_at bytes ≡ length bytes → unended line bytes ≡ take KEPT (line ++ bytes)
unended-none line bytes e =
    let t : nat_lt (feed_at bytes) (length bytes) ≡ false = grind (arith, nat_tests) in
    rw t (ap (λ n. take n (line ++ bytes)) (sym KEPT-is))
