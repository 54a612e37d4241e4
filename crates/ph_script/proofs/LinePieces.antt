-- What is kept of a line, and how it is shown.
use Rattle.std.proofs.Common.{◌≡◌, ℕ, zero, suc, ◌+◌, ◌-◌, ◌<◌, ◌≤◌, min, List, [], ◌∷◌, ◌++◌, length, take}
use Rattle.std.proofs.Common.{Bool, true, false, refl, sym, ap, ◌∙◌, subst, get_or, inl, inr, arith}
use Rattle.std.specs.Prelude.{◌==◌, nat_lt, if◌then◌else◌, Option, Some, None, slice_index}
use Rattle.std.specs.List.{position, position_or_len}
use Rattle.std.proofs.lemmas.List.Sums.{position_or_len_is}
use Rattle.memchr.specs.Find.{IsFirstByte, is_byte}
use Rattle.ph_specs.proofs.laws.Put.{either}
use Rattle.std.specs.Str.Lines.{strip_carriage_return}
use Rattle.std.proofs.lemmas.Grind.{common_steps}
use Rattle.std.proofs.lemmas.List.{length-take, take_min}
use Rattle.std.proofs.Math.Seq.{take-append-add}
use Rattle.ph_script.specs.declared.lines.Line.{Line}
use Rattle.ph_script.specs.declared.lines.Line.TheVariants.{Text, Long}
use Rattle.ph_script.specs.Shown.{is_feed, feed_at, before_feed, kept, unended, IsLine}
use Rattle.ph_script.proofs.WordCuts.{position-some, position-none}
use Rattle.std.proofs.lemmas.Bool.{lt-ltb}
use Rattle.std.proofs.lemmas.Bool.Decides.{nat_tests}

-- what is kept of a list and of more is kept of what is kept and of more
pub take-kept : (n : ℕ) (xs ys : List ℕ) → take n (take n xs ++ ys) ≡ take n (xs ++ ys)
take-kept zero xs ys = refl
take-kept (suc n) [] ys = refl
take-kept (suc n) (x ∷ xs) ys = ap (λ zs. x ∷ zs) (take-kept n xs ys)

-- the bytes for which there is room
pub keep-room : (xs ys : List ℕ) (most n : ℕ) → length xs ≤ most → n ≡ min (most - length xs) (length ys) → xs ++ take n ys ≡ take most (xs ++ ys)
keep-room xs ys most n h e =
    let m : length xs + (most - length xs) ≡ most = omega arith in
    ap (λ k. xs ++ take k ys) e ∙ ap (λ l. xs ++ l) (take_min (most - length xs) ys) ∙ sym (take-append-add xs ys (most - length xs)) ∙ ap (λ k. take k (xs ++ ys)) m

take-short : (xs : List ℕ) (n : ℕ) → length xs ≤ n → take n xs ≡ xs
take-short xs n h = grind (arith, common_steps)

take-all : (xs : List ℕ) (n : ℕ) → length (take n xs) < n → take n xs ≡ xs
take-all xs n h = grind (arith, common_steps)

-- a line is shown as what is kept of it is
pub line-kept : (line : List ℕ) (shown : Line) → IsLine (kept line) shown → IsLine line shown
line-kept line (Text text) h =
    let e : kept line ≡ line = take-all line 4097 (omega (arith, h.0)) in
    (omega (arith, h.0, ap length e), h.1 ∙ ap strip_carriage_return e)
line-kept line Long h = omega (arith, h, length-take 4097 line)

pub kept-line : (line : List ℕ) (shown : Line) → IsLine line shown → IsLine (kept line) shown
kept-line line (Text text) h =
    let e : kept line ≡ line = take-short line 4097 (omega (arith, h.0)) in
    (omega (arith, h.0, ap length e), h.1 ∙ ap strip_carriage_return (sym e))
kept-line line Long h = omega (arith, h, length-take 4097 line)

-- whether a line feed stands among bytes, by a search for it
pub feed-some : (bytes : List ℕ) (end : ℕ) → position is_feed bytes ≡ Some end → (feed_at bytes ≡ end) × (end < length bytes)
feed-some bytes end h = position-some is_feed bytes end h

pub ended : (line bytes : List ℕ) (end : ℕ) → position is_feed bytes ≡ Some end → unended line bytes ≡ []
ended line bytes end h =
    let f = feed-some bytes end h in
    rw (lt-ltb (feed_at bytes) (length bytes) (omega (arith, f.0, f.1))) refl

pub not_ended : (line bytes : List ℕ) → position is_feed bytes ≡ None → unended line bytes ≡ kept (line ++ bytes)
not_ended line bytes h =
    let f = position-none is_feed bytes h in
    let t : nat_lt (feed_at bytes) (length bytes) ≡ false = grind (arith, nat_tests) in
    rw t refl

pub feed-none : (bytes : List ℕ) → position is_feed bytes ≡ None → feed_at bytes ≡ length bytes
feed-none bytes h = position-none is_feed bytes h

-- the line that a line feed ends, and what is kept of one that has not ended, from what the buffer held
pub line-shown : (over : Bool) (old line begun rest back held now : List ℕ) (end : ℕ) (shown : Line) →
    begun ≡ (if over then [] else old) → (if over then [] else old) ≡ line → back ≡ rest → feed_at rest ≡ end →
    held ≡ kept (begun ++ take end back) → now ≡ held → IsLine now shown → IsLine (line ++ before_feed rest) shown
line-shown over old line begun rest back held now end shown b v r f h n is =
    let whole : now ≡ kept (line ++ before_feed rest) = n ∙ h ∙ rw (b, v, r, f) refl in
    line-kept (line ++ before_feed rest) shown (subst (λ xs. IsLine xs shown) whole is)

pub line-goes_on : (over : Bool) (old line begun rest back held : List ℕ) → begun ≡ (if over then [] else old) →
    (if over then [] else old) ≡ line → back ≡ rest → held ≡ kept (begun ++ back) → held ≡ kept (line ++ rest)
line-goes_on over old line begun rest back held b v r h = h ∙ rw (b, v, r) refl

pub no-byte : (xs : List ℕ) (n : ℕ) → (n == 0) ≡ true → n ≡ length xs → xs ≡ []
no-byte [] n e l = refl
no-byte (x ∷ xs) n e l =
    let k : n ≡ 0 = grind (arith, nat_tests) in
    absurd (omega (arith, k, l))

-- the same of a line that no held byte begins
pub line-whole : (over : Bool) (old line begun rest back front : List ℕ) (end : ℕ) (shown : Line) →
    begun ≡ (if over then [] else old) → (if over then [] else old) ≡ line → begun ≡ [] → back ≡ rest →
    feed_at rest ≡ end → front ≡ take end back → IsLine front shown → IsLine (line ++ before_feed rest) shown
line-whole over old line begun rest back front end shown b v empty r f t is =
    let none : line ≡ [] = sym v ∙ sym b ∙ empty in
    let whole : front ≡ line ++ before_feed rest = t ∙ rw (none, r, f) refl in
    subst (λ xs. IsLine xs shown) whole is

-- a line that a line feed ends, in bytes from a place on
pub record IsEnded (line bytes : List ℕ) (at end : ℕ) (shown : Line) : Type 0 where
  pub none : [] ≡ unended line bytes
  pub given : (feed_at bytes < length bytes) × IsLine (line ++ before_feed bytes) shown
  pub place : at + (end + 1) ≡ at + feed_at bytes + 1

pub ends : (line bytes back : List ℕ) (at end : ℕ) (shown : Line) → back ≡ bytes → Some end ≡ position is_feed back →
    (feed_at bytes ≡ end → IsLine (line ++ before_feed bytes) shown) → IsEnded line bytes at end shown
ends line bytes back at end shown same found is =
    let f : position is_feed bytes ≡ Some end = rw (← same) (sym found) in
    let feed = feed-some bytes end f in
    record { none = sym (ended line bytes end f); given = (omega (arith, feed.0, feed.1), is feed.0); place = omega (arith, feed.0) }

-- the first line feed by the search of `memchr`
no-feed : (bytes : List ℕ) (k : ℕ) → ¬ (is_byte 10 (slice_index bytes k) ≡ true) → is_feed (get_or bytes k 0) ≡ false
no-feed bytes k h =
    elim (either (is_feed (get_or bytes k 0))) [
      | inl is ↦ absurd (h is)
      | inr other ↦ other
    ]

pub found-feed : (bytes : List ℕ) (found : Option ℕ) → IsFirstByte (is_byte 10) bytes found → found ≡ position is_feed bytes
found-feed bytes None h =
    let e = position_or_len_is is_feed bytes (length bytes) 0 (omega arith) (λ k l. no-feed bytes k (h k (omega arith) l)) (λ l. absurd (omega (arith, l))) in
    let t : nat_lt (position_or_len is_feed bytes) (length bytes) ≡ false = grind (arith, nat_tests) in
    rw t refl
found-feed bytes (Some i) h =
    let e = position_or_len_is is_feed bytes i 0 (omega (arith, h.0.high)) (λ k l. no-feed bytes k (h.0.before k (omega arith) l)) (λ l. h.1) in
    let t = lt-ltb (position_or_len is_feed bytes) (length bytes) (omega (arith, e, h.0.high)) in
    rw (t, e) refl
