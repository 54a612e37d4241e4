-- Values that are moved up behind longer tables, with a new one among them.
use Rattle.std.proofs.Common.{◌≡◌, ℕ, suc, ◌+◌, ◌-◌, ◌≤◌, sym, ◌∙◌, ap, arith, List, [], ◌∷◌, ◌++◌, length, take, drop, slice_set}
use Rattle.std.specs.List.{copy_within}
use Rattle.std.proofs.lemmas.List.{append_assoc, take-take, drop_at, drop-take, drop-drop, drop_all, append-nil}
use Rattle.std.proofs.lemmas.List.{length-drop, length-take-le, take-set-le, take-append-le, set_split}
use Rattle.std.proofs.lemmas.List.Edits.{take-paste, drop-paste, length-paste}

-- words that are copied from a place on leave those in front of it
front-left : (ws : List ℕ) (n i j at : ℕ) → n ≤ at → at ≤ length ws → take n (copy_within ws i j at) ≡ take n ws
front-left ws n i j at l m =
    let a : length (take at ws) ≡ at = length-take-le at ws m in
    ap (take n) (append_assoc (take at ws) (take (j - i) (drop i ws)) (drop (at + (j - i)) ws))
    ∙ take-append-le n (take at ws) (take (j - i) (drop i ws) ++ drop (at + (j - i)) ws) (omega (arith, l, a))
    ∙ take-take n at ws l

module _ (ws : List ℕ) (len v o f : ℕ) (value : ℕ) (l : o + f ≤ len) (m : o ≤ v) (n : v + (len - o) + 1 ≡ length ws) where
  -- the values behind the place are moved, and then those in front of it
  abbrev one : List ℕ
  one = copy_within ws (o + f) len (v + f + 1)

  abbrev two : List ℕ
  two = copy_within (copy_within ws (o + f) len (v + f + 1)) o (o + f) v

  fits : v + f + 1 + (len - (o + f)) ≡ length ws
  fits = omega (arith, l, n)

  source : len - (o + f) ≤ length (drop (o + f) ws)
  source = omega (arith, length-drop (o + f) ws, l, m, n)

  one-long : length one ≡ length ws
  one-long = length-paste ws (v + f + 1) (drop (o + f) ws) (len - (o + f)) (omega (arith, fits)) source

  one-front : take (o + f) one ≡ take (o + f) ws
  one-front = front-left ws (o + f) (o + f) len (v + f + 1) (omega (arith, m)) (omega (arith, fits))

  one-back : drop (v + f + 1) one ≡ take (len - (o + f)) (drop (o + f) ws)
  one-back =
      let k : ℕ = len - (o + f) in
      let a : length (take (v + f + 1) ws) ≡ v + f + 1 = length-take-le (v + f + 1) ws (omega (arith, fits)) in
      let none : drop (v + f + 1 + (len - (o + f))) ws ≡ [] = drop_all (v + f + 1 + (len - (o + f))) ws (omega (arith, fits)) in
      ap (λ t. drop (v + f + 1) ((take (v + f + 1) ws ++ take k (drop (o + f) ws)) ++ t)) none
      ∙ ap (drop (v + f + 1)) (append-nil (take (v + f + 1) ws ++ take k (drop (o + f) ws)))
      ∙ drop_at (take (v + f + 1) ws) (take k (drop (o + f) ws)) (v + f + 1) a

  -- words that are moved to a place, which hold those behind another place
  inner : take f (drop o one) ≡ take f (drop o ws)
  inner = sym (drop-take o f one) ∙ ap (drop o) one-front ∙ drop-take o f ws

  two-long : length two ≡ length ws
  two-long =
      length-paste one v (drop o one) (o + f - o) (omega (arith, one-long, fits, l)) (omega (arith, length-drop o one, one-long, l, m, n)) ∙ one-long

  two-front : take (v + f) two ≡ take v one ++ take f (drop o one)
  two-front =
      let k : o + f - o ≡ f = omega arith in
      ap (λ t. take (v + t) two) (sym k)
      ∙ take-paste one v (drop o one) (o + f - o) (omega (arith, one-long, fits)) (omega (arith, length-drop o one, one-long, l, m, n))
      ∙ ap (λ t. take v one ++ take t (drop o one)) k

  two-back : drop (v + f) two ≡ drop (v + f) one
  two-back =
      let k : o + f - o ≡ f = omega arith in
      ap (λ t. drop (v + t) two) (sym k)
      ∙ drop-paste one v (drop o one) (o + f - o) (omega (arith, one-long, fits)) (omega (arith, length-drop o one, one-long, l, m, n))
      ∙ ap (λ t. drop (v + t) one) k

  two-next : drop (suc (v + f)) two ≡ take (len - (o + f)) (drop (o + f) ws)
  two-next =
      let k : v + f + 1 ≡ suc (v + f) = omega arith in
      ap (λ t. drop t two) (sym k) ∙ sym (drop-drop 1 (v + f) two) ∙ ap (drop 1) two-back ∙ drop-drop 1 (v + f) one ∙ one-back

  -- the values that there were, in front of the place and behind it
  old-front : take f (drop o (take len ws)) ≡ take f (drop o ws)
  old-front =
      let k : o + (len - o) ≡ len = omega (arith, l) in
      ap (λ t. take f (drop o (take t ws))) (sym k) ∙ ap (take f) (drop-take o (len - o) ws) ∙ take-take f (len - o) (drop o ws) (omega (arith, l))

  old-back : drop f (drop o (take len ws)) ≡ take (len - (o + f)) (drop (o + f) ws)
  old-back =
      let k : o + f + (len - (o + f)) ≡ len = omega (arith, l) in
      drop-drop f o (take len ws) ∙ ap (λ t. drop (o + f) (take t ws)) (sym k) ∙ drop-take (o + f) (len - (o + f)) ws

  pub open-front : take o (slice_set two (v + f) value) ≡ take o ws
  open-front =
      take-set-le o two (v + f) value (omega (arith, m))
      ∙ front-left one o o (o + f) v m (omega (arith, one-long, fits))
      ∙ front-left ws o (o + f) len (v + f + 1) (omega (arith, m)) (omega (arith, fits))

  pub open-values : drop v (slice_set two (v + f) value) ≡ take f (drop o (take len ws)) ++ value ∷ drop f (drop o (take len ws))
  open-values =
      let a : length (take v one) ≡ v = length-take-le v one (omega (arith, one-long, fits)) in
      let rest : List ℕ = take (len - (o + f)) (drop (o + f) ws) in
      ap (drop v) (set_split two (v + f) value (omega (arith, two-long, fits)))
      ∙ ap (λ t. drop v (t ++ value ∷ drop (suc (v + f)) two)) two-front
      ∙ ap (λ t. drop v ((take v one ++ take f (drop o one)) ++ value ∷ t)) two-next
      ∙ ap (drop v) (append_assoc (take v one) (take f (drop o one)) (value ∷ rest))
      ∙ drop_at (take v one) (take f (drop o one) ++ value ∷ rest) v a
      ∙ ap (λ t. t ++ value ∷ rest) (inner ∙ sym old-front)
      ∙ ap (λ t. take f (drop o (take len ws)) ++ value ∷ t) (sym old-back)
