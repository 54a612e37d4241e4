-- Words that move up by one place, over one that is taken out.
use Rattle.std.proofs.Common.{◌≡◌, ℕ, zero, suc, ◌≤◌, ◌<◌, refl, ◌∙◌, ap, arith, List, [], ◌∷◌, ◌++◌, length, take}
use Rattle.std.proofs.Common.{take_at, drop, slice_set, slice_index_or, length-append, length-drop}
use Rattle.std.specs.List.{remove}
use Rattle.std.proofs.lemmas.List.{length-take-le}
use Rattle.std.proofs.lemmas.List.Edits.{length-remove}

-- words of which those in front of a place are what they are to be
abbrev pub moved : List ℕ → ℕ → ℕ → List ℕ
moved ws i k = take k (remove ws i) ++ drop k ws

up : (x : ℕ) (ws : List ℕ) (k : ℕ) → k < length ws → slice_set (take k ws ++ drop k (x ∷ ws)) k (slice_index_or ws k 0) ≡ take (suc k) ws ++ drop (suc k) (x ∷ ws)
up x [] k l = absurd (omega (arith, l))
up x (y ∷ ws) zero l = refl
up x (y ∷ ws) (suc k) l = ap {B = List ℕ} (λ t. y ∷ t) (up y ws k (omega (arith, l)))

pub moved-more : (ws : List ℕ) (i k : ℕ) → i ≤ k → suc k < length ws → slice_set (moved ws i k) k (slice_index_or ws (suc k) 0) ≡ moved ws i (suc k)
moved-more [] i k m l = absurd (omega (arith, l))
moved-more (x ∷ ws) zero k m l = up x ws k (omega (arith, l))
moved-more (x ∷ ws) (suc i) zero m l = absurd (omega (arith, m))
moved-more (x ∷ ws) (suc i) (suc k) m l = ap {B = List ℕ} (λ t. x ∷ t) (moved-more ws i k (omega (arith, m)) (omega (arith, l)))

pub moved-first : (ws : List ℕ) (i : ℕ) → i < length ws → moved ws i i ≡ ws
moved-first [] i l = absurd (omega (arith, l))
moved-first (x ∷ ws) zero l = refl
moved-first (x ∷ ws) (suc i) l = ap {B = List ℕ} (λ t. x ∷ t) (moved-first ws i (omega (arith, l)))

-- those behind the place are as they were
pub moved-next : (ws : List ℕ) (i k : ℕ) → i < length ws → i ≤ k → suc k < length ws → slice_index_or (moved ws i k) (suc k) 0 ≡ slice_index_or ws (suc k) 0
moved-next [] i k h m l = absurd (omega (arith, l))
moved-next (x ∷ ws) zero k h m l = next x ws k (omega (arith, l))
  where
    next : (x : ℕ) (ws : List ℕ) (k : ℕ) → k < length ws → slice_index_or (take k ws ++ drop k (x ∷ ws)) (suc k) 0 ≡ slice_index_or ws k 0
    next x [] k l = absurd (omega (arith, l))
    next x (y ∷ ws) zero l = refl
    next x (y ∷ ws) (suc k) l = next y ws k (omega (arith, l))
moved-next (x ∷ ws) (suc i) zero h m l = absurd (omega (arith, m))
moved-next (x ∷ ws) (suc i) (suc k) h m l = moved-next ws i k (omega (arith, h)) (omega (arith, m)) (omega (arith, l))

pub length-moved : (ws : List ℕ) (i k : ℕ) → i < length ws → i ≤ k → suc k ≤ length ws → length (moved ws i k) ≡ length ws
length-moved ws i k h m l = front (length-take-le k (remove ws i) (omega (arith, l, length-remove ws i h)))
  where
    front : length (take k (remove ws i)) ≡ k → length (moved ws i k) ≡ length ws
    front e = omega (arith, e, length-append (take k (remove ws i)) (drop k ws), length-drop k ws, l)

pub moved-last : (ws : List ℕ) (i k : ℕ) → i < length ws → suc k ≡ length ws → take k (moved ws i k) ≡ remove ws i
moved-last ws i k h e =
    let n : length (remove ws i) ≡ k = omega (arith, e, length-remove ws i h) in
    let m : k ≤ length (remove ws i) = omega (arith, n) in
    take_at (take k (remove ws i)) (drop k ws) k (length-take-le k (remove ws i) m) ∙ all k (remove ws i) n
  where
    all : (k : ℕ) (xs : List ℕ) → length xs ≡ k → take k xs ≡ xs
    all zero [] e = refl
    all zero (x ∷ xs) e = absurd (omega (arith, e))
    all (suc k) [] e = refl
    all (suc k) (x ∷ xs) e = ap {B = List ℕ} (λ t. x ∷ t) (all k xs (omega (arith, e)))
