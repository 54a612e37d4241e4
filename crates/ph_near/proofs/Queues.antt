-- What waits in a queue, of which an item may stand apart.
use Rattle.std.proofs.Common.{◌≡◌, ℕ, ◌<◌, arith, List, [], ◌∷◌}
use Rattle.std.specs.Prelude.{Option, Some, None, IfSome, slice_index_or}
use Rattle.std.specs.List.{AllByRecursion as Each}
use Rattle.std.specs.List.Sorted.{IsPermutation}
use Rattle.std.proofs.lemmas.List.Sorted.{IsPermutation-sym, IsPermutation-trans, IsPermutation-middle, IsPermutation-append_right}
use Rattle.ph_specs.proofs.lemmas.Gathered.{Each-permutation}
use Rattle.ph_specs.proofs.lemmas.Members.{Each-each}
use Rattle.ph_near.specs.declared.waiting.Waiting.{Waiting}
use Rattle.ph_near.specs.Waiting.{IsNext}

-- an item stays before others that move
pub before-moved : (x : Waiting) {xs ys : List Waiting} → IsPermutation xs ys → IsPermutation (x ∷ xs) (x ∷ ys)
before-moved x {xs} {ys} p = IsPermutation-append_right (x ∷ []) xs ys p

-- an item goes behind the one that stands apart
pub behind-apart : (x apart : Waiting) {others now : List Waiting} → IsPermutation (x ∷ others) now → IsPermutation (x ∷ (apart ∷ others)) (apart ∷ now)
behind-apart x apart {others} {now} p =
    IsPermutation-trans (x ∷ (apart ∷ others)) (apart ∷ (x ∷ others)) (apart ∷ now) (IsPermutation-middle (x ∷ []) apart others) (before-moved apart p)

-- another one is the next
pub other-next : (r : Option Waiting) (apart : Waiting) (others now : List Waiting) → IfSome r (λ x. x ≡ slice_index_or others 0 x) →
    IfSome r (λ x. IsNext x.distance others x now) → ((x : Waiting) → x ≡ slice_index_or others 0 x → x.distance < apart.distance) →
    IfSome r (λ x. IsNext x.distance (apart ∷ others) x (apart ∷ now))
other-next None apart others now e n l = tt
other-next (Some x) apart others now e n l = record {
  moved = IsPermutation-trans (apart ∷ others) (apart ∷ (x ∷ now)) (x ∷ (apart ∷ now)) (before-moved apart n.moved)
      (IsPermutation-middle (apart ∷ []) x now);
  first = (omega (arith, l x e), n.first);
  within = omega arith;
}

-- all that waits is farther than a limit where the next is
pub far-all : (limit : ℕ) (x : Waiting) {old new : List Waiting} → limit < x.distance → IsNext x.distance old x new → Each (λ i. limit < i.distance) old
far-all limit x {old} {new} l n =
    Each-permutation (λ (i : Waiting). limit < i.distance) (x ∷ new) old (IsPermutation-sym old (x ∷ new) n.moved)
    (l, Each-each new (λ i k. omega (arith, l, k)) n.first)
