-- Arrays that are filled from the front.
use Rattle.std.proofs.Common.{◌≡◌, ℕ, suc, ◌+◌, ◌-◌, ◌<◌, ◌≤◌, List, [], ◌∷◌, ◌++◌, length, take, arith, ap, sym}
use Rattle.std.proofs.Common.{◌∙◌, get_or, replicate, append_assoc, length-take-le, length-append}
use Rattle.std.proofs.Math.ListN.{set}
use Rattle.std.proofs.Math.Seq.{set-append_seam}
use Rattle.std.proofs.lemmas.List.{take_more, append-nil}
use Rattle.ph_specs.proofs.laws.Ranked.{take-all}

-- a list, and then one element again and again, n in all
abbrev pub padded : {A : Type 0} → ℕ → A → List A → List A
padded n z xs = xs ++ replicate (n - length xs) z

-- the next element is written
pub padded-next : {A : Type 0} (n : ℕ) (z : A) (xs : List A) (i : ℕ) (v : A) → length xs ≡ i → i < n → set (padded n z xs) i v ≡ padded n z (xs ++ v ∷ [])
padded-next n z xs i v e l =
    let one : n - length xs ≡ suc (n - length (xs ++ v ∷ [])) = omega (arith, e, l, length-append xs (v ∷ [])) in
    ap (λ k. set (xs ++ replicate k z) i v) one ∙
    ap (λ k. set (xs ++ z ∷ replicate (n - length (xs ++ v ∷ [])) z) k v) (sym e) ∙
    set-append_seam xs z (replicate (n - length (xs ++ v ∷ [])) z) v ∙
    sym (append_assoc xs (v ∷ []) (replicate (n - length (xs ++ v ∷ [])) z))

-- an array that holds the first elements of a list, and the next
pub filled-next : {A : Type 0} (n : ℕ) (z : A) (zs body : List A) (i : ℕ) (v d : A) → body ≡ padded n z (take i zs) →
    i < length zs → length zs ≤ n → v ≡ get_or zs i d → set body i v ≡ padded n z (take (i + 1) zs)
filled-next n z zs body i v d e l m h =
    ap (λ t. set t i v) e ∙ padded-next n z (take i zs) i v (length-take-le i zs (omega (arith, l)))
    (omega (arith, l, m)) ∙ ap {B = List _} (λ t. padded n z (take i zs ++ t ∷ [])) h ∙
    sym (ap (padded n z) (take_more zs i d l))

-- an array that holds a whole list
pub filled-whole : {A : Type 0} (n : ℕ) (z : A) (zs body : List A) (i : ℕ) → body ≡ padded n z (take i zs) → length zs ≤ i → body ≡ padded n z zs
filled-whole n z zs body i e l = e ∙ ap (padded n z) (take-all i zs l)

-- and nothing else
pub filled-all : {A : Type 0} (n : ℕ) (z : A) (zs body : List A) (i : ℕ) → body ≡ padded n z (take i zs) → length zs ≡ n → n ≤ i → body ≡ zs
filled-all n z zs body i e l h =
    let none : n - length zs ≡ 0 = omega (arith, l) in
    filled-whole n z zs body i e (omega (arith, l, h)) ∙ ap (λ k. zs ++ replicate k z) none ∙ append-nil zs
