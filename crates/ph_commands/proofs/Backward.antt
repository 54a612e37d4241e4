-- Edits that are taken back one by one.
use Rattle.std.proofs.Common.{◌≡◌, Bool, true, false, ℕ, zero, suc, ◌+◌, ◌-◌, ◌*◌, ◌<◌, ◌≤◌, List, [], ◌∷◌, length, drop, refl, ◌∙◌, ap, arith}
use Rattle.std.specs.Prelude.{min, slice_get, unwrap_or, Result, Ok}
use Rattle.std.proofs.lemmas.List.{drop-drop}
use Rattle.ph_specs.specs.Table.{Row}
use Rattle.ph_specs.specs.Past.{Past, back}

first-behind : {X : Type 0} (xs : List X) (i : ℕ) (a b : X) → i < length xs → unwrap_or (slice_get (drop i xs) 0) a ≡ unwrap_or (slice_get xs i) b
first-behind [] i a b l = absurd (omega (arith, l))
first-behind (x ∷ xs) zero a b l = refl
first-behind (x ∷ xs) (suc i) a b l = first-behind xs i a b (omega (arith, l))

-- one edit more
pub back-next : (k : Past) (i : ℕ) → i < length k.past → back (back k i) 1 ≡ back k (i + 1)
back-next k i l =
    let more : suc i ≡ i + 1 = omega arith in
    let now : List Row = unwrap_or (slice_get (k.table ∷ k.past) i) k.table in
    let table : unwrap_or (slice_get (now ∷ drop i k.past) 1) now ≡ unwrap_or (slice_get (k.table ∷ k.past) (i + 1)) k.table =
    first-behind k.past i now k.table l ∙ ap (λ j. unwrap_or (slice_get (k.table ∷ k.past) j) k.table) more in
    let past : drop 1 (drop i k.past) ≡ drop (i + 1) k.past = drop-drop 1 i k.past in
    λ j. record { table = table j; width = k.width; max = k.max; depth = k.depth; past = past j }

-- some are left before the last one
pub some-past : (k : Past) (i : ℕ) → i < length k.past → (back k i).past ≡ [] → ⊥
some-past k i l h = some k.past i l h
  where
    some : (xs : List (List Row)) (i : ℕ) → i < length xs → drop i xs ≡ [] → ⊥
    some [] i l h = omega (arith, l)
    some (x ∷ xs) zero l h = absurd cc
    some (x ∷ xs) (suc i) l h = some xs i (omega (arith, l)) h

-- within two bounds
pub within-both : (v now_v a b : ℕ) → now_v ≤ v + a → now_v ≤ v + b → now_v ≤ v + min a b
within-both v now_v a b h k = omega (arith, h, k)

-- its visits
pub visits-next : (before now next w u i : ℕ) → now ≤ before + 5 * w * i → next ≤ now + 5 * u → u ≡ w → next ≤ before + 5 * w * (i + 1)
visits-next before now next w u i h k e =
    let more : 5 * w * (i + 1) ≡ 5 * w * i + 5 * w = omega arith in
    omega (arith, h, k, e, more)

-- an answer that is not false is true
pub told-true : {E : Type 0} (r : Result Bool E) (b : Bool) → r ≡ Ok b → (r ≡ Ok false → ⊥) → r ≡ Ok true
told-true r true e n = e
told-true r false e n = absurd (n e)
