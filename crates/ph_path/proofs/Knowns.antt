-- The digits that are known above a level, as an entry is joined to them.
use Rattle.std.proofs.Common.{◌≡◌, ℕ, zero, suc, ◌+◌, ◌*◌, ◌/◌, ◌%◌, ◌^◌, ◌<◌, ◌≤◌, List, [], ◌∷◌, ◌++◌, length, take, map, replicate, refl, sym, ◌∙◌, ap, subst, arith}
use Rattle.std.specs.Prelude.{ℤ}
use Rattle.std.specs.List.{AllByRecursion as Each}
use Rattle.std.proofs.Math.Pow.{pow_mono}
use Rattle.std.proofs.lemmas.Nat.{pow_pos, div-mul-add, div-add-mod'}
use Rattle.std.proofs.lemmas.List.{length-map, length-replicate}
use Rattle.ph_specs.specs.Coordinate.{offset, IsPoint}
use Rattle.ph_specs.specs.TreeRows.{put_together}
use Rattle.ph_model.specs.Lawful.{IsBody, HasZerosFrom, IsAbove}
use Rattle.ph_specs.specs.Node.{PlainNode}
use Rattle.ph_model.specs.EntryList.{entries}
use Rattle.ph_model.specs.PutTree.{body_above}
use Rattle.ph_model.proofs.lemmas.Joined.{offsets, from_place, same_from, from_place-put_together, length-put_together, above-child}
use Rattle.ph_model.proofs.lemmas.Bounds.{lows-small, point-long}
use Rattle.ph_model.proofs.laws.LawfulRows.{put_together-small}
use Rattle.ph_digits.proofs.Joins.{above-long}
use Rattle.ph_node.specs.Split.{body_at}
use Rattle.ph_node.specs.Spots.{joined_digits}
use Rattle.ph_node.specs.declared.spots.Spot.{Spot}
use Rattle.ph_path.specs.Known.{Known, known_at, AreKnown}

pub block-whole : (q m : ℕ) → 0 < m → (q * m) / m ≡ q
block-whole q m l = let e : q * m ≡ q * m + 0 = omega arith in ap (λ t. t / m) e ∙ div-mul-add q m 0 l

block-zero : (q m : ℕ) → 0 < m → (q * m) % m ≡ 0
block-zero q m l =
    let e : q * m / m * m + (q * m) % m ≡ q * m = div-add-mod' (q * m) m in
    let f : q * m / m * m ≡ q * m = ap (λ t. t * m) (block-whole q m l) in
    omega (arith, e, f)

pub above-zeros : (b : ℕ) (xs : List ℕ) → HasZerosFrom b (body_above b xs)
above-zeros b [] = tt
above-zeros b (x ∷ xs) = (block-zero (x / 2 ^ (b + 1)) (2 ^ (b + 1)) (pow_pos (b + 1)), above-zeros b xs)

pub above-from : (b : ℕ) (xs : List ℕ) → from_place (b + 1) (body_above b xs) ≡ from_place (b + 1) xs
above-from b [] = refl
above-from b (x ∷ xs) =
    ap (λ t. t ∷ from_place (b + 1) (body_above b xs)) (block-whole (x / 2 ^ (b + 1)) (2 ^ (b + 1)) (pow_pos (b + 1)))
    ∙ ap {B = List ℕ} (λ t. x / 2 ^ (b + 1) ∷ t) (above-from b xs)

above-by : (b : ℕ) (xs : List ℕ) → body_above b xs ≡ map (λ q. q * 2 ^ (b + 1)) (from_place (b + 1) xs)
above-by b [] = refl
above-by b (x ∷ xs) = ap {B = List ℕ} (λ t. x / 2 ^ (b + 1) * 2 ^ (b + 1) ∷ t) (above-by b xs)

pub above-same : (b c : ℕ) (xs ys : List ℕ) → b ≤ c → from_place (b + 1) xs ≡ from_place (b + 1) ys → body_above c xs ≡ body_above c ys
above-same b c xs ys l e =
    above-by c xs ∙ ap (map (λ q. q * 2 ^ (c + 1))) (same_from (b + 1) (c + 1) xs ys (omega (arith, l)) e) ∙ sym (above-by c ys)

-- numbers with zeros from a level down
pub above-whole : (c : ℕ) (xs : List ℕ) → HasZerosFrom c xs → body_above c xs ≡ xs
above-whole c [] h = refl
above-whole c (x ∷ xs) h =
    let e : x / 2 ^ (c + 1) * 2 ^ (c + 1) + x % 2 ^ (c + 1) ≡ x = div-add-mod' x (2 ^ (c + 1)) in
    let f : x / 2 ^ (c + 1) * 2 ^ (c + 1) ≡ x = omega (arith, e, h.0) in
    ap (λ t. t ∷ body_above c xs) f ∙ ap {B = List ℕ} (λ t. x ∷ t) (above-whole c xs h.1)

-- at the highest place nothing is known
pub above-top : (d b w : ℕ) (xs : List ℕ) → w ≡ b + 1 → IsBody d w xs → body_above b xs ≡ replicate d 0
above-top d b w xs e h = subst (λ n. body_above b xs ≡ replicate n 0) h.0 (each xs (subst (λ n. Each (λ x. x < 2 ^ n) xs) e h.1))
  where
    each : (xs : List ℕ) → Each (λ x. x < 2 ^ (b + 1)) xs → body_above b xs ≡ replicate (length xs) 0
    each [] h = refl
    each (x ∷ xs) h =
        let s : x / 2 ^ (b + 1) ≡ 0 = gone x (2 ^ (b + 1)) h.0 in
        let z : x / 2 ^ (b + 1) * 2 ^ (b + 1) ≡ 0 * 2 ^ (b + 1) = ap (λ t. t * 2 ^ (b + 1)) s in
        let y : x / 2 ^ (b + 1) * 2 ^ (b + 1) ≡ 0 = omega (arith, z) in
        ap (λ t. t ∷ body_above b xs) y ∙ ap {B = List ℕ} (λ t. 0 ∷ t) (each xs h.1)
      where
        gone : (x m : ℕ) → x < m → x / m ≡ 0
        gone x m l = let e : x ≡ 0 * m + x = omega arith in ap (λ t. t / m) e ∙ div-mul-add 0 m x l

-- ---- an entry that is joined

pub above-is : (d b : ℕ) (xs : List ℕ) → length xs ≡ d → IsAbove d b (body_above b xs)
above-is d b xs e = record { long = above-long b xs ∙ e; zeros = above-zeros b xs }

module _ (d w b a : ℕ) (xs body : List ℕ) (l : b < w) (h : IsBody d w xs) (k : IsBody d b body) where
  above : IsAbove d b (body_above b xs)
  above = above-is d b xs h.0

  pub joined-body : IsBody d w (put_together b a (body_above b xs) body)
  joined-body = (
    length-put_together b a (body_above b xs) body (above.long ∙ sym k.0) ∙ above.long,
    put_together-small w b a (body_above b xs) body l above.zeros (lows-small w b xs h.1) k.1,
  )

  -- the digits above the level stay
  pub joined-above : (c : ℕ) → b ≤ c → body_above c (put_together b a (body_above b xs) body) ≡ body_above c xs
  joined-above c m =
      above-same b c (put_together b a (body_above b xs) body) xs m
      (from_place-put_together b a (body_above b xs) body (above.long ∙ sym k.0) above.zeros k.1 ∙ above-from b xs)

  -- for a child all of them are known
  pub joined-child : (c : ℕ) → c < b → HasZerosFrom c body → body_above c (put_together b a (body_above b xs) body) ≡ put_together b a (body_above b xs) body
  joined-child c m z = above-whole c (put_together b a (body_above b xs) body) (above-child d b c a (body_above b xs) body m above k z).zeros

-- ---- an array that is cut to the dimensions

pub wider : (d w k : ℕ) (xs : List ℕ) → w ≤ k → IsBody d w xs → IsBody d k xs
wider d w k xs l h = (h.0, each xs h.1)
  where
    each : (xs : List ℕ) → Each (λ x. x < 2 ^ w) xs → Each (λ x. x < 2 ^ k) xs
    each [] h = tt
    each (x ∷ xs) h = (omega (arith, h.0, pow_mono {i = w} {j = k} l), each xs h.1)

pub taken : (d : ℕ) (xs ys : List ℕ) → length xs ≡ d → take d (xs ++ ys) ≡ xs
taken d xs ys e = subst (λ n. take n (xs ++ ys) ≡ xs) e (front xs)
  where
    front : (xs : List ℕ) → take (length xs) (xs ++ ys) ≡ xs
    front [] = refl
    front (x ∷ xs) = ap {B = List ℕ} (λ t. x ∷ t) (front xs)

pub take-zeros : (d n : ℕ) → d ≤ n → take {A = ℕ} d (replicate n 0) ≡ replicate d 0
take-zeros zero n l = none (replicate n 0)
  where
    none : (xs : List ℕ) → take 0 xs ≡ []
    none [] = refl
    none (x ∷ xs) = refl
take-zeros (suc d) zero l = absurd (omega (arith, l))
take-zeros (suc d) (suc n) l = ap {B = List ℕ} (λ t. 0 ∷ t) (take-zeros d n (omega (arith, l)))

pub zeros-body : (d w : ℕ) → IsBody d w (replicate d 0)
zeros-body d w = (length-replicate d 0, each d)
  where
    each : (d : ℕ) → Each (λ x. x < 2 ^ w) (replicate d 0)
    each zero = tt
    each (suc d) = (pow_pos w, each d)

-- a point's offsets, in an array that is longer
pub offsets-point : (w d : ℕ) (p : List ℤ) (os : List ℕ) → IsPoint w d p → take (length p) os ≡ map (offset w) p → take d os ≡ offsets w p
offsets-point w d p os h e = ap (λ n. take n os) (sym (sym (length-map p (offset w)) ∙ point-long w d p h)) ∙ e

-- where nothing is known
pub start-known : (d w : ℕ) → 1 ≤ d → d ≤ 16 → 1 ≤ w → w ≤ 62 → AreKnown d (known_at w (replicate d 0))
start-known d w s f l u = record { some = s; size = record { few = f; wide = l; narrow = u }; digits = zeros-body d w }

module _ {d n w : ℕ} (digits : List ℕ) (e : n ≡ d) (h : AreKnown d (known_at w (take d digits))) where
  pub body-seen : IsBody d 62 (take n digits)
  body-seen = subst (λ k. IsBody d 62 (take k digits)) (sym e) (wider d w 62 (take d digits) h.narrow h.digits)

  -- where the digits of an entry at a spot are joined, in front of the rest of the array
  pub known-joined : {seen : Known} {new : List ℕ} (others : List ℕ) (t : PlainNode) (spot : Spot) → known_at w (take d digits) ≡ seen →
      t.level < seen.width → IsBody d t.level (body_at (entries t) spot.place) → new ≡ joined_digits t spot (take n digits) →
      AreKnown d (known_at w (take d (new ++ others)))
  known-joined {seen} {new} others t spot v l k f =
      let body : List ℕ = body_at (entries t) spot.place in
      let s : new ≡ joined_digits t spot (take d digits) = subst (λ m. new ≡ joined_digits t spot (take m digits)) e f in
      let b : IsBody d w (joined_digits t spot (take d digits)) =
      joined-body d w t.level spot.addr (take d digits) body (subst (λ s. t.level < s.width) (sym v) l) h.digits k in
      let u : take d (new ++ others) ≡ joined_digits t spot (take d digits) = taken d new others (ap (λ xs. length xs) s ∙ b.0) ∙ s in
      record { some = h.some; size = h.size; digits = subst (IsBody d w) (sym u) b }
