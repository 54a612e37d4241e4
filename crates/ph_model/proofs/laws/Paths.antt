-- The nodes whose region holds a point are at most as many as a coordinate has digits.
use Rattle.std.proofs.Common.{◌≡◌, ℕ, ◌+◌, ◌-◌, ◌/◌, ◌^◌, ◌<◌, ◌≤◌, refl, sym, ◌∙◌, ap, subst, arith, List, [], ◌∷◌, ◌++◌, length}
use Rattle.std.proofs.Common.{map, replicate, Bool, true, false, ◌&&◌, cond, eqb-true, eq-eqb, get_or, drop, inl, inr}
use Rattle.std.specs.Prelude.{ℤ, Option, Some, None, filter, ◌==◌}
use Rattle.std.specs.Cmp.Lexicographic.{pointwise}
use Rattle.std.proofs.lemmas.List.{length-replicate}
use Rattle.ph_specs.specs.Coordinate.{offset, coordinate}
use Rattle.ph_specs.specs.Table.{Row, IsTable}
use Rattle.ph_specs.specs.Node.{Entries, end, point, child, PlainNode}
use Rattle.ph_specs.specs.TreeRows.{put_together}
use Rattle.ph_model.specs.Lawful.{IsLawful, IsLawfulFrom, IsAbove}
use Rattle.ph_specs.specs.Region.{is_in, prefix}
use Rattle.ph_specs.specs.Shape.{shape}
use Rattle.ph_specs.specs.WorkSets.{Placed, placed, placed_below, path}
use Rattle.ph_model.proofs.lemmas.Joined.{offsets, from_place, number_at, offsets-coordinate, same_number, same_from, from_place-put_together, above-child}
use Rattle.ph_model.proofs.lemmas.RowsBehind.{address-put_together}
use Rattle.ph_specs.proofs.laws.Put.{either}
use Rattle.ph_model.proofs.laws.Unique.{zeros_known}
use Rattle.ph_model.proofs.laws.TableShape.{table-shape}

abbrev pub holds : ℕ → List ℤ → Placed → Bool
holds w p x = is_in w x.region p

-- how many nodes of a list have a region that holds the point
abbrev pub many : ℕ → List ℤ → List Placed → ℕ
many w p xs = length (filter (holds w p) xs)

pub in-same : (w l : ℕ) (cs p : List ℤ) → pointwise (λ c d. prefix w l c == prefix w l d) cs p ≡ true →
    from_place (l + 1) (offsets w cs) ≡ from_place (l + 1) (offsets w p)
in-same w l [] [] h = refl
in-same w l [] (d ∷ p) h = cc
in-same w l (c ∷ cs) [] h = cc
in-same w l (c ∷ cs) (d ∷ p) h = by_both (prefix w l c == prefix w l d) (pointwise (λ c d. prefix w l c == prefix w l d) cs p) refl refl h (in-same w l cs p)
  where
    by_both : (s t : Bool) → (prefix w l c == prefix w l d) ≡ s →
        pointwise (λ c d. prefix w l c == prefix w l d) cs p ≡ t → (s && t) ≡ true →
        (pointwise (λ c d. prefix w l c == prefix w l d) cs p ≡ true →
        from_place (l + 1) (offsets w cs) ≡ from_place (l + 1) (offsets w p)) →
        from_place (l + 1) (offsets w (c ∷ cs)) ≡ from_place (l + 1) (offsets w (d ∷ p))
    by_both true true e f k ih =
        ap (λ t. t ∷ from_place (l + 1) (offsets w cs)) (eqb-true (prefix w l c) (prefix w l d) e) ∙ ap {B = List ℕ} (λ t. offset w d / 2 ^ (l + 1) ∷ t) (ih f)
    by_both true false e f k ih = cc
    by_both false t e f k ih = cc

pub many-append : (w : ℕ) (p : List ℤ) (xs ys : List Placed) → many w p (xs ++ ys) ≡ many w p xs + many w p ys
many-append w p [] ys = omega arith
many-append w p (x ∷ xs) ys = by_test (holds w p x) (many-append w p xs ys)
  where
    by_test : (t : Bool) → many w p (xs ++ ys) ≡ many w p xs + many w p ys →
        length (cond t (x ∷ filter (holds w p) (xs ++ ys)) (filter (holds w p) (xs ++ ys))) ≡
        length (cond t (x ∷ filter (holds w p) xs) (filter (holds w p) xs)) + many w p ys
    by_test true ih = omega (arith, ih)
    by_test false ih = ih

-- the child of an entry, at its place
abbrev pub placed_child : ℕ → ℕ → ℕ → List ℕ → Entries → Placed
placed_child w b c known chain =
    record { node = record { level = c; chain = chain }; region = record { corner = map (coordinate w) known; level = b - 1 } }

-- where its region holds the point, the point has the digits that are known from the level of the parent on
pub held : (w b c : ℕ) (known : List ℕ) (chain : Entries) (p : List ℤ) → 1 ≤ b →
    holds w p (placed_child w b c known chain) ≡ true → from_place b (offsets w p) ≡ from_place b known
held w b c known chain p l h =
    let n : b - 1 + 1 ≡ b = omega (arith, l) in
    sym (subst (λ k. from_place k (offsets w (map (coordinate w) known)) ≡ from_place k (offsets w p)) n
    (in-same w (b - 1) (map (coordinate w) known) p h)) ∙ ap (from_place b) (offsets-coordinate w known)

same-in : (w l : ℕ) (cs p : List ℤ) → from_place (l + 1) (offsets w cs) ≡ from_place (l + 1) (offsets w p) → pointwise (λ c d. prefix w l c == prefix w l d) cs p ≡ true
same-in w l [] [] h = refl
same-in w l [] (d ∷ p) h = cc
same-in w l (c ∷ cs) [] h = cc
same-in w l (c ∷ cs) (d ∷ p) h =
    ap (λ t. t && pointwise (λ c d. prefix w l c == prefix w l d) cs p)
    (eq-eqb (prefix w l c) (prefix w l d) (ap (λ r. get_or r 0 0) h)) ∙ same-in w l cs p (ap (drop 1) h)

-- and the other way round
pub holding : (w b c : ℕ) (known : List ℕ) (chain : Entries) (p : List ℤ) → 1 ≤ b →
    from_place b (offsets w p) ≡ from_place b known → holds w p (placed_child w b c known chain) ≡ true
holding w b c known chain p l h =
    let n : b ≡ b - 1 + 1 = omega (arith, l) in
    same-in w (b - 1) (map (coordinate w) known) p
    (subst (λ k. from_place k (offsets w (map (coordinate w) known)) ≡ from_place k (offsets w p)) n
    (ap (from_place b) (offsets-coordinate w known) ∙ sym h))

one-more : (w : ℕ) (p : List ℤ) (x : Placed) (xs : List Placed) → many w p (x ∷ xs) ≤ 1 + many w p xs
one-more w p x xs = by_bool (holds w p x)
  where
    by_bool : (t : Bool) → length (cond t (x ∷ filter (holds w p) xs) (filter (holds w p) xs)) ≤ 1 + many w p xs
    by_bool true = omega arith
    by_bool false = omega arith

pub many-held : (w : ℕ) (p : List ℤ) (x : Placed) (xs : List Placed) → holds w p x ≡ true → many w p (x ∷ xs) ≡ 1 + many w p xs
many-held w p x xs e = ap (λ t. length (cond t (x ∷ filter (holds w p) xs) (filter (holds w p) xs))) e ∙ omega arith

pub many-other : (w : ℕ) (p : List ℤ) (x : Placed) (xs : List Placed) → (holds w p x ≡ true → ⊥) → many w p (x ∷ xs) ≡ many w p xs
many-other w p x xs n =
    elim (either (holds w p x)) [
      | inl e ↦ absurd (n e)
      | inr e ↦ ap (λ t. length (cond t (x ∷ filter (holds w p) xs) (filter (holds w p) xs))) e
    ]

by_test : (w : ℕ) (p : List ℤ) (x : Placed) (xs ys : List Placed) (t : Bool) → holds w p x ≡ t → (b c a least n : ℕ) →
    c < b → least ≤ a → many w p xs ≤ c → many w p ys ≤ b → (n < a + 1 → many w p ys ≡ 0) →
    (holds w p x ≡ true → n ≡ a) → ((holds w p x ≡ true → ⊥) → many w p xs ≡ 0) → (many w p (x ∷ (xs ++ ys)) ≤ b) ×
    (n < least → many w p (x ∷ (xs ++ ys)) ≡ 0)
by_test w p x xs ys true e b c a least n l m f g z at out =
    let q : n ≡ a = at e in
    let y : many w p ys ≡ 0 = z (omega (arith, q)) in
    (omega (arith, one-more w p x (xs ++ ys), many-append w p xs ys, y, f, l), λ k. absurd (omega (arith, k, q, m)))
by_test w p x xs ys false e b c a least n l m f g z at out =
    let no : holds w p x ≡ true → ⊥ = λ t. let r : false ≡ true = sym e ∙ t in cc in
    let o : many w p xs ≡ 0 = out no in
    let r : many w p (x ∷ (xs ++ ys)) ≡ many w p (xs ++ ys) = many-other w p x (xs ++ ys) no in
    (omega (arith, r, o, many-append w p xs ys, g), λ k. omega (arith, r, o, many-append w p xs ys, z (omega (arith, k, m))))

-- no node below holds a point that has other digits
pub none-below : (w dims b c least : ℕ) (known : List ℕ) (e : Entries) (p : List ℤ) → c < b → IsAbove dims c known →
    IsLawfulFrom dims c least e → (from_place b (offsets w p) ≡ from_place b known → ⊥) → many w p (placed_below w c known e) ≡ 0
none-below w dims b c least known end p l h k n = refl
none-below w dims b c least known (point a body v rest) p l h k n = none-below w dims b c (a + 1) known rest p l h k.3 n
none-below w dims b c least known (child a body d chain rest) p l h k n =
    let deep : List ℕ = put_together c a known body in
    let s : from_place b (put_together c a known body) ≡ from_place b known =
    same_from (c + 1) b (put_together c a known body) known (omega (arith, l))
    (from_place-put_together c a known body (h.long ∙ sym k.2.0) h.zeros k.2.1) in
    let x : Placed = placed_child w c d deep chain in
    let m : many w p (placed_child w c d (put_together c a known body) chain ∷
    (placed_below w d (put_together c a known body) chain ++ placed_below w c known rest)) ≡
    many w p (placed_below w d (put_together c a known body) chain ++ placed_below w c known rest) =
    many-other w p x (placed_below w d deep chain ++ placed_below w c known rest)
    (λ t. n (same_from c b (offsets w p) deep (omega (arith, l)) (held w c d deep chain p (omega (arith, k.3)) t) ∙ s))
    in
    omega (
      arith,
      m,
      many-append w p (placed_below w d deep chain) (placed_below w c known rest),
      none-below w dims b d 0 deep chain p (omega (arith, l, k.3)) (above-child dims c d a known body k.3 h k.2 k.4)
          k.6 (λ t. n (t ∙ s)),
      none-below w dims b c (a + 1) known rest p l h k.7 n,
    )

-- below a node at a level at most that many hold a point, and none where its address is below all entries
few-below : (w dims b least : ℕ) (above : List ℕ) (e : Entries) (p : List ℤ) → IsAbove dims b above →
    IsLawfulFrom dims b least e → (many w p (placed_below w b above e) ≤ b) ×
    (number_at 0 b (offsets w p) < least → many w p (placed_below w b above e) ≡ 0)
few-below w dims b least above end p h k = (omega arith, λ l. refl)
few-below w dims b least above (point a body v rest) p h k =
    let ih : (many w p (placed_below w b above rest) ≤ b) ×
    (number_at 0 b (offsets w p) < a + 1 → many w p (placed_below w b above rest) ≡ 0) =
    few-below w dims b (a + 1) above rest p h k.3 in
    (ih.0, λ l. ih.1 (omega (arith, l, k.0)))
few-below w dims b least above (child a body c chain rest) p h k =
    let known : List ℕ = put_together b a above body in
    let x : Placed = placed_child w b c known chain in
    let i : IsAbove dims c (put_together b a above body) = above-child dims b c a above body k.3 h k.2 k.4 in
    let ir : (many w p (placed_below w b above rest) ≤ b) ×
    (number_at 0 b (offsets w p) < a + 1 → many w p (placed_below w b above rest) ≡ 0) =
    few-below w dims b (a + 1) above rest p h k.7 in
    let ic : (many w p (placed_below w c (put_together b a above body) chain) ≤ c) ×
    (number_at 0 c (offsets w p) < 0 → many w p (placed_below w c (put_together b a above body) chain) ≡ 0) =
    few-below w dims c 0 known chain p i k.6 in
    by_test w p x (placed_below w c known chain) (placed_below w b above rest) (holds w p x) refl b c a least (number_at 0 b (offsets w p)) k.3 k.0 ic.0 ir.0 ir.1
    (λ t. same_number 0 b b (offsets w p) known (omega arith) (held w b c known chain p (omega (arith, k.3)) t) ∙ address-put_together dims b a above body h k.2 k.1)
    (λ n. none-below w dims b c 0 known chain p k.3 i k.6 (λ e. n (holding w b c known chain p (omega (arith, k.3)) e)))

-- ---- the law

-- at most as many nodes hold a point as a coordinate has digits
pub path-few : (w dims : ℕ) (table : List Row) (p : List ℤ) → 1 ≤ w → IsTable w dims table → length (path w dims table p) ≤ w
path-few w dims table p l h = by_tree (shape w table) (table-shape w dims table l h).0
  where
    by_tree : (t : Option PlainNode) → IsLawful w dims t → many w p (placed w dims t) ≤ w
    by_tree None k = omega arith
    by_tree (Some n) k =
        let i : IsAbove dims n.level (replicate dims 0) = record { long = length-replicate dims 0; zeros = zeros_known n.level dims } in
        let f : (many w p (placed_below w n.level (replicate dims 0) n.chain) ≤ n.level) ×
        (number_at 0 n.level (offsets w p) < 0 → many w p (placed_below w n.level (replicate dims 0) n.chain) ≡ 0)
        = few-below w dims n.level 0 (replicate dims 0) n.chain p i k.2 in
        let o : many w p (placed w dims (Some n)) ≤ 1 + many w p (placed_below w n.level (replicate dims 0) n.chain) =
        one-more w p (record {
          node = n;
          region = record { corner = map (coordinate w) (replicate dims 0); level = w - 1 };
        })
        (placed_below w n.level (replicate dims 0) n.chain) in
        omega (arith, f.0, o, k.0, l)
