-- The look-up in a lawful tree finds what the tree's rows have.
use Rattle.std.proofs.Common.{◌≡◌, ◌≢◌, ℕ, ◌+◌, ◌≤◌, refl, sym, ◌∙◌, ap, arith, List, [], ◌∷◌, ◌++◌, map, replicate, true, eqb-true, inl, inr}
use Rattle.std.specs.Prelude.{ℤ, ◌==◌, Option, Some, None}
use Rattle.std.specs.List.{AllByRecursion as Each}
use Rattle.std.proofs.lemmas.Bool.{eqb-false}
use Rattle.ph_specs.specs.Coordinate.{coordinate, is_point, same_point}
use Rattle.ph_specs.specs.ZOrder.{address}
use Rattle.ph_specs.specs.Table.{Row, find}
use Rattle.ph_specs.specs.Node.{Entries, end, point, child, PlainNode}
use Rattle.ph_specs.specs.Shape.{row_address, digits_below, digits_between}
use Rattle.ph_specs.specs.TreeRows.{put_together, rows_behind, rows}
use Rattle.ph_model.specs.Lawful.{IsLawfulFrom, IsLawful, IsAbove}
use Rattle.ph_specs.specs.DelTree.{same_digits}
use Rattle.ph_model.specs.PutTree.{find_entries, find_tree}
use Rattle.ph_specs.proofs.laws.Put.{test_from_same, either, not_same}
use Rattle.ph_model.proofs.lemmas.Joined.{offsets}
use Rattle.ph_model.proofs.lemmas.Assembled.{cleared}
use Rattle.ph_specs.proofs.lemmas.Members.{Each-each}
use Rattle.ph_model.proofs.lemmas.RowsBehind.{point-address, child-addresses, addresses-from, point-body, child-bodies}
use Rattle.ph_model.proofs.lemmas.PointDigits.{same_digits-true, same_digits-false, IsWhole, point-whole, none-known, above-point, known-point, known-between}

-- ---- what is found in lists

-- no row stands at the point
abbrev pub IsNone : List ℤ → List Row → Type 0
IsNone p rs = Each (λ r. r.point ≡ p → ⊥) rs

pub find-none : (p : List ℤ) (rs : List Row) → IsNone p rs → find rs p ≡ None
find-none p [] h = refl
find-none p (r ∷ rs) h = rw (not_same r.point p h.0) (find-none p rs h.1)

pub find-back : (p : List ℤ) (rs ss : List Row) → IsNone p rs → find (rs ++ ss) p ≡ find ss p
find-back p [] ss h = refl
find-back p (r ∷ rs) ss h = rw (not_same r.point p h.0) (find-back p rs ss h.1)

pub find-front : (p : List ℤ) (rs ss : List Row) → IsNone p ss → find (rs ++ ss) p ≡ find rs p
find-front p [] ss h = find-none p ss h
find-front p (r ∷ rs) ss h =
    elim (either (same_point r.point p)) [ inl same ↦ rw same | inr other ↦ rw other (find-front p rs ss h) ]

-- ---- rows that stand elsewhere

other-address : (w b n : ℕ) (p : List ℤ) (rs : List Row) → Each (λ r. row_address w b r ≡ n) rs → n ≢ address w p b → IsNone p rs
other-address w b n p rs h k = Each-each rs (λ r e q. k (sym e ∙ ap (λ t. address w t b) q)) h

later-address : (w b n : ℕ) (p : List ℤ) (rs : List Row) → Each (λ r. n + 1 ≤ row_address w b r) rs → n ≡ address w p b → IsNone p rs
later-address w b n p rs h k =
    Each-each rs (λ r l q. let e : row_address w b r ≡ address w p b = ap (λ t. address w t b) q in omega (arith, e, k, l)) h

other-body : (w b c : ℕ) (body : List ℕ) (p : List ℤ) (rs : List Row) →
    Each (λ r. digits_between w b c r.point ≡ body) rs → (body ≡ digits_between w b c p → ⊥) → IsNone p rs
other-body w b c body p rs h k = Each-each rs (λ r e q. k (sym e ∙ ap (digits_between w b c) q)) h

-- ---- entries

-- below a node that the point leads to
pub find-entries : (w dims b least : ℕ) (e : Entries) (p : List ℤ) → IsWhole w dims p → IsLawfulFrom dims b least e →
    find_entries w b e p ≡ find (rows_behind w b (cleared (b + 1) (offsets w p)) e) p
find-entries w dims b least end p h k = refl
find-entries w dims b least (point a body v rest) p h k =
    let above : List ℕ = cleared (b + 1) (offsets w p) in
    let i : IsAbove dims b (cleared (b + 1) (offsets w p)) = above-point w dims b p h in
    let q : List ℤ = map (coordinate w) (put_together b a (cleared (b + 1) (offsets w p)) body) in
    elim (either (a == address w p b)) [
      | inl same ↦
          let e : a ≡ address w p b = eqb-true a (address w p b) same in
          let none : IsNone p (rows_behind w b (cleared (b + 1) (offsets w p)) rest) =
          later-address w b a p (rows_behind w b above rest) (addresses-from w dims b (a + 1) above rest i k.3) e in
          elim (either (same_digits body (digits_below w b p))) [
            | inl alike ↦
                let here : map (coordinate w) (put_together b a (cleared (b + 1) (offsets w p)) body) ≡ p =
                ap (λ t. map (coordinate w) (put_together b t above body)) e ∙
                ap (λ t. map (coordinate w) (put_together b (address w p b) above t))
                (same_digits-true body (digits_below w b p) alike) ∙ ap (map (coordinate w)) (known-point w b p) ∙ h.back
                in
                rw (same, alike, test_from_same q p here)
            | inr unlike ↦
                let there : map (coordinate w) (put_together b a (cleared (b + 1) (offsets w p)) body) ≡ p → ⊥ =
                λ (s : q ≡ p). same_digits-false body (digits_below w b p) unlike (sym (point-body w dims b a above body i k.2) ∙ ap (digits_below w b) s)
                in
                rw (same, unlike, not_same q p there) (sym (find-none p (rows_behind w b above rest) none))
          ]
      | inr other ↦
          let there : map (coordinate w) (put_together b a (cleared (b + 1) (offsets w p)) body) ≡ p → ⊥ =
          λ (s : q ≡ p). eqb-false a (address w p b) other (sym (point-address w dims b a v above body i k.2 k.1) ∙ ap (λ t. address w t b) s)
          in
          rw (other, not_same q p there) (find-entries w dims b (a + 1) rest p h k.3)
    ]
find-entries w dims b least (child a body c chain rest) p h k =
    let above : List ℕ = cleared (b + 1) (offsets w p) in
    let i : IsAbove dims b (cleared (b + 1) (offsets w p)) = above-point w dims b p h in
    let known : List ℕ = put_together b a above body in
    let inside : List Row = rows_behind w c (put_together b a (cleared (b + 1) (offsets w p)) body) chain in
    let behind : List Row = rows_behind w b (cleared (b + 1) (offsets w p)) rest in
    elim (either (a == address w p b)) [
      | inl same ↦
          let e : a ≡ address w p b = eqb-true a (address w p b) same in
          let none : IsNone p (rows_behind w b (cleared (b + 1) (offsets w p)) rest) =
          later-address w b a p behind (addresses-from w dims b (a + 1) above rest i k.7) e in
          elim (either (same_digits body (digits_between w b c p))) [
            | inl alike ↦
                let here : put_together b a (cleared (b + 1) (offsets w p)) body ≡ cleared (c + 1) (offsets w p) =
                ap (λ t. put_together b t above body) e ∙ ap (put_together b (address w p b) above)
                (same_digits-true body (digits_between w b c p) alike) ∙ known-between w b c p k.3
                in
                rw (same, alike) (find-entries w dims c 0 chain p h k.6 ∙ sym (ap (λ t. find (rows_behind w c t chain) p) here) ∙ sym (find-front p inside behind none))
            | inr unlike ↦
                let there : IsNone p (rows_behind w c (put_together b a (cleared (b + 1) (offsets w p)) body) chain) =
                other-body w b c body p inside (child-bodies w dims b a c above body chain i k.2 k.3 k.4 k.6) (same_digits-false body (digits_between w b c p) unlike)
                in
                rw (same, unlike) (sym (find-back p inside behind there ∙ find-none p behind none))
          ]
      | inr other ↦
          let there : IsNone p (rows_behind w c (put_together b a (cleared (b + 1) (offsets w p)) body) chain) =
          other-address w b a p inside (child-addresses w dims b a c above body chain i k.2 k.1 k.3 k.4 k.6) (eqb-false a (address w p b) other)
          in
          rw other (find-entries w dims b (a + 1) rest p h k.7 ∙ sym (find-back p inside behind there))
    ]

-- ---- the laws

-- the look-up in a lawful tree
pub find-tree : (w dims : ℕ) (t : Option PlainNode) (p : List ℤ) → 1 ≤ w → is_point w dims p ≡ true → IsLawful w dims t → find_tree w dims t p ≡ find (rows w dims t) p
find-tree w dims None p l h k = refl
find-tree w dims (Some n) p l h k =
    let m : w ≡ n.level + 1 = omega (arith, l, k.0) in
    let e : replicate dims 0 ≡ cleared (n.level + 1) (offsets w p) = none-known w dims p l h ∙ ap (λ t. cleared t (offsets w p)) m in
    find-entries w dims n.level 0 n.chain p (point-whole w dims p h) k.2 ∙ sym (ap (λ t. find (rows_behind w n.level t n.chain) p) e)
