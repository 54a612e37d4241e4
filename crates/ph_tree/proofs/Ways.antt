-- The nodes that a look-up opens are those whose region holds the point.
use Rattle.std.proofs.Common.{◌≡◌, ◌≢◌, ℕ, ◌+◌, ◌-◌, ◌%◌, ◌^◌, ◌<◌, ◌≤◌, refl, sym, ◌∙◌, ap, subst, arith, List}
use Rattle.std.proofs.Common.{◌∷◌, ◌++◌, length, map, replicate, true, false, cond, eqb-true, inl, inr}
use Rattle.std.specs.Prelude.{ℤ, Option, Some, None, ◌==◌, ◌⊎◌}
use Rattle.std.proofs.lemmas.Bool.{eqb-false}
use Rattle.ph_specs.specs.Coordinate.{coordinate, is_point}
use Rattle.ph_specs.specs.ZOrder.{address}
use Rattle.ph_specs.specs.Node.{Entries, end, point, child, PlainNode}
use Rattle.ph_specs.specs.Shape.{digits_between}
use Rattle.ph_specs.specs.TreeRows.{put_together, rows}
use Rattle.ph_model.specs.Lawful.{IsBody, HasZerosFrom, IsLawful, IsLawfulFrom}
use Rattle.ph_specs.specs.DelTree.{same_digits}
use Rattle.ph_specs.specs.WorkSets.{placed, placed_below, path}
use Rattle.ph_model.proofs.lemmas.Assembled.{cleared}
use Rattle.ph_model.proofs.lemmas.Grouped.{same_place}
use Rattle.ph_model.proofs.lemmas.Joined.{offsets, from_place, number_at, same_number, IsAbove, from_place-put_together, below-put_together, above-child}
use Rattle.ph_model.proofs.lemmas.PointDigits.{IsWhole, point-whole, none-known, zeros-cleared, above-point}
use Rattle.ph_model.proofs.lemmas.PointDigits.{address-is, known-between, same_digits-true, same_digits-false}
use Rattle.ph_model.proofs.lemmas.RowsBehind.{address-put_together}
use Rattle.ph_model.proofs.lemmas.Shaped.{between-between, body-between}
use Rattle.ph_model.proofs.lemmas.Splits.{zeros-same, from-cleared}
use Rattle.ph_model.proofs.laws.Paths.{holds, many, many-append, many-held, many-other, placed_child, held, holding, none-below}
use Rattle.ph_specs.proofs.laws.Put.{either}
use Rattle.ph_model.proofs.laws.Unique.{shape-rows}
use Rattle.ph_tree.specs.Opened.{opened_below, opened_in}

-- ---- a child at the point's address, and one elsewhere

module _ (w dims b c a : ℕ) (body : List ℕ) (p : List ℤ) (whole : IsWhole w dims p)
    (above : IsAbove dims b (cleared (b + 1) (offsets w p))) (low : c < b) (small : a < 2 ^ dims)
    (is_body : IsBody dims b body) (zeros : HasZerosFrom c body) where
  abbrev over : List ℕ
  over = cleared (b + 1) (offsets w p)

  abbrev known : List ℕ
  known = put_together b a over body

  from_above : from_place (b + 1) (offsets w p) ≡ from_place (b + 1) (put_together b a (cleared (b + 1) (offsets w p)) body)
  from_above =
      sym (from_place-put_together b a over body (above.long ∙ sym is_body.0) above.zeros is_body.1 ∙ from-cleared (b + 1) (offsets w p))

  at_known : number_at 0 b (put_together b a (cleared (b + 1) (offsets w p)) body) ≡ a
  at_known = address-put_together dims b a over body above is_body small

  pub here : a ≡ address w p b → from_place b (offsets w p) ≡ from_place b (put_together b a (cleared (b + 1) (offsets w p)) body)
  here e = same_place 0 b (offsets w p) known from_above (sym (address-is w b p) ∙ sym e ∙ sym at_known)

  pub elsewhere : a ≢ address w p b → from_place b (offsets w p) ≡ from_place b (put_together b a (cleared (b + 1) (offsets w p)) body) → ⊥
  elsewhere n e =
      n (sym at_known ∙ sym (same_number 0 b b (offsets w p) known (omega arith) e) ∙ sym (address-is w b p))

  pub child_above : IsAbove dims c (put_together b a (cleared (b + 1) (offsets w p)) body)
  child_above = above-child dims b c a over body low above is_body zeros

  pub shared : a ≡ address w p b → body ≡ digits_between w b c p → put_together b a (cleared (b + 1) (offsets w p)) body ≡ cleared (c + 1) (offsets w p)
  shared e f =
      ap (λ n. put_together b n over body) e ∙ ap (λ u. put_together b (address w p b) over u) f ∙ known-between w b c p low

  pub parted : a ≡ address w p b → (body ≡ digits_between w b c p → ⊥) →
      from_place (c + 1) (offsets w p) ≡ from_place (c + 1) (put_together b a (cleared (b + 1) (offsets w p)) body) → ⊥
  parted e n f =
      let same : put_together b a (cleared (b + 1) (offsets w p)) body ≡ cleared (c + 1) (offsets w p) =
      zeros-same c known (cleared (c + 1) (offsets w p)) child_above.zeros (zeros-cleared c (offsets w p))
      (sym f ∙ sym (from-cleared (c + 1) (offsets w p))) in
      let d : IsBody (length (offsets w p)) b (digits_between w b c p) = subst (IsBody (length (offsets w p)) b)
      (sym (between-between w b c p)) (body-between b (c + 1) (offsets w p)) in
      let mine : map (λ x. x % 2 ^ b) (put_together b a (cleared (b + 1) (offsets w p)) body) ≡ body =
      below-put_together b a over body (above.long ∙ sym is_body.0) above.zeros is_body.1 in
      let theirs : map (λ x. x % 2 ^ b)
      (put_together b (address w p b) (cleared (b + 1) (offsets w p)) (digits_between w b c p)) ≡
      digits_between w b c p = below-put_together b (address w p b) over (digits_between w b c p)
      (above.long ∙ sym whole.long ∙ sym d.0) above.zeros d.1 in
      n (sym mine ∙ ap (λ u. map (λ x. x % 2 ^ b) u) (same ∙ sym (known-between w b c p low)) ∙ theirs)

-- ---- the law

child-opened : (w dims b c a : ℕ) (body : List ℕ) (chain rest : Entries) (p : List ℤ) → IsWhole w dims p → c < b →
    a < 2 ^ dims → IsBody dims b body → HasZerosFrom c body → IsLawfulFrom dims c 0 chain →
    many w p (placed_below w c (cleared (c + 1) (offsets w p)) chain) ≡ opened_below w c chain p →
    many w p (placed_below w b (cleared (b + 1) (offsets w p)) rest) ≡ opened_below w b rest p →
    many w p (placed_below w b (cleared (b + 1) (offsets w p)) (child a body c chain rest)) ≡ opened_below w b (child a body c chain rest) p
child-opened w dims b c a body chain rest p i low small is_body zeros ok deeper later =
    elim (either (a == address w p b)) [
      | inl e ↦
          let at : a ≡ address w p b = eqb-true a (address w p b) e in
          let one : many w p (placed_child w b c (put_together b a (cleared (b + 1) (offsets w p)) body) chain ∷
          (placed_below w c (put_together b a (cleared (b + 1) (offsets w p)) body) chain ++
          placed_below w b (cleared (b + 1) (offsets w p)) rest)) ≡
          1 + many w p (placed_below w c (put_together b a (cleared (b + 1) (offsets w p)) body) chain ++
          placed_below w b (cleared (b + 1) (offsets w p)) rest) =
          many-held w p (placed_child w b c (put_together b a (cleared (b + 1) (offsets w p)) body) chain)
          (placed_below w c (put_together b a (cleared (b + 1) (offsets w p)) body) chain ++
          placed_below w b (cleared (b + 1) (offsets w p)) rest)
          (holding w b c (put_together b a (cleared (b + 1) (offsets w p)) body) chain p (omega (arith, low))
          (here w dims b c a body p i above low small is_body zeros at)) in
          let below : many w p (placed_below w c (put_together b a (cleared (b + 1) (offsets w p)) body) chain) ≡
          cond (same_digits body (digits_between w b c p)) (opened_below w c chain p) 0 =
          by_body at (either (same_digits body (digits_between w b c p))) in
          rw e (omega (arith, one, both, below, later))
      | inr e ↦
          let off : a ≢ address w p b = eqb-false a (address w p b) e in
          let none : many w p (placed_child w b c (put_together b a (cleared (b + 1) (offsets w p)) body) chain ∷
          (placed_below w c (put_together b a (cleared (b + 1) (offsets w p)) body) chain ++
          placed_below w b (cleared (b + 1) (offsets w p)) rest)) ≡
          many w p (placed_below w c (put_together b a (cleared (b + 1) (offsets w p)) body) chain ++
          placed_below w b (cleared (b + 1) (offsets w p)) rest) =
          many-other w p (placed_child w b c (put_together b a (cleared (b + 1) (offsets w p)) body) chain)
          (placed_below w c (put_together b a (cleared (b + 1) (offsets w p)) body) chain ++
          placed_below w b (cleared (b + 1) (offsets w p)) rest)
          (λ t. elsewhere w dims b c a body p i above low small is_body zeros off
          (held w b c (put_together b a (cleared (b + 1) (offsets w p)) body) chain p (omega (arith, low)) t)) in
          let below : many w p (placed_below w c (put_together b a (cleared (b + 1) (offsets w p)) body) chain) ≡ 0 =
          none-below w dims b c 0 (put_together b a (cleared (b + 1) (offsets w p)) body) chain p low deep ok
          (elsewhere w dims b c a body p i above low small is_body zeros off) in
          rw e (omega (arith, none, both, below, later))
    ]
  where
    above : IsAbove dims b (cleared (b + 1) (offsets w p))
    above = above-point w dims b p i

    deep : IsAbove dims c (put_together b a (cleared (b + 1) (offsets w p)) body)
    deep = child_above w dims b c a body p i above low small is_body zeros

    both : many w p (placed_below w c (put_together b a (cleared (b + 1) (offsets w p)) body) chain ++
        placed_below w b (cleared (b + 1) (offsets w p)) rest) ≡
        many w p (placed_below w c (put_together b a (cleared (b + 1) (offsets w p)) body) chain) + many w p
        (placed_below w b (cleared (b + 1) (offsets w p)) rest)
    both = many-append w p (placed_below w c (put_together b a (cleared (b + 1) (offsets w p)) body) chain) (placed_below w b (cleared (b + 1) (offsets w p)) rest)

    by_body : a ≡ address w p b → (same_digits body (digits_between w b c p) ≡ true) ⊎
        (same_digits body (digits_between w b c p) ≡ false) →
        many w p (placed_below w c (put_together b a (cleared (b + 1) (offsets w p)) body) chain) ≡
        cond (same_digits body (digits_between w b c p)) (opened_below w c chain p) 0
    by_body at (inl s) =
        let e : (put_together b a (cleared (b + 1) (offsets w p)) body) ≡ cleared (c + 1) (offsets w p) =
        shared w dims b c a body p i above low small is_body zeros at (same_digits-true body (digits_between w b c p) s) in
        rw s (ap (λ u. many w p (placed_below w c u chain)) e ∙ deeper)
    by_body at (inr s) =
        rw s (none-below w dims (c + 1) c 0 (put_together b a (cleared (b + 1) (offsets w p)) body) chain p
        (omega arith) deep ok (parted w dims b c a body p i above low small is_body zeros at
        (same_digits-false body (digits_between w b c p) s)))

opened-placed : (w dims b least : ℕ) (e : Entries) (p : List ℤ) → IsWhole w dims p → IsLawfulFrom dims b least e →
    many w p (placed_below w b (cleared (b + 1) (offsets w p)) e) ≡ opened_below w b e p
opened-placed w dims b least end p i k = refl
opened-placed w dims b least (point a body v rest) p i k = opened-placed w dims b (a + 1) rest p i k.3
opened-placed w dims b least (child a body c chain rest) p i k =
    child-opened w dims b c a body chain rest p i k.3 k.1 k.2 k.4 k.6 (opened-placed w dims c 0 chain p i k.6) (opened-placed w dims b (a + 1) rest p i k.7)

opened-tree : (w dims : ℕ) (t : Option PlainNode) (p : List ℤ) → 1 ≤ w → is_point w dims p ≡ true → IsLawful w dims t → many w p (placed w dims t) ≡ opened_in w t p
opened-tree w dims None p l h k = refl
opened-tree w dims (Some n) p l h k =
    let zeros : replicate dims 0 ≡ cleared w (offsets w p) = none-known w dims p l h in
    let top : n.level + 1 ≡ w = omega (arith, k.0, l) in
    let over : replicate dims 0 ≡ cleared (n.level + 1) (offsets w p) = zeros ∙ ap (λ j. cleared j (offsets w p)) (sym top) in
    let below : many w p (placed_below w n.level (replicate dims 0) n.chain) ≡ opened_below w n.level n.chain p =
    ap (λ u. many w p (placed_below w n.level u n.chain)) over ∙ opened-placed w dims n.level 0 n.chain p
    (point-whole w dims p h) k.2 in
    let root : holds w p (record { node = n; region = record { corner = map (coordinate w) (replicate dims 0); level = w - 1 } }) ≡ true =
    holding w w n.level (replicate dims 0) n.chain p l (sym (ap (from_place w) zeros ∙ from-cleared w (offsets w p))) in
    many-held w p (record {
      node = n;
      region = record { corner = map (coordinate w) (replicate dims 0); level = w - 1 };
    })
    (placed_below w n.level (replicate dims 0) n.chain) root ∙ ap (λ m. 1 + m) below

-- a look-up in a lawful tree opens as many nodes as the path of its rows has
pub path-opened : (w dims : ℕ) (t : Option PlainNode) (p : List ℤ) → 1 ≤ w → is_point w dims p ≡ true →
    IsLawful w dims t → length (path w dims (rows w dims t) p) ≡ opened_in w t p
path-opened w dims t p l h k =
    ap (λ u. many w p (placed w dims u)) (shape-rows w dims t k) ∙ opened-tree w dims t p l h k
