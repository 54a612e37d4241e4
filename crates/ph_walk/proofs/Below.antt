-- What a set has below entries, one entry after the other.
use Rattle.std.proofs.Common.{◌≡◌, ℕ, zero, suc, ◌+◌, ◌-◌, ◌<◌, ◌≤◌, List, [], ◌∷◌, ◌++◌, length, drop, map}
use Rattle.std.proofs.Common.{replicate, refl, sym, ◌∙◌, ap, arith, cond, Bool, true, false, length-append}
use Rattle.std.specs.Prelude.{ℤ, Option, Some, None, slice_get, filter}
use Rattle.std.proofs.lemmas.List.{length-replicate}
use Rattle.std.specs.List.{AllByRecursion as Each}
use Rattle.std.proofs.lemmas.List.Elements.{filter-append}
use Rattle.ph_specs.specs.Coordinate.{IsPoint, coordinate, is_point}
use Rattle.ph_specs.specs.TreeRows.{put_together, rows, rows_behind}
use Rattle.ph_model.specs.Lawful.{IsAbove, IsLawful, IsLawfulEntry, IsLawfulFrom, IsLawfulWhat}
use Rattle.ph_specs.specs.Node.{Entries, end, point, child, PlainNode}
use Rattle.ph_model.specs.EntryList.{What, value, node, Entry, chained, in_front}
use Rattle.ph_specs.specs.Region.{Region, is_in}
use Rattle.ph_specs.specs.Table.{Row, row}
use Rattle.ph_model.specs.WindowWalk.{node_region}
use Rattle.ph_specs.specs.WorkSets.{Placed, placed, placed_below}
use Rattle.ph_model.proofs.lemmas.Bounds.{small, small-point, same-in, in-same}
use Rattle.ph_model.proofs.lemmas.Joined.{offsets, from_place, offsets-coordinate, same_from, from_place-put_together, above-child}
use Rattle.ph_specs.proofs.lemmas.Members.{Each-each}
use Rattle.ph_model.proofs.lemmas.RowsBehind.{Each-append, IsUnder, rows-under}
use Rattle.ph_model.proofs.laws.LawfulRows.{rows-points, both-each, put_together-small}
use Rattle.ph_model.proofs.laws.Unique.{zeros_known}
use Rattle.ph_model.proofs.laws.WindowWalk.{none-pass, refuted}
use Rattle.ph_path.specs.Known.{point_at}
use Rattle.ph_path.specs.Path.{entry_steps}
use Rattle.ph_path.proofs.Knowns.{zeros-body}
use Rattle.ph_walk.specs.Area.{Area, IsArea, kept, touched, kept_below, touched_below, HoldsNone, AreOut}

-- ---- a region without a point of the set

-- a node in its region, which is inside that of the digits at a level
pub record IsInside (w d m : ℕ) (above : List ℕ) (x : Placed) : Type 0 where
  pub low : x.region.level ≤ m
  pub corner : IsPoint w d x.region.corner
  pub same : from_place (m + 1) (offsets w x.region.corner) ≡ from_place (m + 1) above

nodes-inside : (w d b least m : ℕ) (above : List ℕ) (e : Entries) → b ≤ m → b < w → IsAbove d b above →
    small w above → IsLawfulFrom d b least e → Each (IsInside w d m above) (placed_below w b above e)
nodes-inside w d b least m above end l u h s k = tt
nodes-inside w d b least m above (point a body v rest) l u h s k = nodes-inside w d b (a + 1) m above rest l u h s k.3
nodes-inside w d b least m above (child a body c chain rest) l u h s k =
    let known : List ℕ = put_together b a above body in
    let i : IsAbove d c (put_together b a above body) = above-child d b c a above body k.3 h k.2 k.4 in
    let r : small w (put_together b a above body) = put_together-small w b a above body u h.zeros s k.2.1 in
    let t : from_place (m + 1) (put_together b a above body) ≡ from_place (m + 1) above =
    same_from (b + 1) (m + 1) (put_together b a above body) above (omega (arith, l))
    (from_place-put_together b a above body (h.long ∙ sym k.2.0) h.zeros k.2.1) in (
      record { low = omega (arith, l); corner = small-point w d known (omega (arith, u)) i.long r; same = ap (from_place (m + 1)) (offsets-coordinate w known) ∙ t },
      Each-append (IsInside w d m above) (placed_below w c known chain) (placed_below w b above rest)
          (Each-each (placed_below w c known chain)
          (λ x q. record { low = q.low; corner = q.corner; same = q.same ∙ t })
          (nodes-inside w d c 0 m known chain (omega (arith, l, k.3)) (omega (arith, u, k.3)) i r k.6))
          (nodes-inside w d b (a + 1) m above rest l u h s k.7),
    )

module _ (d : ℕ) (a : Area) (exact : IsArea d a) (c m : ℕ) (above : List ℕ) (e : Entries) (low : c ≤ m)
    (top : m < a.width) (h : IsAbove d c above) (s : small a.width above) (k : IsLawfulFrom d c 0 e)
    (out : a.touches (node_region a.width m above) ≡ false) where
  corner : IsPoint a.width d (node_region a.width m above).corner
  corner = small-point a.width d above (omega (arith, top)) h.long s

  none-at : (p : List ℤ) → IsPoint a.width d p → from_place (m + 1) above ≡ from_place (m + 1) (offsets a.width p) →
      a.belongs p ≡ true → a.touches (node_region a.width m above) ≡ true
  none-at p i q b =
      (exact (node_region a.width m above) top corner).1 (
        p,
        i,
        same-in a.width m (map (coordinate a.width) above) p
            (ap (from_place (m + 1)) (offsets-coordinate a.width above) ∙ q),
        b,
      )

  pub none-kept : kept_below a c above e ≡ []
  none-kept =
      none-pass (λ (r : Row). a.belongs r.point) (rows_behind a.width c above e)
      (Each-each (rows_behind a.width c above e)
      (λ (r : Row) q. refuted (a.belongs r.point) (a.touches (node_region a.width m above))
      (none-at r.point q.0 (sym (same_from (c + 1) (m + 1) (offsets a.width r.point) above (omega (arith, low)) q.1))) out)
      (both-each (λ (r : Row). is_point a.width d r.point ≡ true) (IsUnder a.width (c + 1) above) (rows_behind a.width c above e)
      (rows-points a.width d c 0 above e (omega (arith, top)) (omega (arith, low, top)) h s k)
      (rows-under a.width d c 0 above e h k)))

  pub none-touched : touched_below a c above e ≡ []
  none-touched =
      none-pass (λ (x : Placed). a.touches x.region) (placed_below a.width c above e)
      (Each-each (placed_below a.width c above e)
      (λ (x : Placed) q. refuted (a.touches x.region) (a.touches (node_region a.width m above))
      (λ t. up x q ((exact x.region (omega (arith, q.low, top)) q.corner).0 t)) out)
      (nodes-inside a.width d c 0 m above e low (omega (arith, low, top)) h s k))
    where
      up : (x : Placed) → IsInside a.width d m above x → (p : List ℤ) × IsPoint a.width d p ×
          (is_in a.width x.region p ≡ true) × (a.belongs p ≡ true) → a.touches (node_region a.width m above) ≡ true
      up x q t =
          none-at t.0 t.1 (sym q.same ∙ same_from (x.region.level + 1) (m + 1) (offsets a.width x.region.corner)
          (offsets a.width t.0) (omega (arith, q.low)) (in-same a.width x.region.level x.region.corner t.0 t.2)) t.3

-- a tree of which no point belongs to it
pub none-in-tree : (d : ℕ) (a : Area) → IsArea d a → 1 ≤ a.width → (o : Option PlainNode) → IsLawful a.width d o →
    a.touches (node_region a.width (a.width - 1) (replicate d 0)) ≡ false → (kept a (rows a.width d o) ≡ []) ×
    (length (touched a (placed a.width d o)) ≡ 0)
none-in-tree d a exact l None h out = (refl, refl)
none-in-tree d a exact l (Some n) h out =
    let x : Placed = record { node = n; region = node_region a.width (a.width - 1) (replicate d 0) } in
    let ys : List Placed = touched_below a n.level (replicate d 0) n.chain in
    let known : IsAbove d n.level (replicate d 0) = record { long = length-replicate d 0; zeros = zeros_known n.level d } in (
      none-kept d a exact n.level (a.width - 1) (replicate d 0) n.chain (omega (arith, h.0)) (omega (arith, l)) known (zeros-body d a.width).1 h.2 out,
      ap (λ t. length (cond t (x ∷ ys) ys)) out
          ∙ ap length (none-touched d a exact n.level (a.width - 1) (replicate d 0) n.chain (omega (arith, h.0))
          (omega (arith, l)) known (zeros-body d a.width).1 h.2 out),
    )

-- ---- no more is touched behind an entry than from it on

more-touched : (a : Area) (xs ys : List Placed) → length (touched a ys) ≤ length (touched a (xs ++ ys))
more-touched a xs ys =
    let e : length (touched a (xs ++ ys)) ≡ length (touched a xs ++ touched a ys) = ap length (filter-append (λ (x : Placed). a.touches x.region) xs ys) in
    omega (arith, e, length-append (touched a xs) (touched a ys))

pub fewer-in-tree : (d : ℕ) (a : Area) (n : PlainNode) → length (touched_below a n.level (replicate d 0) n.chain) ≤ length (touched a (placed a.width d (Some n)))
fewer-in-tree d a n =
    more-touched a (record { node = n; region = node_region a.width (a.width - 1) (replicate d 0) } ∷ []) (placed_below a.width n.level (replicate d 0) n.chain)

pub fewer-nodes : (a : Area) (b : ℕ) (above : List ℕ) (es : List Entry) (j : ℕ) →
    length (touched_below a b above (chained (drop j es))) ≤ length (touched_below a b above (chained es))
fewer-nodes a b above es zero = omega arith
fewer-nodes a b above [] (suc j) = omega arith
fewer-nodes a b above (e ∷ es) (suc j) =
    let ih : length (touched_below a b above (chained (drop j es))) ≤ length (touched_below a b above (chained es)) = fewer-nodes a b above es j in
    let s : length (touched_below a b above (chained es)) ≤ length
    (touched_below a b above (in_front e.addr e.body e.what (chained es))) = by_what e.addr e.body e.what in
    omega (arith, ih, s)
  where
    by_what : (i : ℕ) (body : List ℕ) (o : What) → length (touched_below a b above (chained es)) ≤ length (touched_below a b above (in_front i body o (chained es)))
    by_what i body (value v) = omega arith
    by_what i body (node n) =
        let known : List ℕ = put_together b i above body in
        more-touched a (record {
          node = record { level = n.level; chain = n.chain };
          region = node_region a.width (b - 1) known;
        } ∷ placed_below a.width n.level known n.chain)
        (placed_below a.width b above (chained es))

-- ---- an entry

module _ (d : ℕ) (a : Area) (exact : IsArea d a) (b : ℕ) (above : List ℕ) (top : b < a.width) (h : IsAbove d b above) (s : small a.width above) where
  module _ (x : Entry) (lawful : IsLawfulEntry d b x) (rest : Entries) where
    abbrev joined : List ℕ
    joined = put_together b x.addr above x.body

    joined-small : small a.width (put_together b x.addr above x.body)
    joined-small = put_together-small a.width b x.addr above x.body top h.zeros s lawful.body.1

    -- that holds nothing of the set
    out-both : (o : What) → IsLawfulWhat d b x.body o → HoldsNone a b (put_together b x.addr above x.body) o →
        (kept_below a b above (in_front x.addr x.body o rest) ≡ kept_below a b above rest) ×
        (touched_below a b above (in_front x.addr x.body o rest) ≡ touched_below a b above rest)
    out-both (value v) k none =
        (ap (λ t. cond t (row (point_at a.width joined) v ∷ kept_below a b above rest) (kept_below a b above rest)) none, refl)
    out-both (node n) k none =
        let i : IsAbove d n.level (put_together b x.addr above x.body) = above-child d b n.level x.addr above x.body k.0 h lawful.body k.1 in
        let y : Placed = record { node = record { level = n.level; chain = n.chain }; region = node_region a.width (b - 1) joined } in (
          filter-append (λ (r : Row). a.belongs r.point) (rows_behind a.width n.level joined n.chain) (rows_behind a.width b above rest)
              ∙ ap (λ t. t ++ kept_below a b above rest)
              (none-kept d a exact n.level (b - 1) joined n.chain (omega (arith, k.0)) (omega (arith, top)) i
              joined-small k.3 none),
          ap (λ t. cond t (y ∷ filter (λ (x : Placed). a.touches x.region)
              (placed_below a.width n.level joined n.chain ++ placed_below a.width b above rest))
              (filter (λ (x : Placed). a.touches x.region)
              (placed_below a.width n.level joined n.chain ++ placed_below a.width b above rest))) none
              ∙ filter-append (λ (x : Placed). a.touches x.region) (placed_below a.width n.level joined n.chain) (placed_below a.width b above rest)
              ∙ ap (λ t. t ++ touched_below a b above rest)
              (none-touched d a exact n.level (b - 1) joined n.chain (omega (arith, k.0)) (omega (arith, top)) i
              joined-small k.3 none),
        )

    pub out-entry : HoldsNone a b (put_together b x.addr above x.body) x.what →
        (kept_below a b above (in_front x.addr x.body x.what rest) ≡ kept_below a b above rest) ×
        (touched_below a b above (in_front x.addr x.body x.what rest) ≡ touched_below a b above rest)
    out-entry none = out-both x.what lawful.held none

    -- a point
    module _ (v : ℕ) (e : x.what ≡ value v) where
      pub value-rows : (t : Bool) → a.belongs (point_at a.width (put_together b x.addr above x.body)) ≡ t →
          kept_below a b above (in_front x.addr x.body x.what rest) ≡
          cond t (row (point_at a.width (put_together b x.addr above x.body)) v ∷ kept_below a b above rest)
          (kept_below a b above rest)
      value-rows t i =
          ap (λ o. kept_below a b above (in_front x.addr x.body o rest)) e
          ∙ ap (λ t. cond t (row (point_at a.width joined) v ∷ kept_below a b above rest) (kept_below a b above rest)) i

      pub value-nodes : touched_below a b above (in_front x.addr x.body x.what rest) ≡ touched_below a b above rest
      value-nodes = ap (λ o. touched_below a b above (in_front x.addr x.body o rest)) e

    -- a child of which a point belongs to it
    module _ (n : PlainNode) (e : x.what ≡ node n) where
      pub child-rows : kept_below a b above (in_front x.addr x.body x.what rest) ≡
          kept_below a n.level (put_together b x.addr above x.body) n.chain ++ kept_below a b above rest
      child-rows =
          ap (λ o. kept_below a b above (in_front x.addr x.body o rest)) e
          ∙ filter-append (λ (r : Row). a.belongs r.point) (rows_behind a.width n.level joined n.chain) (rows_behind a.width b above rest)

      pub child-nodes : a.touches (node_region a.width (b - 1) (put_together b x.addr above x.body)) ≡ true →
          length (touched_below a b above (in_front x.addr x.body x.what rest)) ≡
          suc (length (touched_below a n.level (put_together b x.addr above x.body) n.chain) + length
          (touched_below a b above rest))
      child-nodes t =
          let y : Placed = record { node = record { level = n.level; chain = n.chain }; region = node_region a.width (b - 1) joined } in
          ap (λ o. length (touched_below a b above (in_front x.addr x.body o rest))) e
          ∙ ap (λ t. length (cond t (y ∷ filter (λ (x : Placed). a.touches x.region)
          (placed_below a.width n.level joined n.chain ++ placed_below a.width b above rest))
          (filter (λ (x : Placed). a.touches x.region)
          (placed_below a.width n.level joined n.chain ++ placed_below a.width b above rest)))) t
          ∙ ap (λ t. suc (length t)) (filter-append (λ (x : Placed). a.touches x.region)
          (placed_below a.width n.level joined n.chain) (placed_below a.width b above rest))
          ∙ ap suc (length-append (touched_below a n.level joined n.chain) (touched_below a b above rest))

  -- ---- what is passed over

  abbrev Lawful : List Entry → Type 0
  Lawful es = (j : ℕ) (x : Entry) → slice_get es j ≡ Some x → IsLawfulEntry d b x

  drop-none : {X : Type 0} (i : ℕ) → drop {A = X} i [] ≡ []
  drop-none zero = refl
  drop-none (suc i) = refl

  abbrev Same : List Entry → ℕ → ℕ → Type 0
  Same es p i =
      (kept_below a b above (chained (drop p es)) ≡ kept_below a b above (chained (drop i es))) ×
      (touched_below a b above (chained (drop p es)) ≡ touched_below a b above (chained (drop i es)))

  pub past : (es : List Entry) (p i : ℕ) → p ≤ i → Lawful es → AreOut a b above es p i → Same es p i
  past [] p i l k o =
      let e : drop {A = Entry} p [] ≡ drop i [] = drop-none p ∙ sym (drop-none i) in
      (ap (λ t. kept_below a b above (chained t)) e, ap (λ t. touched_below a b above (chained t)) e)
  past (x ∷ es) zero zero l k o = (refl, refl)
  past (x ∷ es) zero (suc i) l k o =
      let q = out-entry x (k 0 x refl) (chained es) (o 0 x (omega arith) (omega arith) refl) in
      let ih : Same es 0 i = past es 0 i (omega arith) (λ j y g. k (suc j) y g) (λ j y u v g. o (suc j) y (omega arith) (omega (arith, v)) g) in
      (q.0 ∙ ih.0, q.1 ∙ ih.1)
  past (x ∷ es) (suc p) zero l k o = absurd (omega (arith, l))
  past (x ∷ es) (suc p) (suc i) l k o =
      past es p i (omega (arith, l)) (λ j y g. k (suc j) y g) (λ j y u v g. o (suc j) y (omega (arith, u)) (omega (arith, v)) g)

-- ---- steps

skip-one : (x : Entry) (rest : Entries) → suc (entry_steps rest) ≤ entry_steps (in_front x.addr x.body x.what rest)
skip-one x rest = by_what x.addr x.body x.what
  where
    by_what : (a : ℕ) (body : List ℕ) (o : What) → suc (entry_steps rest) ≤ entry_steps (in_front a body o rest)
    by_what a body (value v) = omega arith
    by_what a body (node n) = omega arith

pub fewer-steps : (es : List Entry) (p i : ℕ) → p ≤ i → entry_steps (chained (drop i es)) ≤ entry_steps (chained (drop p es))
fewer-steps [] p i l =
    let a : entry_steps (chained (drop {A = Entry} p [])) ≡ 0 = none p in
    let c : entry_steps (chained (drop {A = Entry} i [])) ≡ 0 = none i in
    omega (arith, a, c)
  where
    none : (i : ℕ) → entry_steps (chained (drop {A = Entry} i [])) ≡ 0
    none zero = refl
    none (suc i) = refl
fewer-steps (e ∷ es) zero zero l = omega arith
fewer-steps (e ∷ es) zero (suc i) l =
    let ih : entry_steps (chained (drop i es)) ≤ entry_steps (chained (drop 0 es)) = fewer-steps es 0 i (omega arith) in
    let s : suc (entry_steps (chained es)) ≤ entry_steps (in_front e.addr e.body e.what (chained es)) = skip-one e (chained es) in
    omega (arith, ih, s)
fewer-steps (e ∷ es) (suc p) zero l = absurd (omega (arith, l))
fewer-steps (e ∷ es) (suc p) (suc i) l = fewer-steps es p i (omega (arith, l))
