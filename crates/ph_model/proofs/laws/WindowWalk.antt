-- The listing of a window by masks gives the rows of the window, and opens the nodes whose region meets it.
use Rattle.std.proofs.Common.{◌≡◌, ℕ, zero, suc, ◌+◌, ◌-◌, ◌^◌, ◌<◌, ◌≤◌, refl, sym, ◌∙◌, ap, arith, List, [], ◌∷◌, map, replicate, cond, Bool, true, false}
use Rattle.std.specs.Prelude.{ℤ, filter}
use Rattle.std.specs.List.{AllByRecursion as Each}
use Rattle.std.proofs.lemmas.List.{length-replicate}
use Rattle.std.proofs.lemmas.Nat.{pow_pos}
use Rattle.ph_specs.specs.Coordinate.{coordinate, IsPoint, is_point}
use Rattle.ph_specs.specs.Table.{Row}
use Rattle.ph_specs.specs.Node.{Entries, child, PlainNode}
use Rattle.ph_specs.specs.Shape.{row_address}
use Rattle.ph_specs.specs.TreeRows.{put_together, rows_behind}
use Rattle.ph_model.specs.Lawful.{IsBody, IsLawfulFrom, IsAbove}
use Rattle.ph_specs.specs.Region.{is_in, meets_window}
use Rattle.ph_specs.specs.Window.{window, is_between}
use Rattle.ph_model.specs.WindowWalk.{node_region, is_open}
use Rattle.ph_model.proofs.lemmas.Joined.{offsets, from_place, offsets-coordinate, same_from, from_place-put_together, above-child}
use Rattle.ph_specs.proofs.lemmas.Members.{Each-each}
use Rattle.ph_model.proofs.lemmas.RowsBehind.{IsUnder, rows-under, child-addresses}
use Rattle.ph_model.proofs.lemmas.Bounds.{small, small-point, highs, highs-small, Below-small, region-high, same-in}
use Rattle.ph_model.proofs.laws.Masks.{masks-part, masks-child}
use Rattle.ph_model.proofs.laws.LawfulRows.{rows-points, both-each}
use Rattle.ph_model.proofs.laws.Unique.{zeros_known}

-- ---- what is known at a node

-- a window in a node: digits that are known above a level, and the corners
pub record At (w dims b : ℕ) (above : List ℕ) (lo hi : List ℤ) : Type 0 where
  pub within : b < w
  pub known : IsAbove dims b above
  pub room : small w above
  pub low : IsPoint w dims lo
  pub high : IsPoint w dims hi

pub known-small : (w dims b a : ℕ) (above body : List ℕ) → b < w → IsAbove dims b above → small w above → IsBody dims b body → small w (put_together b a above body)
known-small w dims b a above body l h s k =
    Below-small w (put_together b a above body) (highs b above)
    (region-high b above (put_together b a above body)
    (sym (from_place-put_together b a above body (h.long ∙ sym k.0) h.zeros k.1))) (highs-small w b above l s)

pub at-child : (w dims b c a : ℕ) (above body : List ℕ) (lo hi : List ℤ) (chain rest : Entries) (least : ℕ) →
    At w dims b above lo hi → IsLawfulFrom dims b least (child a body c chain rest) →
    At w dims c (put_together b a above body) lo hi
at-child w dims b c a above body lo hi chain rest least t k =
    record {
      within = omega (arith, t.within, k.3);
      known = above-child dims b c a above body k.3 t.known k.2 k.4;
      room = known-small w dims b a above body t.within t.known t.room k.2;
      low = t.low;
      high = t.high;
    }

pub at-corner : (w dims b : ℕ) (above : List ℕ) (lo hi : List ℤ) → At w dims b above lo hi → IsPoint w dims (map (coordinate w) above)
at-corner w dims b above lo hi t = small-point w dims above (omega (arith, t.within)) t.known.long t.room

-- a row under the known digits is in the node's region
pub under-in : (w b : ℕ) (above : List ℕ) (r : Row) → IsUnder w (b + 1) above r → is_in w (node_region w b above) r.point ≡ true
under-in w b above r u = same-in w b (map (coordinate w) above) r.point (ap (from_place (b + 1)) (offsets-coordinate w above) ∙ sym u)

-- a row of an entry that is in the window opens the entry
pub row-opens : (w dims b a : ℕ) (above : List ℕ) (lo hi : List ℤ) (r : Row) → At w dims b above lo hi →
    a < 2 ^ dims → IsPoint w dims r.point → IsUnder w (b + 1) above r → row_address w b r ≡ a →
    is_between lo hi r.point ≡ true → is_open w lo hi b above a ≡ true
row-opens w dims b a above lo hi r t l p u e h =
    (masks-part w dims (node_region w b above) lo hi a t.within (at-corner w dims b above lo hi t) t.low t.high l).1 (r.point, ((p, under-in w b above r u, h), e))

pub none-pass : {X : Type 0} (p : X → Bool) (xs : List X) → Each (λ x. p x ≡ false) xs → filter p xs ≡ []
none-pass p [] h = refl
none-pass p (x ∷ xs) h = ap (λ t. cond t (x ∷ filter p xs) (filter p xs)) h.0 ∙ none-pass p xs h.1

pub refuted : (s t : Bool) → (s ≡ true → t ≡ true) → t ≡ false → s ≡ false
refuted true t f e = sym (f refl) ∙ e
refuted false t f e = refl

-- rows of a child are below the node, have the child's address, and are points
pub record IsChildRow (w dims b a : ℕ) (above : List ℕ) (r : Row) : Type 0 where
  pub is_a_point : IsPoint w dims r.point
  pub under : IsUnder w (b + 1) above r
  pub address : row_address w b r ≡ a

pub child-rows : (w dims b c a : ℕ) (above body : List ℕ) (lo hi : List ℤ) (chain rest : Entries) (least : ℕ) →
    At w dims b above lo hi → IsLawfulFrom dims b least (child a body c chain rest) →
    Each (IsChildRow w dims b a above) (rows_behind w c (put_together b a above body) chain)
child-rows w dims b c a above body lo hi chain rest least t k =
    let rs : List Row = rows_behind w c (put_together b a above body) chain in
    let d : At w dims c (put_together b a above body) lo hi = at-child w dims b c a above body lo hi chain rest least t k in
    let up : from_place (b + 1) (put_together b a above body) ≡ from_place (b + 1) above =
    from_place-put_together b a above body (t.known.long ∙ sym k.2.0) t.known.zeros k.2.1 in
    Each-each rs
    (λ r q. record {
      is_a_point = q.0;
      under = same_from (c + 1) (b + 1) (offsets w r.point)
          (put_together b a above body) (omega (arith, k.3)) q.1.0 ∙ up;
      address = q.1.1;
    })
    (both-each (λ r. is_point w dims r.point ≡ true) (λ r. IsUnder w (c + 1) (put_together b a above body) r × (row_address w b r ≡ a)) rs
    (rows-points w dims c 0 (put_together b a above body) chain (omega (arith, t.within)) d.within d.known d.room k.6)
    (both-each (IsUnder w (c + 1) (put_together b a above body)) (λ r. row_address w b r ≡ a) rs
    (rows-under w dims c 0 (put_together b a above body) chain d.known k.6)
    (child-addresses w dims b a c above body chain t.known k.2 k.1 k.3 k.4 k.6)))

-- none of the rows of a child that is not opened is in the window
pub shut-rows : (w dims b c a : ℕ) (above body : List ℕ) (lo hi : List ℤ) (chain rest : Entries) (least : ℕ) →
    At w dims b above lo hi → IsLawfulFrom dims b least (child a body c chain rest) →
    is_open w lo hi b above a ≡ false → window lo hi (rows_behind w c (put_together b a above body) chain) ≡ []
shut-rows w dims b c a above body lo hi chain rest least t k e =
    none-pass (λ r. is_between lo hi r.point) (rows_behind w c (put_together b a above body) chain)
    (Each-each (rows_behind w c (put_together b a above body) chain)
    (λ r q. refuted (is_between lo hi r.point) (is_open w lo hi b above a) (row-opens w dims b a above lo hi r t k.1 q.is_a_point q.under q.address) e)
    (child-rows w dims b c a above body lo hi chain rest least t k))

-- ---- the rows that are listed

zeros-small : (w n : ℕ) → small w (replicate n 0)
zeros-small w zero = tt
zeros-small w (suc n) = (pow_pos w, zeros-small w n)

pub at-root : (w dims : ℕ) (n : PlainNode) (lo hi : List ℤ) → 1 ≤ w → n.level ≡ w - 1 → IsPoint w dims lo → IsPoint w dims hi → At w dims n.level (replicate dims 0) lo hi
at-root w dims n lo hi l e p q =
    record {
      within = omega (arith, l, e);
      known = record { long = length-replicate dims 0; zeros = zeros_known n.level dims };
      room = zeros-small w dims;
      low = p;
      high = q;
    }

-- ---- the nodes that are opened

-- the region of a child, before it is opened, meets the window exactly where its address fits
pub child-meets : (w dims b c a : ℕ) (above body : List ℕ) (lo hi : List ℤ) (chain rest : Entries) (least : ℕ) →
    At w dims b above lo hi → IsLawfulFrom dims b least (child a body c chain rest) →
    meets_window w (node_region w (b - 1) (put_together b a above body)) lo hi ≡ is_open w lo hi b above a
child-meets w dims b c a above body lo hi chain rest least t k =
    masks-child w dims b a above body lo hi (omega (arith, k.3)) t.within t.known t.room
    (known-small w dims b a above body t.within t.known t.room k.2) k.2 k.1 t.low t.high
