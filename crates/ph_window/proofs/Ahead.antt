-- Nodes whose regions lie behind a point.
use Rattle.std.proofs.Common.{◌≡◌, ℕ, ◌+◌, ◌-◌, ◌<◌, ◌≤◌, Bool, true, false, ◌&&◌, cond, List, [], ◌∷◌, length, map, refl, sym, ◌∙◌, ap, arith}
use Rattle.std.specs.Prelude.{ℤ, not, filter}
use Rattle.std.specs.List.{AllByRecursion as Each}
use Rattle.ph_specs.specs.Coordinate.{coordinate}
use Rattle.ph_specs.specs.TreeRows.{put_together}
use Rattle.ph_model.specs.Lawful.{IsAbove, IsLawfulFrom}
use Rattle.ph_specs.specs.Node.{Entries, end, point, child}
use Rattle.ph_specs.specs.Region.{is_in}
use Rattle.ph_model.specs.WindowWalk.{node_region}
use Rattle.ph_specs.specs.WorkSets.{Placed, placed_below}
use Rattle.ph_specs.specs.ZOrder.{address, before}
use Rattle.ph_model.proofs.lemmas.Joined.{from_place, number_at, offsets, offsets-coordinate, same_from, same_number, from_place-put_together, above-child}
use Rattle.ph_model.proofs.lemmas.PointDigits.{address-is}
use Rattle.ph_model.proofs.lemmas.PutRows.{before-by}
use Rattle.ph_model.proofs.lemmas.RowsBehind.{Each-append, address-put_together}
use Rattle.ph_specs.proofs.laws.Order.{before_irrefl}
use Rattle.ph_model.proofs.laws.Paths.{placed_child, held}
use Rattle.ph_window.specs.Window.{lies_behind}

-- ---- lists

-- two tests of which one always holds
pub both-pass : {X : Type 0} (f g : X → Bool) (xs : List X) → Each (λ x. g x ≡ true) xs → length (filter (λ x. f x && g x) xs) ≡ length (filter f xs)
both-pass f g [] h = refl
both-pass f g (x ∷ xs) h =
    let more : length (filter (λ x. f x && g x) xs) ≡ length (filter f xs) = both-pass f g xs h.1 in
    ap (λ t. length (cond (f x && t) (x ∷ filter (λ x. f x && g x) xs) (filter (λ x. f x && g x) xs))) h.0 ∙ by_first (f x) more
  where
    by_first : (t : Bool) → length (filter (λ x. f x && g x) xs) ≡ length (filter f xs) →
        length (cond (t && true) (x ∷ filter (λ x. f x && g x) xs) (filter (λ x. f x && g x) xs)) ≡ length (cond t (x ∷ filter f xs) (filter f xs))
    by_first true e = omega (arith, e)
    by_first false e = e

-- a test more lets no more pass
pub both-fewer : {X : Type 0} (f g : X → Bool) (xs : List X) → length (filter (λ x. f x && g x) xs) ≤ length (filter f xs)
both-fewer f g [] = omega arith
both-fewer f g (x ∷ xs) = by_both (f x) (g x) (both-fewer f g xs)
  where
    by_both : (s t : Bool) → length (filter (λ x. f x && g x) xs) ≤ length (filter f xs) →
        length (cond (s && t) (x ∷ filter (λ x. f x && g x) xs) (filter (λ x. f x && g x) xs)) ≤ length (cond s (x ∷ filter f xs) (filter f xs))
    by_both true true l = omega (arith, l)
    by_both true false l = omega (arith, l)
    by_both false t l = l

-- one in front takes none away
pub one-more : {X : Type 0} (f : X → Bool) (x : X) (xs : List X) → length (filter f xs) ≤ length (filter f (x ∷ xs))
one-more f x xs = by_first (f x)
  where
    by_first : (t : Bool) → length (filter f xs) ≤ length (cond t (x ∷ filter f xs) (filter f xs))
    by_first true = omega arith
    by_first false = omega arith

-- ---- regions

module _ (w d : ℕ) (l : List ℤ) where
  -- all points with these digits from a place on come behind the point
  abbrev pub AllLater : ℕ → List ℕ → Type 0
  AllLater b known = (p : List ℤ) → from_place b (offsets w p) ≡ from_place b known → before w l p ≡ true

  abbrev pub IsAhead : Placed → Type 0
  IsAhead x = lies_behind w x.region l ≡ true

  node-ahead : (b c : ℕ) (known : List ℕ) (chain : Entries) → 1 ≤ b → AllLater b known → IsAhead (placed_child w b c known chain)
  node-ahead b c known chain s later = by_in (is_in w (node_region w (b - 1) known) l) refl
    where
      by_in : (t : Bool) → is_in w (node_region w (b - 1) known) l ≡ t → (not t && before w l (map (coordinate w) known)) ≡ true
      by_in false e = later (map (coordinate w) known) (ap (from_place b) (offsets-coordinate w known))
      by_in true e =
          let self : before w l l ≡ true = later l (held w b c known chain l s e) in
          absurd (let no : true ≡ false = sym self ∙ before_irrefl w l in cc)

  -- below digits all of whose points come behind it
  pub below-ahead : (b c least : ℕ) (known : List ℕ) (e : Entries) → c < b → IsAbove d c known → IsLawfulFrom d c least e →
      AllLater b known → Each IsAhead (placed_below w c known e)
  below-ahead b c least known end s k h later = tt
  below-ahead b c least known (point a body v rest) s k h later = below-ahead b c (a + 1) known rest s k h.3 later
  below-ahead b c least known (child a body low chain rest) s k h later =
      let joined : List ℕ = put_together c a known body in
      let over : from_place (c + 1) (put_together c a known body) ≡ from_place (c + 1) known =
      from_place-put_together c a known body (k.long ∙ sym h.2.0) k.zeros h.2.1 in
      let up : from_place b (put_together c a known body) ≡ from_place b known =
      same_from (c + 1) b (put_together c a known body) known (omega (arith, s)) over in
      let deeper : AllLater c (put_together c a known body) =
      λ p e. later p (same_from c b (offsets w p) (put_together c a known body) (omega (arith, s)) e ∙ up) in (
        node-ahead c low joined chain (omega (arith, h.3)) deeper,
        Each-append IsAhead (placed_below w low joined chain) (placed_below w c known rest)
            (below-ahead c low 0 joined chain h.3 (above-child d c low a known body h.3 k h.2 h.4) h.6 deeper)
            (below-ahead b c (a + 1) known rest s k h.7 later),
      )

  -- entries behind the point's address, in a node that holds the point
  pub entries-ahead : (b least : ℕ) (above : List ℕ) (e : Entries) → b < w → IsAbove d b above →
      from_place (b + 1) above ≡ from_place (b + 1) (offsets w l) → IsLawfulFrom d b least e → address w l b < least →
      Each IsAhead (placed_below w b above e)
  entries-ahead b least above end s k i h m = tt
  entries-ahead b least above (point a body v rest) s k i h m = entries-ahead b (a + 1) above rest s k i h.3 (omega (arith, m, h.0))
  entries-ahead b least above (child a body c chain rest) s k i h m =
      let joined : List ℕ = put_together b a above body in
      let over : from_place (b + 1) (put_together b a above body) ≡ from_place (b + 1) above =
      from_place-put_together b a above body (k.long ∙ sym h.2.0) k.zeros h.2.1 in
      let at_level : number_at 0 b (put_together b a above body) ≡ a = address-put_together d b a above body k h.2 h.1 in
      let later : AllLater b (put_together b a above body) = λ p e.
      let place : address w p b ≡ a = address-is w b p ∙ same_number 0 b b (offsets w p) (put_together b a above body) (omega arith) e ∙ at_level in
      before-by w b l p s (sym (same_from b (b + 1) (offsets w p) (put_together b a above body) (omega arith) e ∙ over ∙ i))
      (omega (arith, place, m, h.0)) in (
        node-ahead b c joined chain (omega (arith, h.3)) later,
        Each-append IsAhead (placed_below w c joined chain) (placed_below w b above rest)
            (below-ahead b c 0 joined chain h.3 (above-child d b c a above body h.3 k h.2 h.4) h.6 later)
            (entries-ahead b (a + 1) above rest s k i h.7 (omega (arith, m, h.0))),
      )
