-- What the queue of a search for the nearest rows, best first, holds, and how far the rows of an item are at least.
use Rattle.std.proofs.Common.{◌≡◌, ℕ, ◌+◌, ◌-◌, ◌<◌, ◌≤◌, ◌⊎◌, inl, inr, refl, sym, ◌∙◌, ap, subst, arith, true, false, Bool}
use Rattle.std.proofs.Common.{cond, List, [], ◌∷◌, ◌++◌, map}
use Rattle.std.specs.Prelude.{ℤ}
use Rattle.std.specs.List.{AllByRecursion as Each, sum_by}
use Rattle.std.specs.List.Sorted.{IsPermutation}
use Rattle.std.proofs.lemmas.List.Sorted.{sum_by-IsPermutation}
use Rattle.std.proofs.lemmas.List.Sums.{sum_by-append, sum_by-cons}
use Rattle.std.proofs.lemmas.Bool.{cases_order}
use Rattle.ph_specs.specs.Coordinate.{coordinate, is_point, same_point}
use Rattle.ph_specs.specs.ZOrder.{before}
use Rattle.ph_specs.specs.Table.{Row, row}
use Rattle.ph_specs.specs.Node.{Entries, end, point, child}
use Rattle.ph_specs.specs.TreeRows.{put_together, rows_behind}
use Rattle.ph_model.specs.Lawful.{IsLawfulFrom, IsAbove}
use Rattle.ph_specs.specs.Distance.{distance}
use Rattle.ph_specs.specs.WorkSets.{Placed, placed_below}
use Rattle.ph_model.specs.Nearness.{is_nearer}
use Rattle.ph_model.specs.BallSearch.{placed_at}
use Rattle.ph_model.specs.BestFirst.{Item, node, found, item_distance, items_below, items_of}
use Rattle.ph_model.proofs.lemmas.Joined.{offsets, offsets-coordinate, above-child}
use Rattle.ph_specs.proofs.lemmas.Members.{In}
use Rattle.ph_specs.proofs.lemmas.Gathered.{gathered}
use Rattle.ph_specs.proofs.laws.Order.{before_irrefl, same_from_order}
use Rattle.ph_specs.proofs.laws.Put.{same_from_test, test_from_same}
use Rattle.ph_model.proofs.laws.Bound.{bound, rows-bound}
use Rattle.ph_model.proofs.laws.Nearest.{nearer-less, nearer-same, Rising}
use Rattle.ph_specs.proofs.laws.Points.{ArePoints}

-- ---- what an item holds

abbrev pub rows_of : ℕ → Item → List Row
rows_of w (node x) = rows_behind w x.node.level (offsets w x.region.corner) x.node.chain
rows_of w (found r) = r ∷ []

abbrev pub nodes_of : ℕ → Item → List Placed
nodes_of w (node x) = x ∷ placed_below w x.node.level (offsets w x.region.corner) x.node.chain
nodes_of w (found r) = []

abbrev pub rows_in : ℕ → List Item → List Row
rows_in w is = gathered (rows_of w) is

abbrev pub nodes_in : ℕ → List Item → List Placed
nodes_in w is = gathered (nodes_of w) is

-- the entries of a node hold what the node holds
pub rows-items : (w level : ℕ) (above : List ℕ) (e : Entries) → rows_in w (items_below w level above e) ≡ rows_behind w level above e
rows-items w level above end = refl
rows-items w level above (point a body v rest) =
    ap {B = List Row} (λ t. row (map (coordinate w) (put_together level a above body)) v ∷ t) (rows-items w level above rest)
rows-items w level above (child a body c chain rest) =
    let e : offsets w (map (coordinate w) (put_together level a above body)) ≡ put_together level a above body = offsets-coordinate w (put_together level a above body) in
    λ i. rows_behind w c (e i) chain ++ rows-items w level above rest i

pub nodes-items : (w level : ℕ) (above : List ℕ) (e : Entries) → nodes_in w (items_below w level above e) ≡ placed_below w level above e
nodes-items w level above end = refl
nodes-items w level above (point a body v rest) = nodes-items w level above rest
nodes-items w level above (child a body c chain rest) =
    let e : offsets w (map (coordinate w) (put_together level a above body)) ≡ put_together level a above body = offsets-coordinate w (put_together level a above body) in
    λ i. placed_at w (level - 1) (put_together level a above body) (record { level = c; chain = chain }) ∷
    (placed_below w c (e i) chain ++ nodes-items w level above rest i)

-- ---- lawful items

-- a node with what is known of it before it is opened
pub record IsPlaced (w dims : ℕ) (x : Placed) : Type 0 where
  pub known : List ℕ
  pub corner : x.region.corner ≡ map (coordinate w) known
  pub above : IsAbove dims x.node.level known
  pub lawful : IsLawfulFrom dims x.node.level 0 x.node.chain
  pub level : x.node.level ≤ x.region.level

abbrev pub IsItem : ℕ → ℕ → Item → Type 0
IsItem w dims (node x) = IsPlaced w dims x
IsItem w dims (found r) = Unit {0}

pub items-lawful : (w dims b least : ℕ) (above : List ℕ) (e : Entries) → IsAbove dims b above →
    IsLawfulFrom dims b least e → Each (IsItem w dims) (items_below w b above e)
items-lawful w dims b least above end h k = tt
items-lawful w dims b least above (point a body v rest) h k = (tt, items-lawful w dims b (a + 1) above rest h k.3)
items-lawful w dims b least above (child a body c chain rest) h k = (
  record {
    known = put_together b a above body;
    corner = refl;
    above = above-child dims b c a above body k.3 h k.2 k.4;
    lawful = k.6;
    level = omega (arith, k.3);
  },
  items-lawful w dims b (a + 1) above rest h k.7,
)

pub known-is : (w dims : ℕ) (x : Placed) (p : IsPlaced w dims x) → offsets w x.region.corner ≡ p.known
known-is w dims x p = ap (offsets w) p.corner ∙ offsets-coordinate w p.known

pub items_of-lawful : (w dims : ℕ) (x : Placed) → IsPlaced w dims x → Each (IsItem w dims) (items_of w x)
items_of-lawful w dims x p =
    items-lawful w dims x.node.level 0 (offsets w x.region.corner) x.node.chain (subst (IsAbove dims x.node.level) (sym (known-is w dims x p)) p.above) p.lawful

-- ---- no row of an item is nearer than the item

pub item-bound : (w dims : ℕ) (q : List ℤ) (i : Item) → IsItem w dims i → ArePoints w dims (rows_of w i) →
    Each (λ s. item_distance w q i ≤ distance s.point q) (rows_of w i)
item-bound w dims q (found r) h f = (omega arith, tt)
item-bound w dims q (node x) h f =
    let k : offsets w x.region.corner ≡ h.known = known-is w dims x h in
    let c : map (coordinate w) (offsets w x.region.corner) ≡ x.region.corner = ap (map (coordinate w)) k ∙ sym h.corner in
    subst (λ cs. Each (λ s. bound w x.region.level cs q ≤ distance s.point q) (rows_of w (node x))) c
    (rows-bound w dims x.node.level 0 x.region.level (offsets w x.region.corner) x.node.chain q h.level (subst (IsAbove dims x.node.level) (sym k) h.above) h.lawful f)

abbrev pub IsApart : ℕ → Row → Row → Type 0
IsApart w r s = (before w r.point s.point ≡ true) ⊎ (before w s.point r.point ≡ true)

pub nearer-total : (w : ℕ) (q : List ℤ) (r s : Row) → IsApart w r s → is_nearer w q s r ≡ false → is_nearer w q r s ≡ true
nearer-total w q r s a h = by_case (cases_order (distance r.point q) (distance s.point q)) a
  where
    by_case : (distance r.point q ≡ distance s.point q) ⊎
        ((distance r.point q < distance s.point q) ⊎ (distance s.point q < distance r.point q)) → IsApart w r s →
        is_nearer w q r s ≡ true
    by_case (inl e) (inl b) = nearer-same w q r s e b
    by_case (inl e) (inr b) = absurd (let clash : false ≡ true = sym h ∙ nearer-same w q s r (sym e) b in cc)
    by_case (inr (inl l)) b = nearer-less w q r s l
    by_case (inr (inr l)) b = absurd (let clash : false ≡ true = sym h ∙ nearer-less w q s r l in cc)

-- ---- a table has no two rows at a point

abbrev pub at_point : List ℤ → Row → ℕ
at_point p s = cond (same_point s.point p) 1 0

none-at : (w : ℕ) (r : Row) (rs : List Row) → Each (λ s. before w r.point s.point ≡ true) rs → (p : List ℤ) → same_point r.point p ≡ true → sum_by (at_point p) rs ≡ 0
none-at w r [] h p e = refl
none-at w r (s ∷ rs) h p e = sum_by-cons (at_point p) s rs ∙ (λ i. here i + none-at w r rs h.1 p e i)
  where
    here : at_point p s ≡ 0
    here = by_test (same_point s.point p) refl
      where
        by_test : (t : Bool) → same_point s.point p ≡ t → cond {A = ℕ} t 1 0 ≡ 0
        by_test false k = refl
        by_test true k =
            let a : r.point ≡ p = same_from_test r.point p e in
            let b : s.point ≡ p = same_from_test s.point p k in
            let c : before w r.point r.point ≡ true = subst (λ x. before w r.point x ≡ true) (b ∙ sym a) h.0 in
            absurd (let clash : false ≡ true = sym (before_irrefl w r.point) ∙ c in cc)

pub one-at : (w : ℕ) (rs : List Row) → Rising w rs → (p : List ℤ) → sum_by (at_point p) rs ≤ 1
one-at w [] h p = omega arith
one-at w (r ∷ rs) h p = by_test (same_point r.point p) refl (one-at w rs h.1 p)
  where
    by_test : (t : Bool) → same_point r.point p ≡ t → sum_by (at_point p) rs ≤ 1 → sum_by (at_point p) (r ∷ rs) ≤ 1
    by_test true k ih =
        let a : at_point p r ≡ 1 = ap (λ t. cond t 1 0) k in
        omega (arith, sum_by-cons (at_point p) r rs, none-at w r rs h.0 p k, a)
    by_test false k ih = let a : at_point p r ≡ 0 = ap (λ t. cond t 1 0) k in omega (arith, sum_by-cons (at_point p) r rs, a, ih)

some-at : (p : List ℤ) (s : Row) (rs : List Row) → In s rs → same_point s.point p ≡ true → 1 ≤ sum_by (at_point p) rs
some-at p s [] h e = absurd h
some-at p s (r ∷ rs) (inl k) e =
    let a : at_point p r ≡ 1 = ap (λ (x : Row). at_point p x) (sym k) ∙ ap (λ t. cond t 1 0) e in
    omega (arith, sum_by-cons (at_point p) r rs, a)
some-at p s (r ∷ rs) (inr h) e = omega (arith, sum_by-cons (at_point p) r rs, some-at p s rs h e)

-- of two rows of a table, one comes before the other
pub rows-apart : (w dims : ℕ) (table listed rs : List Row) (r s : Row) → 1 ≤ w → Rising w table →
    IsPermutation table (listed ++ (r ∷ rs)) → In s rs → is_point w dims r.point ≡ true →
    is_point w dims s.point ≡ true → IsApart w r s
rows-apart w dims table listed rs r s l h m k f g = by_tests (before w r.point s.point) (before w s.point r.point) refl refl
  where
    by_tests : (a b : Bool) → before w r.point s.point ≡ a → before w s.point r.point ≡ b → IsApart w r s
    by_tests true b e u = inl e
    by_tests false true e u = inr u
    by_tests false false e u =
        let same : r.point ≡ s.point = same_from_order w dims r.point s.point l f g e u in
        let t : same_point s.point r.point ≡ true = test_from_same s.point r.point (sym same) in
        let v : same_point r.point r.point ≡ true = test_from_same r.point r.point refl in
        let a : at_point r.point r ≡ 1 = ap (λ t. cond t 1 0) v in
        let c : sum_by (at_point r.point) (listed ++ (r ∷ rs)) ≡ sum_by (at_point r.point) table = sum_by-IsPermutation (at_point r.point) table (listed ++ (r ∷ rs)) m in
        absurd (omega (
          arith,
          c,
          a,
          sum_by-append (at_point r.point) listed (r ∷ rs),
          sum_by-cons (at_point r.point) r rs,
          some-at r.point s rs k t,
          one-at w table h r.point,
        ))
