-- The rows of a node behind a point of its region.
use Rattle.std.proofs.Common.{◌≡◌, ℕ, zero, suc, ◌+◌, ◌^◌, ◌<◌, ◌≤◌, List, [], ◌∷◌, ◌++◌, drop, refl, sym, ◌∙◌, ap, subst, arith, Bool, true, false, cond}
use Rattle.std.specs.Prelude.{ℤ, Option, Some, None, filter, slice_get}
use Rattle.std.specs.List.{AllByRecursion as Each}
use Rattle.std.proofs.lemmas.List.Elements.{filter-append}
use Rattle.ph_specs.specs.Coordinate.{IsPoint}
use Rattle.ph_specs.specs.ZOrder.{address, before}
use Rattle.ph_specs.specs.Table.{Row, row}
use Rattle.ph_specs.specs.Node.{Entries, end, point, child, PlainNode}
use Rattle.ph_model.specs.EntryList.{What, value, node, Entry, listed, chained, in_front}
use Rattle.ph_specs.specs.TreeRows.{put_together, rows_behind}
use Rattle.ph_model.specs.Lawful.{IsBody, IsLawfulFrom, IsLawfulEntry, IsLawfulWhat}
use Rattle.ph_specs.specs.Region.{is_in}
use Rattle.ph_specs.specs.Window.{window, rest, is_between}
use Rattle.ph_model.specs.WindowWalk.{node_region, is_open, point_of}
use Rattle.ph_specs.proofs.lemmas.Members.{Each-each}
use Rattle.ph_model.proofs.lemmas.RowsBehind.{Each-append, IsUnder, under-point, point-address, rows-under}
use Rattle.ph_specs.proofs.laws.Put.{before-not}
use Rattle.ph_model.proofs.lemmas.PutRows.{before-by}
use Rattle.ph_specs.proofs.laws.WindowRest.{Each-filter}
use Rattle.ph_model.proofs.laws.WindowSteps.{node-digits}
use Rattle.ph_model.proofs.laws.WindowWalk.{At, IsChildRow, child-rows, at-child, none-pass, shut-rows, under-in}
use Rattle.ph_model.proofs.laws.OneSide.{one-side}
use Rattle.ph_model.proofs.laws.EntryLists.{chained-listed}
use Rattle.ph_path.specs.Known.{point_at}
use Rattle.ph_window.specs.Window.{behind}

-- the rows of entries that are in the window and behind the point
abbrev pub rest_of : ℕ → List ℤ → List ℤ → List ℤ → ℕ → List ℕ → Entries → List Row
rest_of w lo hi l b above e = rest w (behind lo hi l) (rows_behind w b above e)

all-pass : {X : Type 0} (p : X → Bool) (xs : List X) → Each (λ x. p x ≡ true) xs → filter p xs ≡ xs
all-pass p [] h = refl
all-pass p (x ∷ xs) h = ap (λ t. cond t (x ∷ filter p xs) (filter p xs)) h.0 ∙ ap {B = List _} (λ t. x ∷ t) (all-pass p xs h.1)

rest-append : (w : ℕ) (lo hi l : List ℤ) (xs ys : List Row) → rest w (behind lo hi l) (xs ++ ys) ≡ rest w (behind lo hi l) xs ++ rest w (behind lo hi l) ys
rest-append w lo hi l xs ys =
    ap (filter (λ r. before w l r.point)) (filter-append (λ r. is_between lo hi r.point) xs ys)
    ∙ filter-append (λ r. before w l r.point) (window lo hi xs) (window lo hi ys)

rest-none : (w : ℕ) (lo hi l : List ℤ) (xs : List Row) → Each (λ r. before w l r.point ≡ false) xs → rest w (behind lo hi l) xs ≡ []
rest-none w lo hi l xs h =
    none-pass (λ r. before w l r.point) (window lo hi xs) (Each-filter (λ r. before w l r.point ≡ false) (λ r. is_between lo hi r.point) xs h)

rest-all : (w : ℕ) (lo hi l : List ℤ) (xs : List Row) → Each (λ r. before w l r.point ≡ true) xs → rest w (behind lo hi l) xs ≡ window lo hi xs
rest-all w lo hi l xs h =
    all-pass (λ r. before w l r.point) (window lo hi xs) (Each-filter (λ r. before w l r.point ≡ true) (λ r. is_between lo hi r.point) xs h)

-- lawful entries from one on
pub lawful-from : (d b least i : ℕ) (e : Entries) (x : Entry) → IsLawfulFrom d b least e →
    slice_get (listed e) i ≡ Some x → IsLawfulFrom d b x.addr (chained (drop i (listed e))) ×
    IsLawfulFrom d b (x.addr + 1) (chained (drop (suc i) (listed e)))
lawful-from d b least i end x h g = absurd (let no : ◌≡◌ {A = Option Entry} None (Some x) = g in cc)
lawful-from d b least zero (point a body v others) x h g =
    let s : ◌≡◌ {A = Entry} (record { addr = a; body = body; what = value v }) x = cc in
    let q : IsLawfulFrom d b (a + 1) (chained (listed others)) = subst (IsLawfulFrom d b (a + 1)) (sym (chained-listed others)) h.3 in
    subst (λ y. IsLawfulFrom d b y.addr (in_front a body (value v) (chained (listed others))) ×
    IsLawfulFrom d b (y.addr + 1) (chained (listed others))) s ((omega arith, h.1, h.2, q, h.4), q)
lawful-from d b least (suc i) (point a body v others) x h g = lawful-from d b (a + 1) i others x h.3 g
lawful-from d b least zero (child a body c chain others) x h g =
    let s : ◌≡◌ {A = Entry} (record { addr = a; body = body; what = node (record { level = c; chain = chain }) }) x = cc in
    let q : IsLawfulFrom d b (a + 1) (chained (listed others)) = subst (IsLawfulFrom d b (a + 1)) (sym (chained-listed others)) h.7 in
    subst (λ y. IsLawfulFrom d b y.addr (child a body c chain (chained (listed others))) ×
    IsLawfulFrom d b (y.addr + 1) (chained (listed others))) s ((omega arith, h.1, h.2, h.3, h.4, h.5, h.6, q), q)
lawful-from d b least (suc i) (child a body c chain others) x h g = lawful-from d b (a + 1) i others x h.7 g

module _ (d w b : ℕ) (above : List ℕ) (lo hi l : List ℤ) (t : At w d b above lo hi) (i : is_in w (node_region w b above) l ≡ true) where
  -- rows under the node before and behind the point, by their addresses
  earlier-row : (p : List ℤ) (v : ℕ) → IsUnder w (b + 1) above (row p v) → address w p b < address w l b → before w l p ≡ false
  earlier-row p v u m = before-not w p l (before-by w b p l t.within (u ∙ node-digits w b above l i) m)

  later-row : (p : List ℤ) (v : ℕ) → IsUnder w (b + 1) above (row p v) → address w l b < address w p b → before w l p ≡ true
  later-row p v u m = before-by w b l p t.within (sym (u ∙ node-digits w b above l i)) m

  entry-child : (a : ℕ) (body : List ℕ) (m : PlainNode) → a < 2 ^ d → IsBody d b body →
      IsLawfulWhat d b body (node m) → IsLawfulFrom d b a (child a body m.level m.chain end)
  entry-child a body m s k h = (omega arith, s, k, h.0, h.1, h.2, h.3, tt)

  pub rows-of-child : (a : ℕ) (body : List ℕ) (m : PlainNode) → a < 2 ^ d → IsBody d b body →
      IsLawfulWhat d b body (node m) →
      Each (IsChildRow w d b a above) (rows_behind w m.level (put_together b a above body) m.chain)
  rows-of-child a body m s k h = child-rows w d b m.level a above body lo hi m.chain end a t (entry-child a body m s k h)

  -- an entry with a smaller address has nothing
  earlier-entry : (x : Entry) (others : Entries) → IsLawfulEntry d b x → x.addr < address w l b →
      rest_of w lo hi l b above (in_front x.addr x.body x.what others) ≡ rest_of w lo hi l b above others
  earlier-entry x others h m = by_what x.what h.held
    where
      by_what : (o : What) → IsLawfulWhat d b x.body o → rest_of w lo hi l b above (in_front x.addr x.body o others) ≡ rest_of w lo hi l b above others
      by_what (value v) k =
          let p : List ℤ = point_of w b x.addr above x.body in
          let q : address w (point_of w b x.addr above x.body) b ≡ x.addr = point-address w d b x.addr v above x.body t.known h.body h.address in
          rest-append w lo hi l (row p v ∷ []) (rows_behind w b above others)
          ∙ ap (λ z. z ++ rest_of w lo hi l b above others)
          (rest-none w lo hi l (row p v ∷ [])
          (earlier-row p v (under-point w d b x.addr v above x.body t.known h.body) (omega (arith, q, m)), tt))
      by_what (node n) k =
          let rs : List Row = rows_behind w n.level (put_together b x.addr above x.body) n.chain in
          rest-append w lo hi l rs (rows_behind w b above others)
          ∙ ap (λ z. z ++ rest_of w lo hi l b above others)
          (rest-none w lo hi l rs (Each-each rs
          (λ r q. earlier-row r.point r.value q.under
          (let z : address w r.point b ≡ x.addr = q.address in omega (arith, z, m)))
          (rows-of-child x.addr x.body n h.address h.body k)))

  pub skip-rest : (es : List Entry) (p j : ℕ) → p ≤ j →
      ((k : ℕ) (e : Entry) → p ≤ k → k < j → slice_get es k ≡ Some e → IsLawfulEntry d b e × (e.addr < address w l b))
      → rest_of w lo hi l b above (chained (drop p es)) ≡ rest_of w lo hi l b above (chained (drop j es))
  skip-rest [] p j m h = ap (λ z. rest_of w lo hi l b above (chained z)) (drop-nothing p ∙ sym (drop-nothing j))
    where
      drop-nothing : (k : ℕ) → drop {A = Entry} k [] ≡ []
      drop-nothing zero = refl
      drop-nothing (suc k) = refl
  skip-rest (e ∷ es) zero zero m h = refl
  skip-rest (e ∷ es) zero (suc j) m h =
      let f = h 0 e (omega arith) (omega arith) refl in
      earlier-entry e (chained es) f.0 f.1 ∙ skip-rest es 0 j (omega arith) (λ k e q n g. h (suc k) e (omega arith) (omega (arith, n)) g)
  skip-rest (e ∷ es) (suc p) zero m h = absurd (omega (arith, m))
  skip-rest (e ∷ es) (suc p) (suc j) m h = skip-rest es p j (omega (arith, m)) (λ k e q n g. h (suc k) e (omega (arith, q)) (omega (arith, n)) g)

  -- entries with greater addresses have all that is listed
  after-all : (least : ℕ) (e : Entries) → IsLawfulFrom d b least e → address w l b < least → Each (λ r. before w l r.point ≡ true) (rows_behind w b above e)
  after-all least end h m = tt
  after-all least (point a body v others) h m =
      let p : List ℤ = point_of w b a above body in
      let q : address w (point_of w b a above body) b ≡ a = point-address w d b a v above body t.known h.2 h.1 in
      (later-row p v (under-point w d b a v above body t.known h.2) (omega (arith, q, m, h.0)), after-all (a + 1) others h.3 (omega (arith, m, h.0)))
  after-all least (child a body c chain others) h m =
      let rs : List Row = rows_behind w c (put_together b a above body) chain in
      Each-append (λ r. before w l r.point ≡ true) rs (rows_behind w b above others)
      (Each-each rs (λ r q. later-row r.point r.value q.under
      (let z : address w r.point b ≡ a = q.address in omega (arith, z, m, h.0)))
      (child-rows w d b c a above body lo hi chain others least t h))
      (after-all (a + 1) others h.7 (omega (arith, m, h.0)))

  pub later-rest : (least : ℕ) (e : Entries) → IsLawfulFrom d b least e → address w l b < least → rest_of w lo hi l b above e ≡ window lo hi (rows_behind w b above e)
  later-rest least e h m = rest-all w lo hi l (rows_behind w b above e) (after-all least e h m)

  -- ---- the entry at the point's address

  module _ (x : Entry) (others : Entries) (s : x.addr < 2 ^ d) (k : IsBody d b x.body) (more : IsLawfulFrom d b (x.addr + 1) others) (same : x.addr ≡ address w l b) where
    later : address w l b < x.addr + 1
    later = omega (arith, same)

    -- a point
    pub passed-rest : (v : ℕ) → x.what ≡ value v → before w l (point_of w b x.addr above x.body) ≡ false →
        rest_of w lo hi l b above (in_front x.addr x.body x.what others) ≡ window lo hi (rows_behind w b above others)
    passed-rest v e f =
        let p : List ℤ = point_of w b x.addr above x.body in
        ap (λ o. rest_of w lo hi l b above (in_front x.addr x.body o others)) e
        ∙ rest-append w lo hi l (row p v ∷ []) (rows_behind w b above others)
        ∙ ap (λ z. z ++ rest_of w lo hi l b above others) (rest-none w lo hi l (row p v ∷ []) (f, tt))
        ∙ later-rest (x.addr + 1) others more later

    pub ahead-rest : (v : ℕ) → x.what ≡ value v → before w l (point_of w b x.addr above x.body) ≡ true →
        rest_of w lo hi l b above (in_front x.addr x.body x.what others) ≡
        window lo hi (rows_behind w b above (in_front x.addr x.body x.what others))
    ahead-rest v e f =
        ap (λ o. rest_of w lo hi l b above (in_front x.addr x.body o others)) e
        ∙ rest-all w lo hi l (row (point_of w b x.addr above x.body) v ∷ rows_behind w b above others) (f, after-all (x.addr + 1) others more later)
        ∙ sym (ap (λ o. window lo hi (rows_behind w b above (in_front x.addr x.body o others))) e)

    -- a child
    module _ (m : PlainNode) (e : x.what ≡ node m) (h : IsLawfulWhat d b x.body (node m)) where
      abbrev known : List ℕ
      known = put_together b x.addr above x.body

      pub child-rest : rest_of w lo hi l b above (in_front x.addr x.body x.what others) ≡
          rest_of w lo hi l m.level known m.chain ++ window lo hi (rows_behind w b above others)
      child-rest =
          ap (λ o. rest_of w lo hi l b above (in_front x.addr x.body o others)) e
          ∙ rest-append w lo hi l (rows_behind w m.level known m.chain) (rows_behind w b above others)
          ∙ ap (λ z. rest_of w lo hi l m.level known m.chain ++ z) (later-rest (x.addr + 1) others more later)

      pub child-at : At w d m.level known lo hi
      child-at = at-child w d b m.level x.addr above x.body lo hi m.chain end x.addr t (entry-child x.addr x.body m s k h)

      pub shut-rest : is_open w lo hi b above x.addr ≡ false → rest_of w lo hi l m.level known m.chain ≡ []
      shut-rest f =
          ap (filter (λ r. before w l r.point)) (shut-rows w d b m.level x.addr above x.body lo hi m.chain end x.addr t (entry-child x.addr x.body m s k h) f)

      -- the rows of a child whose region does not hold the point are on one side of it
      module _ (pl : IsPoint w d l) (out : is_in w (node_region w m.level known) l ≡ false)
          (pk : IsPoint w d (point_at w known)) (ik : is_in w (node_region w m.level known) (point_at w known) ≡ true) where
        one : (r : Row) → IsUnder w (m.level + 1) known r → before w l r.point ≡ before w l (point_at w known)
        one r u = sym (one-side w d (node_region w m.level known) l (point_at w known) r.point child-at.within pl pk ik (under-in w m.level known r u) out)

        unders : Each (IsUnder w (m.level + 1) known) (rows_behind w m.level known m.chain)
        unders = rows-under w d m.level 0 known m.chain child-at.known h.3

        pub child-done : before w l (point_at w known) ≡ false → rest_of w lo hi l m.level known m.chain ≡ []
        child-done f = rest-none w lo hi l (rows_behind w m.level known m.chain) (Each-each (rows_behind w m.level known m.chain) (λ r u. one r u ∙ f) unders)

        pub child-ahead : before w l (point_at w known) ≡ true → rest_of w lo hi l m.level known m.chain ≡ window lo hi (rows_behind w m.level known m.chain)
        child-ahead f =
            rest-all w lo hi l (rows_behind w m.level known m.chain) (Each-each (rows_behind w m.level known m.chain) (λ r u. one r u ∙ f) unders)
