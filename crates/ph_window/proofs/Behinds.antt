-- A walk that goes on behind a point, from the root.
use Rattle.std.proofs.Common.{◌≡◌, ℕ, ◌+◌, ◌≤◌, List, [], length, replicate, true, refl, sym, ◌∙◌, ap, subst, arith, append-nil}
use Rattle.std.specs.Prelude.{ℤ, ◌&&◌, filter, Option, Some}
use Rattle.ph_specs.specs.Coordinate.{IsPoint}
use Rattle.ph_specs.specs.TreeRows.{rows, rows_behind}
use Rattle.ph_model.specs.Lawful.{IsLawful}
use Rattle.ph_specs.specs.Node.{PlainNode}
use Rattle.ph_model.specs.PutTree.{body_above}
use Rattle.ph_specs.specs.Region.{meets_window}
use Rattle.ph_specs.specs.Table.{Row}
use Rattle.ph_specs.specs.Window.{rest}
use Rattle.ph_specs.specs.WorkSets.{placed, placed_below, all_nodes, meets, path}
use Rattle.ph_model.proofs.lemmas.Assembled.{cleared}
use Rattle.ph_model.proofs.lemmas.Joined.{offsets, from_place}
use Rattle.ph_model.proofs.lemmas.PointDigits.{point-whole, none-known}
use Rattle.ph_model.proofs.lemmas.Splits.{from-cleared}
use Rattle.ph_model.proofs.laws.Paths.{holds, many, many-held, placed_child, holding}
use Rattle.ph_zorder.proofs.Decided.{is_body-point}
use Rattle.ph_path.specs.Known.{Known, AreKnown, known_at, point_at}
use Rattle.ph_path.proofs.Knowns.{above-top, start-known}
use Rattle.ph_path.proofs.Roots.{same-point}
use Rattle.ph_walk.specs.Area.{touched, touched_below}
use Rattle.ph_walk.specs.Walk.{Frame, path_rows, path_nodes}
use Rattle.ph_walk.proofs.Below.{fewer-in-tree}
use Rattle.ph_window.specs.Corners.{Corners, corners_at, points_of}
use Rattle.ph_window.specs.Mark.{Mark}
use Rattle.ph_window.specs.Resumed.{IsReady, IsResumed, ahead_of, held_below, way_below}
use Rattle.ph_window.specs.Window.{behind, lies_behind, meets_behind}
use Rattle.ph_window.proofs.Ahead.{both-fewer}
use Rattle.ph_window.proofs.Starts.{HasWindow, start-corners, low-point, high-point, lawful-root, table-rest}

-- a walk that is to go on behind a point, at the root: the point as a list and as offsets, the digits at hand, and the path
pub record IsBehind (d w u : ℕ) (o : Option PlainNode) (table : List Row) (lo hi last p q r : List ℤ) (n : PlainNode) (c : Corners) (k : Known)
    (m : Mark) (fs : List Frame) : Type 0 where
  pub window : HasWindow d w u o table lo hi p q c
  pub top_node : o ≡ Some n
  pub given : r ≡ last
  pub stands : IsPoint u d last
  pub none : k ≡ known_at w (replicate d 0)
  pub marked : m ≡ known_at w (offsets w r)
  pub start : fs ≡ []

module _ {d w u : ℕ} {o : Option PlainNode} {table : List Row} {lo hi last p q r : List ℤ} {n : PlainNode} {c : Corners} {k : Known} {m : Mark} {fs : List Frame}
    (h : IsBehind d w u o table lo hi last p q r n c k m fs) where
  last-point : IsPoint w d r
  last-point = same-point w u d r last h.window.same h.given h.stands

  lawful-node : IsLawful w d (Some n)
  lawful-node = subst (IsLawful w d) h.top_node (lawful-root h.window)

  known : AreKnown d (known_at w (replicate d 0))
  known = let t = h.window in start-known d w t.some t.few t.wide t.narrow

  top : w ≡ n.level + 1
  top = omega (arith, lawful-node.0, h.window.wide)

  zeros : body_above n.level (replicate d 0) ≡ replicate d 0
  zeros = above-top d n.level w (replicate d 0) top known.digits

  pub root-ready : {v : PlainNode} → v ≡ n → IsReady d m c k fs v
  root-ready {v} shows =
      let t = h.window in
      subst (IsReady d m c k fs) (sym shows)
      (subst (λ c. IsReady d m c k fs n) (sym t.made)
      (subst (λ k. IsReady d m (corners_at w (offsets w p) (offsets w q)) k fs n) (sym h.none)
      (subst (λ m. IsReady d m (corners_at w (offsets w p) (offsets w q)) (known_at w (replicate d 0)) fs n)
      (sym h.marked) (subst (λ fs. IsReady d (known_at w (offsets w r))
      (corners_at w (offsets w p) (offsets w q)) (known_at w (replicate d 0)) fs n) (sym h.start) (record {
        mark = record { size = t.size; body = is_body-point w d r t.wide last-point };
        corners = start-corners d w p q t.few t.wide t.narrow (low-point t) (high-point t);
        known = known;
        width = refl;
        same = refl;
        level = omega (arith, top);
        lawful = lawful-node.2;
        held = zeros ∙ sym (above-top d n.level w (offsets w r) top (is_body-point w d r t.wide last-point));
        over = tt;
        way = tt;
      })))))

  -- the root, and the nodes on the way below it, are the path of the point
  pub after-way : {v : PlainNode} (a b e : ℕ) → v ≡ n → b ≡ a + 1 → e ≤ b + way_below m c k v → e ≤ a + length (path u d table last)
  after-way {v} a b e shows one few =
      let wide : c.width ≡ w = ap (λ (c : Corners). c.width) h.window.made in
      let known_none : replicate d 0 ≡ cleared w (offsets w r) = none-known w d r h.window.wide last-point in
      let below : way_below m c k v ≡ held_below w n.level (replicate d 0) n.chain r =
      (λ i. held_below (wide i) (shows i).level (body_above (shows i).level (h.none i).digits) (shows i).chain (point_at (wide i) (h.marked i).digits))
      ∙ (λ i. held_below w n.level (zeros i) n.chain ((point-whole w d r last-point).back i)) in
      let root : holds w r (placed_child w w n.level (replicate d 0) n.chain) ≡ true =
      holding w w n.level (replicate d 0) n.chain r h.window.wide (sym (ap (from_place w) known_none ∙ from-cleared w (offsets w r))) in
      let all : many w r (placed w d (Some n)) ≡ 1 + held_below w n.level (replicate d 0) n.chain r =
      many-held w r (placed_child w w n.level (replicate d 0) n.chain) (placed_below w n.level (replicate d 0) n.chain) root in
      let same : many w r (placed w d (Some n)) ≡ length (path u d table last) =
      λ i. many (h.window.same i) (h.given i) (placed (h.window.same i) d ((sym h.top_node ∙ h.window.root) i)) in
      omega (arith, one, few, below, all, same)

  module _ {v : PlainNode} {j : Known} {new : List Frame} (shows : v ≡ n) (i : IsResumed d m c v k fs j new) where
    went : IsResumed d (known_at w (offsets w r)) (corners_at w (offsets w p) (offsets w q)) n (known_at w (replicate d 0)) [] j new
    went = subst (λ fs. IsResumed d (known_at w (offsets w r)) (corners_at w (offsets w p) (offsets w q)) n
        (known_at w (replicate d 0)) fs j new) h.start
        (subst (λ m. IsResumed d m (corners_at w (offsets w p) (offsets w q)) n (known_at w (replicate d 0)) fs j
        new) h.marked (subst (λ k. IsResumed d m (corners_at w (offsets w p) (offsets w q)) n k fs j new) h.none
        (subst (λ c. IsResumed d m c n k fs j new) h.window.made (subst (λ n. IsResumed d m c n k fs j new) shows i))))

    pub after-width : j.width ≡ (points_of c).width
    after-width = i.width ∙ ap (λ (k : Known). k.width) h.none ∙ sym (ap (λ (c : Corners). c.width) h.window.made)

    pub after-rows : path_rows (points_of c) j.digits new ≡ rest u (behind lo hi last) table
    after-rows =
        ap (λ c. path_rows (points_of c) j.digits new) h.window.made
        ∙ went.rows
        ∙ append-nil (rest w (behind (point_at w (offsets w p)) (point_at w (offsets w q))
        (point_at w (offsets w r))) (rows_behind w n.level (body_above n.level (replicate d 0)) n.chain))
        ∙ (λ i. rest w (behind ((point-whole w d p (low-point h.window)).back i) ((point-whole w d q (high-point h.window)).back i)
        ((point-whole w d r last-point).back i)) (rows_behind w n.level (zeros i) n.chain))
        ∙ sym (ap (λ o. rest w (behind p q r) (rows w d o)) h.top_node)
        ∙ table-rest h.window last r h.given

    pub after-ahead : path_nodes (points_of c) j.digits new ≤ length (meets_behind u d table lo hi last)
    after-ahead =
        let a = ahead_of (corners_at w (offsets w p) (offsets w q)) (known_at w (offsets w r)) in
        let first : path_nodes (points_of c) j.digits new ≡ path_nodes (points_of (corners_at w (offsets w p) (offsets w q))) j.digits new =
        ap (λ c. path_nodes (points_of c) j.digits new) h.window.made in
        let e : length (touched_below a n.level (body_above n.level (replicate d 0)) n.chain) ≡
        length (touched_below a n.level (replicate d 0) n.chain) =
        ap (λ t. length (touched_below a n.level t n.chain)) zeros in
        let same : length (touched a (placed w d (Some n))) ≡ length (meets_behind u d table lo hi last) =
        (λ i. length (filter (λ x. meets_window w x.region ((point-whole w d p (low-point h.window)).back i) ((point-whole w d q (high-point h.window)).back i)
        && lies_behind w x.region ((point-whole w d r last-point).back i)) (placed w d (Some n))))
        ∙ (λ i. length (filter (λ x. meets_window (h.window.same i) x.region (h.window.low i) (h.window.high i)
        && lies_behind (h.window.same i) x.region (h.given i)) (placed (h.window.same i) d ((sym h.top_node ∙ h.window.root) i)))) in
        omega (arith, first, went.nodes, e, fewer-in-tree d a n, same)

    pub after-nodes : path_nodes (points_of c) j.digits new ≤ length (meets u d table lo hi)
    after-nodes =
        omega (arith, after-ahead, both-fewer (λ x. meets_window u x.region lo hi) (λ x. lies_behind u x.region last) (all_nodes u d table))
