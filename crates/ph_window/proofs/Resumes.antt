-- A walk that goes on behind a point: what is left at a node.
use Rattle.std.proofs.Common.{◌≡◌, ℕ, suc, ◌+◌, ◌-◌, ◌<◌, ◌≤◌, List, [], ◌∷◌, ◌++◌, length, drop, refl, sym}
use Rattle.std.proofs.Common.{◌∙◌, ap, subst, arith, Bool, true, false, append_assoc, length-append, get_or}
use Rattle.std.specs.Prelude.{ℤ, Option, Some, None, filter, slice_get, position, nat_le}
use Rattle.std.specs.List.{AllByRecursion as Each}
use Rattle.std.proofs.Math.Seq.{drop-length}
use Rattle.std.proofs.lemmas.List.Elements.{filter-append}
use Rattle.std.proofs.lemmas.Option.{get_or_from_slice_get}
use Rattle.ph_specs.specs.Coordinate.{IsPoint}
use Rattle.ph_model.specs.EntryEdits.{what_at}
use Rattle.ph_specs.specs.ZOrder.{address, before}
use Rattle.ph_specs.specs.Table.{Row}
use Rattle.ph_specs.specs.Node.{Entries, PlainNode, end}
use Rattle.ph_model.specs.EntryList.{What, value, node, Entry, entries, chained, in_front}
use Rattle.ph_specs.specs.TreeRows.{put_together, rows_behind}
use Rattle.ph_model.specs.Lawful.{IsBody, IsLawfulFrom, IsLawfulEntry, IsLawfulWhat}
use Rattle.ph_model.specs.Masks.{fits_masks}
use Rattle.ph_model.specs.PutTree.{body_above}
use Rattle.ph_specs.specs.Region.{is_in, meets_window}
use Rattle.ph_specs.specs.Window.{window}
use Rattle.ph_model.specs.WindowWalk.{node_region, is_open}
use Rattle.ph_specs.specs.WorkSets.{placed_below}
use Rattle.ph_model.proofs.lemmas.Grouped.{same_place}
use Rattle.ph_model.proofs.lemmas.Joined.{from_place, number_at, offsets, offsets-coordinate, from_place-put_together, above-child}
use Rattle.ph_model.proofs.lemmas.Bounds.{same-in, in-same, small-point}
use Rattle.ph_model.proofs.lemmas.PointDigits.{address-is}
use Rattle.ph_model.proofs.lemmas.RowsBehind.{address-put_together}
use Rattle.ph_model.proofs.laws.EntryLists.{chained-listed, entry-lawful}
use Rattle.ph_model.proofs.laws.Paths.{holds, many, many-append, many-held, placed_child, holding}
use Rattle.ph_model.proofs.laws.WindowSteps.{node-digits}
use Rattle.ph_model.proofs.laws.OneSide.{one-side}
use Rattle.ph_model.proofs.laws.WindowWalk.{At, child-meets}
use Rattle.ph_node.specs.Shown.{shown}
use Rattle.ph_node.specs.Split.{body_at}
use Rattle.ph_node.specs.Spots.{IsSpot}
use Rattle.ph_node.specs.declared.spots.Spot.{Spot}
use Rattle.ph_node.specs.declared.reads.NodeRefOf.{NodeRefOf}
use Rattle.ph_path.specs.Known.{Known, AreKnown, known_at, point_at}
use Rattle.ph_path.specs.Path.{AreOver, IsPath}
use Rattle.ph_path.proofs.Knowns.{above-from, above-same, joined-body, joined-above, joined-child}
use Rattle.ph_path.proofs.Paths.{read-entry, entry-first, found-kept, counted-kept, few-frames, over-less}
use Rattle.ph_walk.specs.Area.{IsArea, IsNote, kept_below, touched, touched_below}
use Rattle.ph_walk.specs.Walk.{Frame, IsFrame, IsEntered, path_rows, path_nodes}
use Rattle.ph_walk.specs.declared.area.Masks.{Masks}
use Rattle.ph_walk.proofs.Below.{none-kept, fewer-nodes}
use Rattle.ph_walk.proofs.Notes.{none_of, some_of, noted-at}
use Rattle.ph_walk.proofs.Steps.{HasEntered, entered, frame-kept, way-kept}
use Rattle.ph_window.specs.Corners.{Corners, points_of, HasMasks}
use Rattle.ph_window.specs.Mark.{Mark}
use Rattle.ph_window.specs.Resumed.{IsReady, IsResumed, ahead_of, held_below, way_below}
use Rattle.ph_window.specs.Window.{lies_behind}
use Rattle.ph_window.proofs.Ahead.{IsAhead, below-ahead, entries-ahead, both-pass, one-more}
use Rattle.ph_window.proofs.Areas.{window-exact, open-fits}
use Rattle.ph_window.proofs.Between.{at}
use Rattle.ph_window.proofs.Seeks.{before-position, none-position, at-position, no_entry}
use Rattle.ph_window.proofs.Rests.{rest_of, lawful-from, skip-rest, later-rest, passed-rest, ahead-rest, child-rest, shut-rest, child-done, child-ahead}

-- the first entry of a node whose address is not smaller than that of the point, and the masks in the node
pub record IsFirst (m : Mark) (c : Corners) (k : Known) (n : PlainNode) (r : NodeRefOf PlainNode) (j : ℕ) (x : Entry) (note : Masks) : Type 0 where
  pub shows : shown r ≡ n
  pub first : position (λ e. nat_le (address c.width (point_at c.width m.digits) n.level) e.addr) (entries n) ≡ Some j
  pub entry : slice_get (entries n) j ≡ Some x
  pub noted : HasMasks c n.level (body_above n.level k.digits) note

module _ {d : ℕ} {m : Mark} {c : Corners} {k : Known} {fs : List Frame} {n : PlainNode} (h : IsReady d m c k fs n) where
  abbrev w : ℕ
  w = c.width

  abbrev lo : List ℤ
  lo = point_at c.width c.low

  abbrev hi : List ℤ
  hi = point_at c.width c.high

  abbrev l : List ℤ
  l = point_at c.width m.digits

  abbrev above : List ℕ
  above = body_above n.level k.digits

  abbrev a : ℕ
  a = address c.width (point_at c.width m.digits) n.level

  -- what is in the window, and what of it comes behind the point
  abbrev rows : Entries → List Row
  rows e = kept_below (points_of c) n.level (body_above n.level k.digits) e

  abbrev nodes : Entries → ℕ
  nodes e = length (touched_below (points_of c) n.level (body_above n.level k.digits) e)

  abbrev left : Entries → List Row
  left e = rest_of c.width (point_at c.width c.low) (point_at c.width c.high) (point_at c.width m.digits) n.level (body_above n.level k.digits) e

  body-m : IsBody d c.width m.digits
  body-m = subst (λ w. IsBody d w m.digits) h.width h.mark.body

  pub mark-point : IsPoint c.width d (point_at c.width m.digits)
  mark-point = small-point c.width d m.digits h.corners.wide body-m.0 body-m.1

  digits : IsBody d c.width k.digits
  digits = subst (λ w. IsBody d w k.digits) h.same h.known.digits

  here : At c.width d n.level (body_above n.level k.digits) (point_at c.width c.low) (point_at c.width c.high)
  here = at h.corners k.digits digits n.level h.level

  exact : IsArea d (points_of c)
  exact = window-exact d c.width (point_at c.width c.low) (point_at c.width c.high) here.low here.high

  inside : is_in w (node_region w n.level above) l ≡ true
  inside =
      same-in w n.level (point_at w above) l
      (ap (from_place (n.level + 1)) (offsets-coordinate w above) ∙ ap (from_place (n.level + 1)) h.held ∙
      above-from n.level m.digits ∙ sym (ap (from_place (n.level + 1)) (offsets-coordinate w m.digits)))

  -- nothing is left where the window does not meet the node, or where all addresses are smaller
  pub unmet : (points_of c).touches (node_region c.width n.level (body_above n.level k.digits)) ≡ false → left n.chain ≡ []
  unmet f =
      ap (filter (λ (r : Row). before w l r.point)) (none-kept d (points_of c) exact n.level n.level above n.chain (omega arith) h.level here.known here.room h.lawful f)

  entries-at : (i : ℕ) (e : Entry) → slice_get (entries n) i ≡ Some e → IsLawfulEntry d n.level e
  entries-at i e g = entry-lawful d n.level 0 i n.chain e h.lawful g

  whole : left n.chain ≡ left (chained (drop 0 (entries n)))
  whole = ap left (sym (chained-listed n.chain))

  pub exhausted : position (λ e. nat_le a e.addr) (entries n) ≡ None → left n.chain ≡ []
  exhausted f =
      whole
      ∙ skip-rest d w n.level above lo hi l here inside (entries n) 0 (length (entries n)) (omega arith)
      (λ i e p q g. (entries-at i e g, none-position a (entries n) f i e g))
      ∙ ap (λ z. left (chained z)) (drop-length (entries n))

  -- of the nodes in the window those that lie behind the point
  abbrev later_nodes : Entries → ℕ
  later_nodes e = length (touched_below (ahead_of c m) n.level (body_above n.level k.digits) e)

  later-entries : (least : ℕ) (e : Entries) → IsLawfulFrom d n.level least e → a < least → Each (IsAhead w d l) (placed_below w n.level above e)
  later-entries least e q lt =
      entries-ahead w d l n.level least above e h.level here.known (node-digits w n.level above l inside) q lt

  pub same-here : left n.chain ≡ [] → IsResumed d m c n k fs k fs
  same-here e =
      record {
        width = refl;
        way = h.way;
        rows = sym (ap (λ z. z ++ path_rows (points_of c) k.digits fs) e);
        nodes = omega arith;
      }

  -- the first entry whose address is not smaller
  module _ {r : NodeRefOf PlainNode} {j : ℕ} {x : Entry} {note : Masks} (q : IsFirst m c k n r j x note) where
    from-first : left n.chain ≡ left (chained (drop j (entries n)))
    from-first =
        whole ∙ skip-rest d w n.level above lo hi l here inside (entries n) 0 j (omega arith)
        (λ i e p z f. (entries-at i e f, before-position a (entries n) j q.first i e z f))

    lawful-j : IsLawfulFrom d n.level x.addr (chained (drop j (entries n))) × IsLawfulFrom d n.level (x.addr + 1) (chained (drop (suc j) (entries n)))
    lawful-j = lawful-from d n.level 0 j n.chain x h.lawful q.entry

    chain-whole : later_nodes (chained (entries n)) ≡ later_nodes n.chain
    chain-whole = ap later_nodes (chained-listed n.chain)

    all-later : (e : Entries) → Each (IsAhead w d l) (placed_below w n.level above e) → later_nodes e ≡ nodes e
    all-later e ahead = both-pass (λ x. meets_window w x.region lo hi) (λ x. lies_behind w x.region l) (placed_below w n.level above e) ahead

    abbrev framed_at : ℕ → List Frame
    framed_at i = record { node = r; place = i; note = note } ∷ fs

    -- a frame at a place from which on all is left, with digits at hand that are the same above the level
    module _ (K : List ℕ) (kept : (i : ℕ) → n.level ≤ i → body_above i K ≡ body_above i k.digits) (i : ℕ) where
      pub framed-way : IsPath (IsFrame d (points_of c) (HasMasks c) K) (framed_at i)
      framed-way =
          let f : IsFrame d (points_of c) (HasMasks c) k.digits (record { node = r; place = i; note = note }) = record {
            level = subst (λ t. t.level < w) (sym q.shows) h.level;
            lawful = subst (λ t. IsLawfulFrom d t.level 0 t.chain) (sym q.shows) h.lawful;
            noted = subst (λ t. HasMasks c t.level (body_above t.level k.digits) note) (sym q.shows) q.noted;
          } in
          let z : n.level ≤ (shown r).level = let e : (shown r).level ≡ n.level = ap (λ t. t.level) q.shows in omega (arith, e) in (
            frame-kept d (points_of c) (HasMasks c) n.level k.digits K kept
                (record { node = r; place = i; note = note }) z f,
            subst (λ t. AreOver t.level fs) (sym q.shows) h.over,
            way-kept d (points_of c) (HasMasks c) n.level k.digits K kept fs h.over h.way,
          )

      pub framed-rows : path_rows (points_of c) K (framed_at i) ≡ rows (chained (drop i (entries n))) ++ path_rows (points_of c) k.digits fs
      framed-rows =
          ap (λ t. kept_below (points_of c) t.level (body_above t.level K) (chained (drop i (entries t))) ++ path_rows (points_of c) K fs) q.shows
          ∙ ap (λ t. kept_below (points_of c) n.level t (chained (drop i (entries n))) ++ path_rows (points_of c) K fs) (kept n.level (omega arith))
          ∙ ap (λ t. rows (chained (drop i (entries n))) ++ t) (found-kept (kept_below (points_of c)) n.level k.digits K kept fs h.over)

      pub framed-nodes : path_nodes (points_of c) K (framed_at i) ≡ nodes (chained (drop i (entries n))) + path_nodes (points_of c) k.digits fs
      framed-nodes =
          ap (λ t. length (touched_below (points_of c) t.level (body_above t.level K) (chained (drop i (entries t)))) + path_nodes (points_of c) K fs) q.shows
          ∙ ap (λ t. length (touched_below (points_of c) n.level t (chained (drop i (entries n)))) + path_nodes (points_of c) K fs) (kept n.level (omega arith))
          ∙ ap (λ t. nodes (chained (drop i (entries n))) + t) (counted-kept (touched_below (points_of c)) n.level k.digits K kept fs h.over)

      pub framed : Each (IsAhead w d l) (placed_below w n.level above (chained (drop i (entries n)))) →
          left n.chain ≡ rows (chained (drop i (entries n))) → IsResumed d m c n k fs (known_at k.width K) (framed_at i)
      framed ahead e =
          let all : later_nodes (chained (drop i (entries n))) ≡ nodes (chained (drop i (entries n))) = all-later (chained (drop i (entries n))) ahead in
          let z : later_nodes (chained (drop i (entries n))) ≤ later_nodes (chained (entries n)) = fewer-nodes (ahead_of c m) n.level above (entries n) i in
          record {
            width = refl;
            way = framed-way;
            rows = framed-rows ∙ ap (λ t. t ++ path_rows (points_of c) k.digits fs) (sym e);
            nodes = omega (arith, framed-nodes, all, z, chain-whole);
          }

    -- an entry behind the point
    pub jumped : a < x.addr → IsResumed d m c n k fs k (framed_at j)
    jumped lt =
        framed k.digits (λ i p. refl) j (later-entries x.addr (chained (drop j (entries n))) lawful-j.0 lt) (from-first ∙ later-rest d w n.level above lo hi l here inside x.addr (chained (drop j (entries n))) lawful-j.0 lt)

    -- an entry at the point's address is joined
    module _ (same : x.addr ≡ a) where
      own : IsLawfulEntry d n.level x
      own = entries-at j x q.entry

      abbrev K : List ℕ
      K = put_together n.level x.addr (body_above n.level k.digits) x.body

      abbrev joined : Known
      joined = known_at k.width (put_together n.level x.addr (body_above n.level k.digits) x.body)

      kept : (i : ℕ) → n.level ≤ i → body_above i K ≡ body_above i k.digits
      kept i p = joined-above d w n.level x.addr k.digits x.body h.level digits own.body i p

      joined-digits : IsBody d c.width K
      joined-digits = joined-body d w n.level x.addr k.digits x.body h.level digits own.body

      joined-known : AreKnown d joined
      joined-known =
          let b = h.known in
          record { some = b.some; size = b.size; digits = subst (λ w. IsBody d w K) (sym h.same) joined-digits }

      abbrev others : Entries
      others = chained (drop (j + 1) (entries n))

      next : suc j ≡ j + 1
      next = omega arith

      lawful-others : IsLawfulFrom d n.level (x.addr + 1) others
      lawful-others = subst (λ i. IsLawfulFrom d n.level (x.addr + 1) (chained (drop i (entries n)))) next lawful-j.1

      others-later : Each (IsAhead w d l) (placed_below w n.level above others)
      others-later = later-entries (x.addr + 1) others lawful-others (omega (arith, same))

      split : left n.chain ≡ left (in_front x.addr x.body x.what others)
      split = from-first ∙ ap left (entry-first (entries n) j x q.entry)

      -- a point
      module _ {v : ℕ} (is : x.what ≡ value v) where
        pub point-ahead : before w l (point_at w K) ≡ true → IsResumed d m c n k fs joined (framed_at j)
        point-ahead f =
            framed K kept j
            (subst (λ e. Each (IsAhead w d l) (placed_below w n.level above e))
            (sym (entry-first (entries n) j x q.entry ∙ ap (λ o. in_front x.addr x.body o others) is)) others-later)
            (split ∙ ahead-rest d w n.level above lo hi l here inside x others own.address own.body
            lawful-others same v is f ∙ sym (ap rows (entry-first (entries n) j x q.entry)))

        pub point-passed : before w l (point_at w K) ≡ false → IsResumed d m c n k fs joined (framed_at (j + 1))
        point-passed f =
            framed K kept (j + 1) others-later (split ∙ passed-rest d w n.level above lo hi l here inside x others own.address own.body lawful-others same v is f)

      -- a child
      module _ {y : PlainNode} (is : x.what ≡ node y) where
        pub held : IsLawfulWhat d n.level x.body (node y)
        held = subst (IsLawfulWhat d n.level x.body) is own.held

        abbrev low-rest : List Row
        low-rest = rest_of w lo hi l y.level K y.chain

        child-left : left n.chain ≡ low-rest ++ rows others
        child-left = split ∙ child-rest d w n.level above lo hi l here inside x others own.address own.body lawful-others same y is held

        all-known : body_above y.level K ≡ K
        all-known = joined-child d w n.level x.addr k.digits x.body h.level digits own.body y.level held.0 held.1

        -- the child is on the way to the point, and so is what is on the way below it
        child-held : holds w l (placed_child w n.level y.level K y.chain) ≡ true
        child-held =
            let over : from_place (n.level + 1) (offsets w l) ≡ from_place (n.level + 1) K =
            sym (node-digits w n.level above l inside)
            ∙ sym (from_place-put_together n.level x.addr above x.body (here.known.long ∙ sym own.body.0) here.known.zeros own.body.1) in
            let at_level : number_at 0 n.level (offsets w l) ≡ number_at 0 n.level K =
            sym (address-is w n.level l) ∙ sym same ∙ sym (address-put_together d n.level x.addr above x.body here.known own.body own.address) in
            holding w n.level y.level K y.chain l (omega (arith, held.0)) (same_place 0 n.level (offsets w l) K over at_level)

        child-way : 1 + held_below w y.level K y.chain l ≤ held_below w n.level above n.chain l
        child-way =
            let fewer : held_below w n.level above (chained (drop j (entries n))) l ≤ held_below w n.level above (chained (entries n)) l =
            fewer-nodes (record { width = w; belongs = λ p. true; touches = λ r. is_in w r l }) n.level above (entries n) j in
            let all : held_below w n.level above (chained (entries n)) l ≡ held_below w n.level above n.chain l =
            ap (λ e. held_below w n.level above e l) (chained-listed n.chain) in
            let first : held_below w n.level above (chained (drop j (entries n))) l ≡ held_below w n.level above (in_front x.addr x.body (node y) others) l =
            ap (λ e. held_below w n.level above e l) (entry-first (entries n) j x q.entry)
            ∙ ap (λ o. held_below w n.level above (in_front x.addr x.body o others) l) is in
            let one : held_below w n.level above (in_front x.addr x.body (node y) others) l ≡
            1 + many w l (placed_below w y.level K y.chain ++ placed_below w n.level above others) =
            many-held w l (placed_child w n.level y.level K y.chain)
            (placed_below w y.level K y.chain ++ placed_below w n.level above others) child-held in
            let both : many w l (placed_below w y.level K y.chain ++ placed_below w n.level above others) ≡
            held_below w y.level K y.chain l + held_below w n.level above others l =
            many-append w l (placed_below w y.level K y.chain) (placed_below w n.level above others) in
            omega (arith, fewer, all, first, one, both)

        pub way-one : (v u : ℕ) → u ≡ v + 1 → u ≤ v + way_below m c k n
        way-one v u f = omega (arith, f, child-way)

        pub way-more : {e : Known} {p : PlainNode} (v u z : ℕ) → e ≡ joined → p ≡ y → u ≡ v + 1 → z ≤ u + way_below m c e p → z ≤ v + way_below m c k n
        way-more {e} {p} v u z to s f few =
            let deep : way_below m c e p ≡ held_below w y.level K y.chain l =
            (λ i. way_below m c (to i) (s i)) ∙ ap (λ t. held_below w y.level t y.chain l) all-known in
            omega (arith, f, few, deep, child-way)

        abbrev top : List Frame
        top = framed_at (j + 1)

        top-way : IsPath (IsFrame d (points_of c) (HasMasks c) K) top
        top-way = framed-way K kept (j + 1)

        top-over : AreOver y.level top
        top-over = (subst (λ t. y.level < t.level) (sym q.shows) held.0, over-less n.level y.level fs (omega (arith, held.0)) h.over)

        -- where nothing of the child is left
        pub child-none : low-rest ≡ [] → IsResumed d m c n k fs joined top
        child-none e = framed K kept (j + 1) others-later (child-left ∙ ap (λ t. t ++ rows others) e)

        pub shut-child : is_open w lo hi n.level above x.addr ≡ false → low-rest ≡ []
        shut-child f = shut-rest d w n.level above lo hi l here inside x others own.address own.body lawful-others same y is held f

        -- whether the child's address fits, which the code tests of the point's
        pub child-opens : {t : ℕ} {u : Bool} → x.addr ≡ t → u ≡ fits_masks t note.lower note.upper → is_open w lo hi n.level above x.addr ≡ u
        child-opens e f = open-fits here q.noted x.addr ∙ ap (λ a. fits_masks a note.lower note.upper) e ∙ sym f

        child-met : is_open w lo hi n.level above x.addr ≡ true → (points_of c).touches (node_region w (n.level - 1) K) ≡ true
        child-met o =
            child-meets w d n.level y.level x.addr above x.body lo hi y.chain end 0 here (omega arith, own.address, own.body, held.0, held.1, held.2, held.3, tt) ∙ o

        -- where the child has rows that are left, in frames that are on the path now
        child-more : (e : Known) (new : List Frame) → is_open w lo hi n.level above x.addr ≡ true →
            e.width ≡ k.width → IsPath (IsFrame d (points_of c) (HasMasks c) e.digits) new
            → path_rows (points_of c) e.digits new ≡ low-rest ++ path_rows (points_of c) K top
            → path_nodes (points_of c) e.digits new ≤ length (touched_below (ahead_of c m) y.level K y.chain) + path_nodes (points_of c) K top
            → IsResumed d m c n k fs e new
        child-more e new o p z rs ns =
            let s : later_nodes (chained (drop j (entries n))) ≤ later_nodes (chained (entries n)) = fewer-nodes (ahead_of c m) n.level above (entries n) j in
            let first : later_nodes (chained (drop j (entries n))) ≡ later_nodes (in_front x.addr x.body (node y) others) =
            ap later_nodes (entry-first (entries n) j x q.entry) ∙ ap (λ o. later_nodes (in_front x.addr x.body o others)) is in
            let more : length (touched (ahead_of c m) (placed_below w y.level K y.chain ++ placed_below w n.level above others)) ≤
            later_nodes (in_front x.addr x.body (node y) others) = one-more (λ x. (ahead_of c m).touches x.region)
            (placed_child w n.level y.level K y.chain) (placed_below w y.level K y.chain ++ placed_below w n.level above others) in
            let both : length (touched (ahead_of c m) (placed_below w y.level K y.chain ++ placed_below w n.level above others)) ≡
            length (touched_below (ahead_of c m) y.level K y.chain) + later_nodes others =
            ap (λ xs. length xs) (filter-append (λ x. (ahead_of c m).touches x.region) (placed_below w y.level K y.chain) (placed_below w n.level above others))
            ∙ length-append (touched_below (ahead_of c m) y.level K y.chain) (touched_below (ahead_of c m) n.level above others) in
            record {
              width = p;
              way = z;
              rows = rs ∙ ap (λ t. low-rest ++ t) (framed-rows K kept (j + 1)) ∙
                  sym (append_assoc low-rest (rows others) (path_rows (points_of c) k.digits fs)) ∙
                  ap (λ t. t ++ path_rows (points_of c) k.digits fs) (sym child-left);
              nodes = omega (arith, ns, framed-nodes K kept (j + 1), s, first, more, both, all-later others others-later, chain-whole);
            }

        -- the child's region holds the point
        pub child-ready : {e : Known} {new : List Frame} {p : PlainNode} {b : ℕ} → e ≡ joined → new ≡ top → p ≡ y →
            b ≡ p.level → body_above b e.digits ≡ body_above b m.digits → IsReady d m c e new p
        child-ready {e} {new} {p} {b} to into s f held' =
            subst (λ e. IsReady d m c e new p) (sym to) (subst (λ new. IsReady d m c joined new p) (sym into) (subst (IsReady d m c joined top) (sym s) (record {
              mark = h.mark;
              corners = h.corners;
              known = joined-known;
              width = h.width;
              same = h.same;
              level = omega (arith, held.0, h.level);
              lawful = held.3;
              held = subst (λ t. body_above t K ≡ body_above t m.digits) (f ∙ ap (λ t. t.level) s) (subst (λ e. body_above b e.digits ≡ body_above b m.digits) to held');
              over = top-over;
              way = top-way;
            })))

        pub child-resumed : {e : Known} {new : List Frame} {p : PlainNode} {z : Known} {deep : List Frame} →
            is_open w lo hi n.level above x.addr ≡ true → e ≡ joined → new ≡ top → p ≡ y →
            IsResumed d m c p e new z deep → IsResumed d m c n k fs z deep
        child-resumed {e} {new} {p} {z} {deep} o to into s i =
            let f : IsResumed d m c y joined top z deep = subst (λ p. IsResumed d m c p joined top z deep) s
            (subst (λ new. IsResumed d m c p joined new z deep) into (subst (λ e. IsResumed d m c p e new z deep) to i)) in
            child-more z deep o f.width f.way
            (f.rows ∙ ap (λ t. rest_of w lo hi l y.level t y.chain ++ path_rows (points_of c) K top) all-known)
            (let u : length (touched_below (ahead_of c m) y.level (body_above y.level K) y.chain) ≡
            length (touched_below (ahead_of c m) y.level K y.chain) =
            ap (λ t. length (touched_below (ahead_of c m) y.level t y.chain)) all-known in omega (arith, f.nodes, u))

        -- the region of the child does not hold the point
        module _ (apart : body_above y.level K ≡ body_above y.level m.digits → ⊥) where
          out : is_in w (node_region w y.level K) l ≡ false
          out = by_test (is_in w (node_region w y.level K) l) refl
            where
              by_test : (t : Bool) → is_in w (node_region w y.level K) l ≡ t → t ≡ false
              by_test false e = refl
              by_test true e =
                  let s : from_place (y.level + 1) (offsets w (point_at w K)) ≡ from_place (y.level + 1) (offsets w l) = in-same w y.level (point_at w K) l e in
                  let u : from_place (y.level + 1) K ≡ from_place (y.level + 1) m.digits =
                  sym (ap (from_place (y.level + 1)) (offsets-coordinate w K)) ∙ s ∙ ap (from_place (y.level + 1))
                  (offsets-coordinate w m.digits) in
                  absurd (apart (above-same y.level y.level K m.digits (omega arith) u))

          own-point : IsPoint w d (point_at w K)
          own-point = small-point w d K h.corners.wide joined-digits.0 joined-digits.1

          own-in : is_in w (node_region w y.level K) (point_at w K) ≡ true
          own-in = same-in w y.level (point_at w K) (point_at w K) refl

          pub child-past : before w l (point_at w K) ≡ false → low-rest ≡ []
          child-past f = child-done d w n.level above lo hi l here inside x others own.address own.body lawful-others same y is held mark-point out own-point own-in f

          child-later : before w l (point_at w K) ≡ true → low-rest ≡ kept_below (points_of c) y.level (body_above y.level K) y.chain
          child-later f =
              child-ahead d w n.level above lo hi l here inside x others own.address own.body lawful-others same y is held mark-point out own-point own-in f
              ∙ ap (λ t. window lo hi (rows_behind w y.level t y.chain)) (sym all-known)

          below-later : before w l (point_at w K) ≡ true → Each (IsAhead w d l) (placed_below w y.level K y.chain)
          below-later f =
              below-ahead w d l (y.level + 1) y.level 0 K y.chain (omega arith)
              (above-child d n.level y.level x.addr above x.body held.0 here.known own.body held.1) held.3
              (λ p e. sym (one-side w d (node_region w y.level K) l (point_at w K) p (omega (arith, held.0, h.level)) mark-point own-point own-in
              (same-in w y.level (point_at w K) p (ap (from_place (y.level + 1)) (offsets-coordinate w K) ∙ sym e)) out) ∙ f)

          -- all of it comes later, and it is entered
          pub child-entered : {e : Known} {new : List Frame} {b : ℕ} (deep : List Frame) (p : NodeRefOf PlainNode)
              (o : Option Masks) → is_open w lo hi n.level above x.addr ≡ true → e ≡ joined → new ≡ top →
              shown p ≡ y → before w l (point_at w K) ≡ true → b ≡ (shown p).level →
              IsNote (points_of c) (HasMasks c) b e.digits o → IsEntered o p new deep → IsResumed d m c n k fs e deep
          child-entered {e} {new} {b} deep p o opens to into s f v g i =
              let z' : IsNote (points_of c) (HasMasks c) (shown p).level K o = noted-at (points_of c) (HasMasks c) K o
              v (subst (λ e. IsNote (points_of c) (HasMasks c) b e.digits o) to g) in
              let z : HasEntered d (points_of c) (HasMasks c) joined None y top deep =
              entered d (points_of c) (HasMasks c) joined None p y top deep o
              (record {
                width = h.same;
                known = joined-known;
                exact = exact;
                tree = tt;
                start = tt;
                way = top-way;
              }) s (omega (arith, held.0, h.level)) held.3 top-over z'
              (subst (λ new. IsEntered o p new deep) into i) in
              let u : length (touched_below (points_of c) y.level (body_above y.level K) y.chain) ≡
              length (touched_below (points_of c) y.level K y.chain) =
              ap (λ t. length (touched_below (points_of c) y.level t y.chain)) all-known in
              let all : length (touched_below (ahead_of c m) y.level K y.chain) ≡ length (touched_below (points_of c) y.level K y.chain) =
              both-pass (λ x. meets_window w x.region lo hi) (λ x. lies_behind w x.region l) (placed_below w y.level K y.chain) (below-later f) in
              subst (λ e. IsResumed d m c n k fs e deep) (sym to)
              (child-more joined deep opens refl z.walk.way (z.rows ∙ ap (λ t. t ++ path_rows (points_of c) K top) (sym (child-later f))) (omega (arith, z.nodes, u, all)))

-- ---- as the code has it

module _ {d : ℕ} {m : Mark} {c : Corners} {k : Known} {fs : List Frame} {n : PlainNode} (h : IsReady d m c k fs n) where
  -- the address at the node's level
  pub address-at : {b t : ℕ} → b ≡ n.level → t ≡ address m.width (point_at m.width m.digits) b → t ≡ address c.width (point_at c.width m.digits) n.level
  address-at {b = b} e g = g ∙ ap (λ w. address w (point_at w m.digits) b) h.width ∙ ap (address c.width (point_at c.width m.digits)) e

  pub first-at : {b t : ℕ} {o : Option ℕ} → b ≡ n.level → t ≡ address m.width (point_at m.width m.digits) b →
      o ≡ position (λ e. nat_le t e.addr) (entries n) →
      position (λ e. nat_le (address c.width (point_at c.width m.digits) n.level) e.addr) (entries n) ≡ o
  first-at e g f = sym (ap (λ t. position (λ e. nat_le t e.addr) (entries n)) (address-at e g)) ∙ sym f

  -- no masks, where the window does not meet the node
  pub unmet-at : {b : ℕ} (o : Option Masks) → b ≡ n.level → IsNote (points_of c) (HasMasks c) b k.digits o →
      o ≡ None → (points_of c).touches (node_region c.width n.level (body_above n.level k.digits)) ≡ false
  unmet-at o e f i =
      none_of ((points_of c).touches (node_region c.width n.level (body_above n.level k.digits)) ≡ false)
      (HasMasks c n.level (body_above n.level k.digits)) i (noted-at (points_of c) (HasMasks c) k.digits o e f)

first-above : (es : List Entry) (a j : ℕ) (x : Entry) → position (λ e. nat_le a e.addr) es ≡ Some j → slice_get es j ≡ Some x → (x.addr ≡ a → ⊥) → a < x.addr
first-above es a j x p g n =
    let l : a ≤ (get_or es j no_entry).addr = (at-position a es j p).1 in
    let e : (get_or es j no_entry).addr ≡ x.addr = ap (λ t. t.addr) (get_or_from_slice_get es j x no_entry g) in
    strictly a x.addr (omega (arith, l, e)) (λ q. n (sym q))
  where
    strictly : (a x : ℕ) → a ≤ x → (a ≡ x → ⊥) → a < x
    strictly a x l n = grind (arith, l, n)

-- the entry at a spot of a node, with what it holds
abbrev pub entry_of : NodeRefOf PlainNode → Spot → What → Entry
entry_of r spot held = record { addr = spot.addr; body = body_at (entries (shown r)) spot.place; what = held }

pub found-first : {d : ℕ} {m : Mark} {c : Corners} {k : Known} {fs : List Frame} {r : NodeRefOf PlainNode} {b t j : ℕ}
    {o : Option Masks} {p : Option ℕ} {spot : Spot} {held : What} {note : Masks}
    → IsReady d m c k fs (shown r) → b ≡ (shown r).level → IsNote (points_of c) (HasMasks c) b k.digits o → o ≡ Some note
    → t ≡ address m.width (point_at m.width m.digits) b → p ≡ position (λ e. nat_le t e.addr) (entries (shown r)) →
    p ≡ Some j → spot.place ≡ j → IsSpot (entries (shown r)) spot → held ≡ what_at (entries (shown r)) spot.place
    → IsFirst m c k (shown r) r j (entry_of r spot held) note
found-first {c = c} {k = k} {r = r} {o = o} {spot = spot} h e f i g p q at s w =
    record {
      shows = refl;
      first = first-at h e g p ∙ q;
      entry = read-entry (entries (shown r)) spot at s w;
      noted = some_of _ _ i (noted-at (points_of c) (HasMasks c) k.digits o e f);
    }

-- it stands at the point's address
pub record IsHere (m : Mark) (c : Corners) (k : Known) (r : NodeRefOf PlainNode) (j : ℕ) (x : Entry) (note : Masks) : Type 0 where
  pub first : IsFirst m c k (shown r) r j x note
  pub same : x.addr ≡ address c.width (point_at c.width m.digits) (shown r).level

module _ {d : ℕ} {m : Mark} {c : Corners} {k : Known} {fs : List Frame} {n : PlainNode} (h : IsReady d m c k fs n)
    {r : NodeRefOf PlainNode} {j : ℕ} {x : Entry} {note : Masks} (q : IsFirst m c k n r j x note) where
  -- an entry that is not at the point's address is behind it
  pub entry-behind : {b t : ℕ} → b ≡ n.level → t ≡ address m.width (point_at m.width m.digits) b → (x.addr ≡ t → ⊥) →
      address c.width (point_at c.width m.digits) n.level < x.addr
  entry-behind e g f =
      first-above (entries n) (address c.width (point_at c.width m.digits) n.level) j x q.first q.entry (λ s. f (s ∙ sym (address-at h e g)))

  -- whether the joined digits come behind the point
  pub behind-is : {e : Known} {t : Bool} →
      e ≡ known_at k.width (put_together n.level x.addr (body_above n.level k.digits) x.body) →
      t ≡ before m.width (point_at m.width m.digits) (point_at m.width e.digits) →
      before c.width (point_at c.width m.digits)
      (point_at c.width (put_together n.level x.addr (body_above n.level k.digits) x.body)) ≡ t
  behind-is to f =
      sym (ap (λ w. before w (point_at w m.digits)
      (point_at w (put_together n.level x.addr (body_above n.level k.digits) x.body))) h.width) ∙
      sym (ap (λ (e : Known). before m.width (point_at m.width m.digits) (point_at m.width e.digits)) to) ∙ sym f

  -- a region that does not hold the point
  pub apart-is : {e : Known} {b l : ℕ} →
      e ≡ known_at k.width (put_together n.level x.addr (body_above n.level k.digits) x.body) → l ≡ b →
      (body_above l e.digits ≡ body_above l m.digits → ⊥) →
      body_above b (put_together n.level x.addr (body_above n.level k.digits) x.body) ≡ body_above b m.digits → ⊥
  apart-is {e = e} {b = b} to s f p =
      f (subst (λ t. body_above t e.digits ≡ body_above t m.digits) (sym s) (ap (λ (e : Known). body_above b e.digits) to ∙ p))

pub resumed-at : {d : ℕ} {m : Mark} {c : Corners} {n : PlainNode} {k : Known} {fs : List Frame} {e z : Known}
    {p q : List Frame} → z ≡ e → q ≡ p → IsResumed d m c n k fs e p → IsResumed d m c n k fs z q
resumed-at {d = d} {m = m} {c = c} {n = n} {k = k} {fs = fs} {e = e} {q = q} to into i =
    subst (λ z. IsResumed d m c n k fs z q) (sym to) (subst (IsResumed d m c n k fs e) (sym into) i)

pub room-at : {d : ℕ} {m : Mark} {c : Corners} {k : Known} {fs : List Frame} {n : PlainNode} → IsReady d m c k fs n → (length fs < 62) × (length fs + n.level < 62)
room-at {d = d} {c = c} {k = k} {fs = fs} {n = n} h =
    let l : length fs + n.level + 1 ≤ c.width = few-frames c.width n.level (IsFrame d (points_of c) (HasMasks c) k.digits) (λ f q. q.level) fs h.level h.over h.way in
    (omega (arith, l, h.corners.narrow), omega (arith, l, h.corners.narrow))
