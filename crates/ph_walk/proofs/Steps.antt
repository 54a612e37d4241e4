-- A step of a walk.
use Rattle.std.proofs.Common.{◌≡◌, ℕ, suc, ◌+◌, ◌-◌, ◌<◌, ◌≤◌, List, [], ◌∷◌, ◌++◌, length, drop, refl, sym, ◌∙◌}
use Rattle.std.proofs.Common.{ap, subst, arith, cond, Bool, true, false, inl, inr, append_assoc}
use Rattle.std.specs.Prelude.{Option, Some, None, slice_get}
use Rattle.std.proofs.Math.ListN.{drop_of_length-le}
use Rattle.std.proofs.Math.Seq.{drop-length}
use Rattle.std.proofs.lemmas.Bool.{cases_lt}
use Rattle.ph_specs.specs.TreeRows.{put_together}
use Rattle.ph_model.specs.Lawful.{IsAbove, IsLawfulEntry, IsLawfulFrom, IsLawfulWhat}
use Rattle.ph_specs.specs.Node.{Entries, PlainNode}
use Rattle.ph_model.specs.EntryList.{value, node, Entry, chained, in_front, entries}
use Rattle.ph_model.specs.PutTree.{body_above}
use Rattle.ph_specs.specs.Table.{Row, row}
use Rattle.ph_model.specs.WindowWalk.{node_region}
use Rattle.ph_model.proofs.laws.EntryLists.{chained-listed, entry-lawful}
use Rattle.ph_model.proofs.lemmas.Bounds.{small, lows-small}
use Rattle.ph_digits.proofs.Joins.{above-long}
use Rattle.ph_node.specs.Shown.{shown}
use Rattle.ph_node.specs.declared.reads.NodeRefOf.{NodeRefOf}
use Rattle.ph_path.specs.Known.{Known, known_at, AreKnown, point_at}
use Rattle.ph_path.specs.Path.{IsPath, left_in, entry_steps, path_steps, AreOver}
use Rattle.ph_path.proofs.Knowns.{joined-body, joined-above, joined-child, above-zeros}
use Rattle.ph_path.proofs.Paths.{entry-first, found-behind, counted-behind, over-less, path-kept}
use Rattle.ph_walk.specs.Area.{Area, IsNote, kept_below, touched_below, MayHold, AreOut, IsNext}
use Rattle.ph_walk.specs.Walk.{Frame, path_rows, path_nodes, IsEntered, IsFrame, IsWalk}
use Rattle.ph_walk.specs.declared.area.Masks.{Masks}
use Rattle.ph_walk.proofs.Below.{none-kept, none-touched, value-rows, value-nodes, child-rows, child-nodes, past, fewer-steps}

module _ (d : ℕ) (a : Area) (IsNoted : ℕ → List ℕ → Masks → Type 0) (k : Known) (root : Option PlainNode) where
  -- the digits above a level
  above-digits : (l : ℕ) → AreKnown d k → IsAbove d l (body_above l k.digits)
  above-digits l h = record { long = above-long l k.digits ∙ h.digits.0; zeros = above-zeros l k.digits }

  small-digits : (l : ℕ) → k.width ≡ a.width → AreKnown d k → small a.width (body_above l k.digits)
  small-digits l e h = subst (λ w. small w (body_above l k.digits)) e (lows-small k.width l k.digits h.digits.1)

  -- ---- a node that is entered

  pub record HasEntered (n : PlainNode) (fs path : List Frame) : Type 0 where
    pub walk : IsWalk d a IsNoted k root path
    pub rows : path_rows a k.digits path ≡ kept_below a n.level (body_above n.level k.digits) n.chain ++ path_rows a k.digits fs
    pub nodes : path_nodes a k.digits path ≡ length (touched_below a n.level (body_above n.level k.digits) n.chain) + path_nodes a k.digits fs
    pub steps : path_steps path ≤ suc (entry_steps n.chain + path_steps fs)

  pub entered : (r : NodeRefOf PlainNode) (n : PlainNode) (fs path : List Frame) (m : Option Masks) →
      IsWalk d a IsNoted k root fs → shown r ≡ n → n.level < a.width → IsLawfulFrom d n.level 0 n.chain →
      AreOver n.level fs → IsNote a IsNoted (shown r).level k.digits m → IsEntered m r fs path → HasEntered n fs path
  entered r n fs path m h e l q o i j =
      subst (λ n. HasEntered n fs path) e
      (by_note m (subst (λ n. n.level < a.width) (sym e) l)
      (subst (λ n. IsLawfulFrom d n.level 0 n.chain) (sym e) q) (subst (λ n. AreOver n.level fs) (sym e) o) i j)
    where
      by_note : (m : Option Masks) → (shown r).level < a.width → IsLawfulFrom d (shown r).level 0 (shown r).chain →
          AreOver (shown r).level fs → IsNote a IsNoted (shown r).level k.digits m → IsEntered m r fs path →
          HasEntered (shown r) fs path
      by_note None l q o i j =
          let above : IsAbove d (shown r).level (body_above (shown r).level k.digits) = above-digits (shown r).level h.known in
          let room : small a.width (body_above (shown r).level k.digits) = small-digits (shown r).level h.width h.known in
          let x : kept_below a (shown r).level (body_above (shown r).level k.digits) (shown r).chain ≡ [] =
          none-kept d a h.exact (shown r).level (shown r).level (body_above (shown r).level k.digits)
          (shown r).chain (omega arith) l above room q i in
          let y : length (touched_below a (shown r).level (body_above (shown r).level k.digits) (shown r).chain) ≡ 0 =
          ap length (none-touched d a h.exact (shown r).level (shown r).level
          (body_above (shown r).level k.digits) (shown r).chain (omega arith) l above room q i) in
          let p : path_nodes a k.digits path ≡ path_nodes a k.digits fs = ap (path_nodes a k.digits) j in
          let s : path_steps path ≡ path_steps fs = ap path_steps j in
          record {
            walk = subst (IsWalk d a IsNoted k root) (sym j) h;
            rows = ap (path_rows a k.digits) j ∙ sym (ap (λ t. t ++ path_rows a k.digits fs) x);
            nodes = omega (arith, p, y);
            steps = omega (arith, s);
          }
      by_note (Some m) l q o i j =
          let whole : chained (drop 0 (entries (shown r))) ≡ (shown r).chain = chained-listed (shown r).chain in
          let p : path_nodes a k.digits path ≡
          length (touched_below a (shown r).level (body_above (shown r).level k.digits)
          (chained (drop 0 (entries (shown r))))) + path_nodes a k.digits fs = ap (path_nodes a k.digits) j in
          let y : length (touched_below a (shown r).level (body_above (shown r).level k.digits)
          (chained (drop 0 (entries (shown r))))) ≡
          length (touched_below a (shown r).level (body_above (shown r).level k.digits) (shown r).chain) =
          ap (λ e. length (touched_below a (shown r).level (body_above (shown r).level k.digits) e)) whole in
          let s : path_steps path ≡ suc (entry_steps (chained (drop 0 (entries (shown r)))) + path_steps fs) = ap path_steps j in
          let t : entry_steps (chained (drop 0 (entries (shown r)))) ≡ entry_steps (shown r).chain = ap entry_steps whole in
          record {
            walk = subst (IsWalk d a IsNoted k root) (sym j)
                (record {
                  width = h.width;
                  known = h.known;
                  exact = h.exact;
                  tree = h.tree;
                  start = h.start;
                  way = (record { level = l; lawful = q; noted = i }, o, h.way);
                });
            rows = ap (path_rows a k.digits) j ∙ ap (λ e. kept_below a (shown r).level (body_above (shown r).level k.digits) e ++ path_rows a k.digits fs) whole;
            nodes = omega (arith, p, y);
            steps = omega (arith, s, t);
          }

-- ---- frames, under other digits below a level

module _ (d : ℕ) (a : Area) (IsNoted : ℕ → List ℕ → Masks → Type 0) (b : ℕ) (old new : List ℕ) (same : (c : ℕ) → b ≤ c → body_above c new ≡ body_above c old) where
  pub frame-kept : (f : Frame) → b ≤ (shown f.node).level → IsFrame d a IsNoted old f → IsFrame d a IsNoted new f
  frame-kept f l h =
      record { level = h.level; lawful = h.lawful; noted = subst (λ t. IsNoted (shown f.node).level t f.note) (sym (same (shown f.node).level l)) h.noted }

  pub way-kept : (fs : List Frame) → AreOver b fs → IsPath (IsFrame d a IsNoted old) fs → IsPath (IsFrame d a IsNoted new) fs
  way-kept fs h p = path-kept b (IsFrame d a IsNoted old) (IsFrame d a IsNoted new) frame-kept fs h p

-- ---- the last frame

module _ (d : ℕ) (a : Area) (IsNoted : ℕ → List ℕ → Masks → Type 0) (k : Known) (root : Option PlainNode) (f : Frame)
    (fs : List Frame) (h : IsWalk d a IsNoted k root (f ∷ fs)) where
  abbrev level : ℕ
  level = (shown f.node).level

  abbrev above : List ℕ
  above = body_above (shown f.node).level k.digits

  abbrev es : List Entry
  es = entries (shown f.node)

  is_above : IsAbove d (shown f.node).level (body_above (shown f.node).level k.digits)
  is_above = above-digits d a IsNoted k root level h.known

  room : small a.width (body_above (shown f.node).level k.digits)
  room = small-digits d a IsNoted k root level h.width h.known

  each-lawful : (j : ℕ) (x : Entry) → slice_get (entries (shown f.node)) j ≡ Some x → IsLawfulEntry d (shown f.node).level x
  each-lawful j x g = entry-lawful d level 0 j (shown f.node).chain x h.way.0.lawful g

  pub rest-walk : IsWalk d a IsNoted k root fs
  rest-walk = record { width = h.width; known = h.known; exact = h.exact; tree = h.tree; start = h.start; way = h.way.2 }

  past-to : (i : ℕ) → f.place ≤ i →
      AreOut a (shown f.node).level (body_above (shown f.node).level k.digits) (entries (shown f.node)) f.place i →
      (kept_below a level above (left_in f) ≡ kept_below a level above (chained (drop i es))) ×
      (touched_below a level above (left_in f) ≡ touched_below a level above (chained (drop i es)))
  past-to i l o = past d a h.exact level above h.way.0.level is_above room es f.place i l each-lawful o

  -- in which nothing is left
  pub nothing-left : AreOut a (shown f.node).level (body_above (shown f.node).level k.digits) (entries (shown f.node))
      f.place (length (entries (shown f.node))) → (path_rows a k.digits (f ∷ fs) ≡ path_rows a k.digits fs) ×
      (path_nodes a k.digits (f ∷ fs) ≡ path_nodes a k.digits fs)
  nothing-left o =
      elim (cases_lt f.place (length es)) [
        | inl l ↦ gone (length es) (past-to (length es) (omega (arith, l)) o) (ap chained (drop-length es))
        | inr l ↦ gone f.place (refl, refl) (ap chained (drop_of_length-le es l))
      ]
    where
      gone : (i : ℕ) → (kept_below a level above (left_in f) ≡ kept_below a level above (chained (drop i es))) ×
          (touched_below a level above (left_in f) ≡ touched_below a level above (chained (drop i es))) →
          chained (drop i es) ≡ chained [] → (path_rows a k.digits (f ∷ fs) ≡ path_rows a k.digits fs) ×
          (path_nodes a k.digits (f ∷ fs) ≡ path_nodes a k.digits fs)
      gone i q e =
          let z : length (touched_below a level above (left_in f)) ≡ 0 = ap length (q.1 ∙ ap (touched_below a level above) e) in
          (ap (λ t. t ++ path_rows a k.digits fs) (q.0 ∙ ap (kept_below a level above) e), omega (arith, z))

  -- ---- an entry that may matter

  module _ (i : ℕ) (x : Entry) (at : slice_get (entries (shown f.node)) i ≡ Some x)
      (next : IsNext a (shown f.node).level (body_above (shown f.node).level k.digits) (entries (shown f.node)) f.place i) where
    abbrev joined : List ℕ
    joined = put_together (shown f.node).level x.addr (body_above (shown f.node).level k.digits) x.body

    abbrev pub after : Known
    after = known_at k.width (put_together (shown f.node).level x.addr (body_above (shown f.node).level k.digits) x.body)

    abbrev pub moved : List Frame
    moved = record { node = f.node; place = i + 1; note = f.note } ∷ fs

    abbrev behind : Entries
    behind = chained (drop (i + 1) (entries (shown f.node)))

    pub lawful : IsLawfulEntry d (shown f.node).level x
    lawful = each-lawful i x at

    in-width : (shown f.node).level < k.width
    in-width = let e : k.width ≡ a.width = h.width in omega (arith, e, h.way.0.level)

    pub same-above : (c : ℕ) → (shown f.node).level ≤ c →
        body_above c (put_together (shown f.node).level x.addr (body_above (shown f.node).level k.digits) x.body) ≡
        body_above c k.digits
    same-above c l = joined-above d k.width level x.addr k.digits x.body in-width h.known.digits lawful.body c l

    pub after-walk : IsWalk d a IsNoted after root moved
    after-walk =
        let q = h.known in
        let here : IsFrame d a IsNoted k.digits (record { node = f.node; place = i + 1; note = f.note }) =
        record { level = h.way.0.level; lawful = h.way.0.lawful; noted = h.way.0.noted } in
        record {
          width = h.width;
          known = record {
            some = q.some;
            size = q.size;
            digits = joined-body d k.width level x.addr k.digits x.body in-width q.digits lawful.body;
          };
          exact = h.exact;
          tree = h.tree;
          start = h.start;
          way = (
            frame-kept d a IsNoted level k.digits joined same-above
                (record { node = f.node; place = i + 1; note = f.note }) (omega arith) here,
            h.way.1,
            way-kept d a IsNoted level k.digits joined same-above fs h.way.1 h.way.2,
          );
        }

    rows-behind : kept_below a level above behind ++ path_rows a k.digits fs ≡ path_rows a joined moved
    rows-behind = found-behind (kept_below a) level k.digits joined same-above f fs (i + 1) (omega arith) h.way.1

    nodes-behind : length (touched_below a level above behind) + path_nodes a k.digits fs ≡ path_nodes a joined moved
    nodes-behind = counted-behind (touched_below a) level k.digits joined same-above f fs (i + 1) (omega arith) h.way.1

    first-rows : kept_below a level above (left_in f) ≡ kept_below a level above (in_front x.addr x.body x.what behind)
    first-rows = (past-to i next.behind next.out).0 ∙ ap (kept_below a level above) (entry-first es i x at)

    first-nodes : touched_below a level above (left_in f) ≡ touched_below a level above (in_front x.addr x.body x.what behind)
    first-nodes = (past-to i next.behind next.out).1 ∙ ap (touched_below a level above) (entry-first es i x at)

    first-steps : entry_steps (in_front x.addr x.body x.what behind) ≤ entry_steps (left_in f)
    first-steps =
        let l : entry_steps (chained (drop i es)) ≤ entry_steps (left_in f) = fewer-steps es f.place i next.behind in
        let e : entry_steps (chained (drop i es)) ≡ entry_steps (in_front x.addr x.body x.what behind) = ap entry_steps (entry-first es i x at) in
        omega (arith, l, e)

    -- a point
    module _ (v : ℕ) (is : x.what ≡ value v) where
      pub found-rows : (t : Bool) → a.belongs
          (point_at a.width (put_together (shown f.node).level x.addr (body_above (shown f.node).level k.digits)
          x.body)) ≡ t → path_rows a k.digits (f ∷ fs) ≡
          cond t (row (point_at a.width (put_together (shown f.node).level x.addr
          (body_above (shown f.node).level k.digits) x.body)) v ∷ path_rows a joined moved) (path_rows a joined moved)
      found-rows t e =
          ap (λ r. r ++ path_rows a k.digits fs) (first-rows ∙ value-rows d a h.exact level above h.way.0.level is_above room x lawful behind v is t e)
          ∙ front t (row (point_at a.width joined) v) (kept_below a level above behind) (path_rows a k.digits fs)
          ∙ ap (λ r. cond t (row (point_at a.width joined) v ∷ r) r) rows-behind
        where
          front : (t : Bool) (r : Row) (xs ys : List Row) → cond t (r ∷ xs) xs ++ ys ≡ cond t (r ∷ (xs ++ ys)) (xs ++ ys)
          front true r xs ys = refl
          front false r xs ys = refl

      pub found-nodes : path_nodes a k.digits (f ∷ fs) ≡ path_nodes a joined moved
      found-nodes =
          ap (λ t. length t + path_nodes a k.digits fs)
          (first-nodes ∙ value-nodes d a h.exact level above h.way.0.level is_above room x lawful behind v is) ∙ nodes-behind

      pub found-steps : path_steps moved < path_steps (f ∷ fs)
      found-steps =
          let e : entry_steps (in_front x.addr x.body x.what behind) ≡ suc (entry_steps behind) = ap (λ o. entry_steps (in_front x.addr x.body o behind)) is in
          omega (arith, first-steps, e)

    -- a child
    module _ (n : PlainNode) (is : x.what ≡ node n) where
      pub held : IsLawfulWhat d (shown f.node).level x.body (node n)
      held = subst (IsLawfulWhat d level x.body) is lawful.held

      pub child-over : AreOver n.level moved
      child-over = (held.0, over-less level n.level fs (omega (arith, held.0)) h.way.1)

      all-known : body_above n.level joined ≡ joined
      all-known = joined-child d k.width level x.addr k.digits x.body in-width h.known.digits lawful.body n.level held.0 held.1

      pub below-rows : path_rows a k.digits (f ∷ fs) ≡ kept_below a n.level (body_above n.level joined) n.chain ++ path_rows a joined moved
      below-rows =
          ap (λ r. r ++ path_rows a k.digits fs) (first-rows ∙ child-rows d a h.exact level above h.way.0.level is_above room x lawful behind n is)
          ∙ append_assoc (kept_below a n.level joined n.chain) (kept_below a level above behind) (path_rows a k.digits fs)
          ∙ ap (λ r. kept_below a n.level joined n.chain ++ r) rows-behind
          ∙ ap (λ t. kept_below a n.level t n.chain ++ path_rows a joined moved) (sym all-known)

      pub below-nodes : path_nodes a k.digits (f ∷ fs) ≡ suc (length (touched_below a n.level (body_above n.level joined) n.chain) + path_nodes a joined moved)
      below-nodes =
          let touched : a.touches (node_region a.width (level - 1) joined) ≡ true = subst (MayHold a level joined) is (next.may x at) in
          let q : length (touched_below a level above (left_in f)) ≡
          suc (length (touched_below a n.level joined n.chain) + length (touched_below a level above behind)) =
          ap length first-nodes ∙ child-nodes d a h.exact level above h.way.0.level is_above room x lawful behind
          n is touched in
          let e : length (touched_below a n.level (body_above n.level joined) n.chain) ≡
          length (touched_below a n.level joined n.chain) = ap (λ t. length (touched_below a n.level t n.chain)) all-known in
          let s : length (touched_below a level above behind) + path_nodes a k.digits fs ≡ path_nodes a joined moved = nodes-behind in
          omega (arith, q, e, s)

      pub below-steps : suc (suc (entry_steps n.chain + path_steps moved)) ≤ path_steps (f ∷ fs)
      below-steps =
          let e : entry_steps (in_front x.addr x.body x.what behind) ≡
          suc (suc (entry_steps n.chain + entry_steps behind)) = ap (λ o. entry_steps (in_front x.addr x.body o behind)) is in
          omega (arith, first-steps, e)
