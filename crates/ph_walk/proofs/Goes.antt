-- How a walk goes on.
use Rattle.std.proofs.Common.{◌≡◌, ℕ, suc, ◌+◌, ◌-◌, ◌<◌, ◌≤◌, List, [], ◌∷◌, ◌++◌, length, replicate, refl}
use Rattle.std.proofs.Common.{sym, ◌∙◌, ap, subst, arith, cond, Bool, true, false, append-nil}
use Rattle.std.specs.Prelude.{ℤ, Option, Some, None, IfSome, slice_get}
use Rattle.ph_specs.specs.TreeRows.{put_together}
use Rattle.ph_model.specs.Lawful.{HasZerosFrom, IsBody, IsLawful}
use Rattle.ph_specs.specs.Node.{PlainNode}
use Rattle.ph_model.specs.EntryList.{value, node, Entry, entries}
use Rattle.ph_model.specs.PutTree.{body_above}
use Rattle.ph_model.specs.WindowWalk.{node_region}
use Rattle.ph_specs.specs.WorkSets.{Placed}
use Rattle.ph_specs.specs.Table.{row}
use Rattle.ph_node.specs.Shown.{shown}
use Rattle.ph_node.specs.declared.reads.NodeRefOf.{NodeRefOf}
use Rattle.ph_path.specs.Known.{Known, known_at, point_at}
use Rattle.ph_path.specs.Path.{AreOver, entry_steps, path_steps, root_steps}
use Rattle.ph_path.proofs.Knowns.{above-top}
use Rattle.ph_path.proofs.Paths.{few-frames}
use Rattle.ph_walk.specs.Area.{Area, IsNote, kept_below, touched_below, AreOut, IsNext, TouchesRoot}
use Rattle.ph_walk.specs.Walk.{Frame, Walk, walk_of, path_rows, path_nodes, root_rows, root_nodes}
use Rattle.ph_walk.specs.Walk.{IsEntered, IsBehind, IsFrame, IsWalk, IsTurn}
use Rattle.ph_walk.specs.declared.area.Masks.{Masks}
use Rattle.ph_walk.specs.declared.walk.Turn.TheVariants.{Found}
use Rattle.ph_walk.proofs.Notes.{noted-at}
use Rattle.ph_walk.proofs.Steps.{HasEntered, entered, rest-walk as behind-walk, nothing-left, lawful, same-above, after-walk, found-rows}
use Rattle.ph_walk.proofs.Steps.{found-nodes, found-steps, held, child-over, below-rows, below-nodes, below-steps}

module _ {A : Type 0} {area : A} {d : ℕ} {a : Area} {IsNoted : ℕ → List ℕ → Masks → Type 0} {k : Known}
    {root : Option PlainNode} {path : List Frame} {old : Walk A} (h : IsWalk d a IsNoted k root path)
    (v : walk_of d area a k root path ≡ old) where
  -- the walk went on, and nothing was found
  abbrev GoesOn : Known → Option PlainNode → List Frame → Type 0
  GoesOn k root path = (old.rest ≡ (walk_of d area a k root path).rest) × ((walk_of d area a k root path).steps < old.steps)

  was-rest : old.rest ≡ path_rows a k.digits path ++ root_rows d a root
  was-rest = sym (ap (λ t. t.rest) v)

  was-visits : old.visits ≡ path_nodes a k.digits path + root_nodes d a root
  was-visits = sym (ap (λ t. t.visits) v)

  was-steps : old.steps ≡ path_steps path + root_steps root
  was-steps = sym (ap (λ t. t.steps) v)

  -- ---- the end

  pub ended : root ≡ None → path ≡ [] → (old.rest ≡ []) × (old ≡ old) × (old.visits ≡ 0)
  ended e p =
      let q : path_nodes a k.digits path ≡ 0 = ap (path_nodes a k.digits) p in
      let z : root_nodes d a root ≡ 0 = ap (root_nodes d a) e in (
        was-rest ∙ (λ i. path_rows a k.digits (p i) ++ root_rows d a (e i)),
        refl,
        omega (arith, was-visits, q, z),
      )

  -- ---- the root

  module _ {n : PlainNode} (e : root ≡ Some n) (r : NodeRefOf PlainNode) (shows : shown r ≡ n) (p : path ≡ []) where
    tree : IsLawful a.width d (Some n)
    tree = subst (IsLawful a.width d) e h.tree

    wide : 1 ≤ a.width
    wide = let q : k.width ≡ a.width = h.width in omega (arith, q, h.known.wide)

    none-known : body_above n.level k.digits ≡ replicate d 0
    none-known = let q : k.width ≡ a.width = h.width in above-top d n.level k.width k.digits (omega (arith, q, tree.0, wide)) h.known.digits

    pub root-room : length path < 62
    root-room = let q : length path ≡ 0 = ap (λ t. length t) p in omega (arith, q)

    module _ (m : Option Masks) (new : List Frame) {b : ℕ} (level : b ≡ (shown r).level) (note : IsNote a IsNoted b k.digits m)
        (into : IsEntered m r path new) where
      got : HasEntered d a IsNoted k None n [] new
      got =
          entered d a IsNoted k None r n [] new m
          (record { width = h.width; known = h.known; exact = h.exact; tree = tt; start = tt; way = tt })
          shows (omega (arith, tree.0, wide)) tree.2 tt (noted-at a IsNoted k.digits m level note) (subst (λ fs. IsEntered m r fs new) p into)

      pub root-walk : IsWalk d a IsNoted k None new
      root-walk = got.walk

      pub root-step : GoesOn k None new
      root-step =
          let q : path_steps path ≡ 0 = ap path_steps p in
          let z : root_steps root ≡ suc (suc (entry_steps n.chain)) = ap root_steps e in (
            was-rest ∙ (λ i. path_rows a k.digits (p i) ++ root_rows d a (e i)) ∙ ap (λ t. kept_below a n.level t n.chain) (sym none-known)
                ∙ sym (append-nil (kept_below a n.level (body_above n.level k.digits) n.chain))
                ∙ sym got.rows
                ∙ sym (append-nil (path_rows a k.digits new)),
            omega (arith, was-steps, q, z, got.steps),
          )

      pub root-visits : old.visits ≡ suc ((walk_of d area a k None new).visits)
      root-visits =
          let start : TouchesRoot d a = subst (λ o. IfSome o (λ n. TouchesRoot d a)) e h.start in
          let none : List ℕ = replicate d 0 in
          let x : Placed = record { node = n; region = node_region a.width (a.width - 1) none } in
          let q : path_nodes a k.digits path ≡ 0 = ap (path_nodes a k.digits) p in
          let z : root_nodes d a root ≡ suc (length (touched_below a n.level (replicate d 0) n.chain)) =
          ap (root_nodes d a) e ∙ ap (λ t. length
          (cond t (x ∷ touched_below a n.level none n.chain) (touched_below a n.level none n.chain))) start in
          let y : length (touched_below a n.level (body_above n.level k.digits) n.chain) ≡
          length (touched_below a n.level (replicate d 0) n.chain) =
          ap (λ t. length (touched_below a n.level t n.chain)) none-known in
          omega (arith, was-visits, q, z, y, got.nodes)

  -- ---- the last frame

  module _ {f : Frame} {fs : List Frame} (p : path ≡ f ∷ fs) where
    pub top-walk : IsWalk d a IsNoted k root (f ∷ fs)
    top-walk = subst (IsWalk d a IsNoted k root) p h

    pub top-level : (shown f.node).level < k.width
    top-level = let q : k.width ≡ a.width = h.width in omega (arith, q, top-walk.way.0.level)

    few : length fs + (shown f.node).level + 1 ≤ a.width
    few = few-frames a.width (shown f.node).level (IsFrame d a IsNoted k.digits) (λ f q. q.level) fs top-walk.way.0.level top-walk.way.1 top-walk.way.2

    top-rest : old.rest ≡ path_rows a k.digits (f ∷ fs) ++ root_rows d a root
    top-rest = was-rest ∙ ap (λ t. path_rows a k.digits t ++ root_rows d a root) p

    top-visits : old.visits ≡ path_nodes a k.digits (f ∷ fs) + root_nodes d a root
    top-visits = was-visits ∙ ap (λ t. path_nodes a k.digits t + root_nodes d a root) p

    top-steps : old.steps ≡ path_steps (f ∷ fs) + root_steps root
    top-steps = was-steps ∙ ap (λ t. path_steps t + root_steps root) p

    -- nothing is left in it
    module _ (out : AreOut a (shown f.node).level (body_above (shown f.node).level k.digits) (entries (shown f.node))
        f.place (length (entries (shown f.node)))) {new : List Frame} (into : new ≡ fs) where
      none : (path_rows a k.digits (f ∷ fs) ≡ path_rows a k.digits fs) × (path_nodes a k.digits (f ∷ fs) ≡ path_nodes a k.digits fs)
      none = nothing-left d a IsNoted k root f fs top-walk out

      pub left-step : GoesOn k root new
      left-step =
          let s : path_steps new ≡ path_steps fs = ap path_steps into in
          (top-rest ∙ ap (λ t. t ++ root_rows d a root) (none.0 ∙ sym (ap (path_rows a k.digits) into)), omega (arith, top-steps, s))

      pub left-visits : (walk_of d area a k root new).visits ≡ old.visits
      left-visits =
          let s : path_nodes a k.digits new ≡ path_nodes a k.digits fs = ap (path_nodes a k.digits) into in
          omega (arith, top-visits, none.1, s)

    -- an entry that may matter
    module _ {i : ℕ} {x : Entry} (at : slice_get (entries (shown f.node)) i ≡ Some x)
        (next : IsNext a (shown f.node).level (body_above (shown f.node).level k.digits) (entries (shown f.node)) f.place i) where
      pub child-below : {n : PlainNode} → x.what ≡ node n → (r : NodeRefOf PlainNode) → shown r ≡ n →
          ((shown r).level < (shown f.node).level) × IsBody d (shown f.node).level x.body × HasZerosFrom (shown r).level x.body
      child-below {n = n} is r shows =
          let q = held d a IsNoted k root f fs top-walk i x at next n is in
          subst (λ n. (n.level < (shown f.node).level) × IsBody d (shown f.node).level x.body ×
          HasZerosFrom n.level x.body) (sym shows) (q.0, (lawful d a IsNoted k root f fs top-walk i x at next).body, q.1)

      abbrev onto : Known
      onto = known_at k.width (put_together (shown f.node).level x.addr (body_above (shown f.node).level k.digits) x.body)

      abbrev on : List Frame
      on = record { node = f.node; place = i + 1; note = f.note } ∷ fs

      -- the path behind it is as good as the one on which the frame goes on
      record IsOnto (new : List Frame) : Type 0 where
        walk : IsWalk d a IsNoted onto root new
        rows : path_rows a onto.digits new ≡ path_rows a onto.digits on
        nodes : path_nodes a onto.digits new ≡ path_nodes a onto.digits on
        steps : path_steps new ≤ path_steps on
        long : length new ≤ suc (length fs)
        over : (b : ℕ) → AreOver b on → AreOver b new

      abbrev IsDone : Type 0
      IsDone =
          AreOut a (shown f.node).level (body_above (shown f.node).level k.digits) (entries (shown f.node)) (i + 1)
          (length (entries (shown f.node)))

      onto-by : (t : Bool) → (t ≡ true → IsDone) → (new : List Frame) → IsBehind f (i + 1) t (f ∷ fs) new → IsOnto new
      onto-by false done new into =
          subst IsOnto (sym into)
          (record {
            walk = after-walk d a IsNoted k root f fs top-walk i x at next;
            rows = refl;
            nodes = refl;
            steps = omega arith;
            long = omega arith;
            over = λ b o. o;
          })
      onto-by true done new into =
          let after = after-walk d a IsNoted k root f fs top-walk i x at next in
          let out = subst (λ t. AreOut a (shown f.node).level t (entries (shown f.node)) (i + 1) (length (entries (shown f.node))))
          (sym (same-above d a IsNoted k root f fs top-walk i x at next (shown f.node).level (omega arith))) (done refl) in
          let none = nothing-left d a IsNoted onto root (record { node = f.node; place = i + 1; note = f.note }) fs after out in
          subst IsOnto (sym into)
          (record {
            walk = behind-walk d a IsNoted onto root (record { node = f.node; place = i + 1; note = f.note }) fs after;
            rows = sym none.0;
            nodes = sym none.1;
            steps = omega arith;
            long = omega arith;
            over = λ b o. o.1;
          })

      -- and the walk behind it, as the code has it
      module _ {c : Known} (joined : c ≡
          known_at k.width (put_together (shown f.node).level x.addr (body_above (shown f.node).level k.digits)
          x.body)) {t : Bool} (done : t ≡ true → AreOut a (shown f.node).level (body_above (shown f.node).level k.digits)
          (entries (shown f.node)) (i + 1) (length (entries (shown f.node)))) (new : List Frame)
          (into : IsBehind f (i + 1) t path new) where
        stands : IsOnto new
        stands = onto-by t done new (subst (λ o. IsBehind f (i + 1) t o new) p into)

        joined-to : (P : Known → Type 0) → P onto → P c
        joined-to P p = subst P (sym joined) p

        pub new-walk : IsWalk d a IsNoted c root new
        new-walk = joined-to (λ c. IsWalk d a IsNoted c root new) stands.walk

        -- a point
        module _ {u : ℕ} (is : x.what ≡ value u) where
          less : path_steps new + root_steps root < old.steps
          less =
              let l : path_steps on < path_steps (f ∷ fs) = found-steps d a IsNoted k root f fs top-walk i x at next u is in
              omega (arith, l, top-steps, stands.steps)

          rest-by : (t : Bool) → a.belongs (point_at onto.width onto.digits) ≡ t →
              old.rest ≡ cond t (row (point_at a.width onto.digits) u ∷ path_rows a onto.digits new)
              (path_rows a onto.digits new) ++ root_rows d a root
          rest-by t e =
              top-rest ∙ ap (λ r. r ++ root_rows d a root)
              (found-rows d a IsNoted k root f fs top-walk i x at next u is t
              (ap (λ w. a.belongs (point_at w onto.digits)) (sym h.width) ∙ e)
              ∙ ap (λ r. cond t (row (point_at a.width onto.digits) u ∷ r) r) (sym stands.rows))

          pub row-found : {T : Type 0} (told : A → List ℤ → T) {t : T} →
              (a.belongs (point_at c.width c.digits) ≡ true) × (t ≡ told area (point_at c.width c.digits)) →
              IsTurn (told old.area) old (walk_of d area a c root new) (Found u t)
          row-found told {t = t} =
              joined-to (λ c. (a.belongs (point_at c.width c.digits) ≡ true) ×
              (t ≡ told area (point_at c.width c.digits)) →
              IsTurn (told old.area) old (walk_of d area a c root new) (Found u t))
              (λ q. (
                rest-by true q.0 ∙ ap (λ w. row (point_at w onto.digits) u ∷ path_rows a onto.digits new ++
                    root_rows d a root) (sym h.width),
                q.1 ∙ ap (λ t. told t.area (point_at onto.width onto.digits)) v,
                less,
              ))

          pub row-passed : a.belongs (point_at c.width c.digits) ≡ false → GoesOn c root new
          row-passed =
              joined-to (λ c. a.belongs (point_at c.width c.digits) ≡ false → GoesOn c root new)
              (λ q. (rest-by false q, less))

          pub row-visits : (walk_of d area a c root new).visits ≡ old.visits
          row-visits =
              joined-to (λ c. (walk_of d area a c root new).visits ≡ old.visits)
              (ap (λ t. t + root_nodes d a root)
              (stands.nodes ∙ sym (found-nodes d a IsNoted k root f fs top-walk i x at next u is)) ∙ sym top-visits)

        -- a child
        module _ {n : PlainNode} (is : x.what ≡ node n) (r : NodeRefOf PlainNode) (shows : shown r ≡ n) where
          below : n.level < (shown f.node).level
          below = (held d a IsNoted k root f fs top-walk i x at next n is).0

          pub child-level : (shown r).level < c.width
          child-level =
              let w : c.width ≡ k.width = ap (λ t. t.width) joined in
              let s : (shown r).level ≡ n.level = ap (λ t. t.level) shows in
              omega (arith, w, s, below, top-level)

          pub child-room : length new < 62
          child-room =
              let q : k.width ≡ a.width = h.width in
              omega (arith, few, stands.long, below, q, h.known.narrow)

          module _ (m : Option Masks) (deep : List Frame) {b : ℕ} (level : b ≡ (shown r).level) (note : IsNote a IsNoted b c.digits m)
              (down : IsEntered m r new deep) where
            got-deep : HasEntered d a IsNoted c root n new deep
            got-deep =
                entered d a IsNoted c root r n new deep m new-walk shows
                (omega (arith, below, top-walk.way.0.level))
                (held d a IsNoted k root f fs top-walk i x at next n is).3
                (stands.over n.level (child-over d a IsNoted k root f fs top-walk i x at next n is))
                (noted-at a IsNoted c.digits m level note) down

            pub deep-walk : IsWalk d a IsNoted c root deep
            deep-walk = got-deep.walk

            pub deep-step : GoesOn c root deep
            deep-step =
                let l : suc (suc (entry_steps n.chain + path_steps on)) ≤ path_steps (f ∷ fs) = below-steps d a IsNoted k root f fs top-walk i x at next n is in (
                  top-rest ∙ ap (λ t. t ++ root_rows d a root)
                      (joined-to (λ c. path_rows a k.digits (f ∷ fs) ≡
                      kept_below a n.level (body_above n.level c.digits) n.chain ++ path_rows a c.digits new)
                      (below-rows d a IsNoted k root f fs top-walk i x at next n is ∙
                      ap (λ r. kept_below a n.level (body_above n.level onto.digits) n.chain ++ r) (sym stands.rows))
                      ∙ sym got-deep.rows),
                  omega (arith, l, stands.steps, top-steps, got-deep.steps),
                )

            pub deep-visits : suc ((walk_of d area a c root deep).visits) ≡ old.visits
            deep-visits =
                let e : path_nodes a k.digits (f ∷ fs) ≡
                suc (length (touched_below a n.level (body_above n.level c.digits) n.chain) + path_nodes a
                c.digits new) = joined-to (λ c. path_nodes a k.digits (f ∷ fs) ≡
                suc (length (touched_below a n.level (body_above n.level c.digits) n.chain) + path_nodes a
                c.digits new)) (below-nodes d a IsNoted k root f fs top-walk i x at next n is ∙
                ap (λ t. suc (length (touched_below a n.level (body_above n.level onto.digits) n.chain) + t)) (sym stands.nodes)) in
                omega (arith, top-visits, e, got-deep.nodes)
