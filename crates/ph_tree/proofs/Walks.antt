-- A look-up and an edit by the step that they take at a node.
use Rattle.std.proofs.Common.{◌≡◌, ◌≢◌, ℕ, zero, suc, ◌+◌, ◌-◌, ◌<◌, ◌≤◌, ◌⊎◌, List, [], true, false, cond, refl}
use Rattle.std.proofs.Common.{arith, ap, sym, ◌∙◌, subst, inl, inr, ne_eqb, eq-eqb, add-zero, zero-add}
use Rattle.std.specs.Prelude.{Result, Ok, Err, IfOk, IsErrOf, OnOk, OnErr, IsSome, ℤ, Some, None, Option, slice_get, unwrap_or}
use Rattle.ph_specs.specs.ZOrder.{address}
use Rattle.ph_specs.specs.Node.{Entries, end, point, child, PlainNode}
use Rattle.ph_model.specs.EntryList.{Entry, What, value, node, entries, listed, node_of}
use Rattle.ph_specs.specs.Shape.{digits_below, digits_between}
use Rattle.ph_specs.specs.TreeRows.{count}
use Rattle.ph_model.specs.Lawful.{IsLawfulFrom}
use Rattle.ph_specs.specs.DelTree.{same_digits}
use Rattle.ph_model.specs.PutTree.{find_node, put_node}
use Rattle.ph_model.specs.EntryEdits.{point_entry, with_what, with_child, what_at}
use Rattle.ph_specs.proofs.laws.Put.{either}
use Rattle.ph_model.proofs.lemmas.PointDigits.{same_digits-true, same_digits-refl}
use Rattle.ph_model.proofs.laws.EntryEdits as laws
use Rattle.ph_node.specs.OneEdit.{before}
use Rattle.ph_node.specs.Shown.{shown}
use Rattle.ph_node.specs.Split.{IsNode, IsValue}
use Rattle.ph_node.specs.Spots.{IsSpot}
use Rattle.ph_node.specs.declared.reads.NodeRefOf.{NodeRefOf}
use Rattle.ph_node.specs.declared.spots.Spot.{Spot}
use Rattle.ph_tree.specs.declared.step.StepOf.{StepOf}
use Rattle.ph_tree.specs.declared.step.StepOf.TheVariants.{Absent, Same, Below, Other}
use Rattle.ph_tree.specs.Opened.{opened_below}
use Rattle.ph_tree.specs.Step.{IsApart, IsStep, IsLeading, opened_for}
use Rattle.ph_tree.proofs.Steps.{what_got, spot_at, put_back, same_node}

abbrev pub no_entry : Entry
no_entry = point_entry 0 [] 0

pub not_same : (xs ys : List ℕ) → (xs ≡ ys → ⊥) → same_digits xs ys ≡ false
not_same xs ys n = elim (either (same_digits xs ys)) [ inl same ↦ absurd (n (same_digits-true xs ys same)) | inr other ↦ other ]

-- ---- the nodes that are opened

-- what is opened below one entry at the point's address
abbrev opened_by : ℕ → List ℤ → ℕ → List ℕ → What → ℕ
opened_by w p b body (value v) = 0
opened_by w p b body (node m) = 1 + cond (same_digits body (digits_between w b m.level p)) (opened_below w m.level m.chain p) 0

pub opened-later : (w dims b least : ℕ) (e : Entries) (p : List ℤ) → IsLawfulFrom dims b least e → address w p b < least → opened_below w b e p ≡ 0
opened-later w dims b least end p h l = refl
opened-later w dims b least (point a body v rest) p h l = opened-later w dims b (a + 1) rest p h.3 (omega (arith, h.0, l))
opened-later w dims b least (child a body c chain rest) p h l =
    let d : a ≢ address w p b = λ e. omega (arith, h.0, l, e) in
    rw (ne_eqb a (address w p b) d, opened-later w dims b (a + 1) rest p h.7 (omega (arith, h.0, l))) refl

opened-absent : (w b : ℕ) (e : Entries) (p : List ℤ) → laws.IsAbsent (address w p b) (listed e) → opened_below w b e p ≡ 0
opened-absent w b end p h = refl
opened-absent w b (point a body v rest) p h = opened-absent w b rest p h.1
opened-absent w b (child a body c chain rest) p h = rw (h.0, opened-absent w b rest p h.1) refl

-- an entry's address is at least the least
pub least-address : (dims b least : ℕ) (e : Entries) (i : ℕ) (x : Entry) → IsLawfulFrom dims b least e → slice_get (listed e) i ≡ Some x → least ≤ x.addr
least-address dims b least end i x k h = cc
least-address dims b least (point a body u rest) zero x k h = let q : a ≡ x.addr = ap (λ o. (unwrap_or o no_entry).addr) h in omega (arith, q, k.0)
least-address dims b least (point a body u rest) (suc i) x k h = omega (arith, k.0, least-address dims b (a + 1) rest i x k.3 h)
least-address dims b least (child a body c chain rest) zero x k h = let q : a ≡ x.addr = ap (λ o. (unwrap_or o no_entry).addr) h in omega (arith, q, k.0)
least-address dims b least (child a body c chain rest) (suc i) x k h = omega (arith, k.0, least-address dims b (a + 1) rest i x k.7 h)

opened-at : (w dims b least : ℕ) (e : Entries) (i : ℕ) (x : Entry) (p : List ℤ) → IsLawfulFrom dims b least e →
    slice_get (listed e) i ≡ Some x → x.addr ≡ address w p b → opened_below w b e p ≡ opened_by w p b x.body x.what
opened-at w dims b least end i x p h g a = cc
opened-at w dims b least (point n body u rest) zero x p h g a =
    let q : point_entry n body u ≡ x = ap (λ o. unwrap_or o no_entry) g in
    let d : n ≡ x.addr = ap (λ y. y.addr) q in
    opened-later w dims b (n + 1) rest p h.3 (omega (arith, d, a)) ∙ ap (λ y. opened_by w p b y.body y.what) q
opened-at w dims b least (point n body u rest) (suc i) x p h g a = opened-at w dims b (n + 1) rest i x p h.3 g a
opened-at w dims b least (child n body c chain rest) zero x p h g a =
    let q : ◌≡◌ {A = Entry} (record { addr = n; body = body; what = node (record { level = c; chain = chain }) }) x = ap (λ o. unwrap_or o no_entry) g in
    let d : n ≡ x.addr = ap (λ y. y.addr) q in
    rw (eq-eqb n (address w p b) (d ∙ a), opened-later w dims b (n + 1) rest p h.7 (omega (arith, d, a)), add-zero) (ap (λ y. opened_by w p b y.body y.what) q)
opened-at w dims b least (child n body c chain rest) (suc i) x p h g a =
    let l : n + 1 ≤ x.addr = least-address dims b (n + 1) rest i x h.7 g in
    let d : n ≢ address w p b = λ e. omega (arith, l, a, e) in
    rw (ne_eqb n (address w p b) d, zero-add) (opened-at w dims b (n + 1) rest i x p h.7 g a)

-- ---- steps

-- what a step finds in a lawful node, and how many nodes below it are opened
pub record IsStepAt (dims w : ℕ) (p : List ℤ) (t : PlainNode) (found : StepOf PlainNode) (o : ℕ) : Type 0 where
  pub lawful : IsLawfulFrom dims t.level 0 t.chain
  pub step : IsStep w p t found o

-- the step is told of the node as it is visited
pub step_at : {dims w o : ℕ} {p : List ℤ} {s t : PlainNode} {found : StepOf PlainNode} → s ≡ t →
    IsLawfulFrom dims t.level 0 t.chain → IsStep w p s found o → IsStepAt dims w p t found o
step_at {dims = dims} {w = w} {o = o} {p = p} {found = found} e ok h =
    record { lawful = ok; step = subst (λ u. IsStep w p u found o) e h }

-- a step that finds no point, and no child that leads to it
abbrev pub IsMissing : StepOf PlainNode → Type 0
IsMissing found = ((i : ℕ) × (found ≡ Absent i)) ⊎ ((spot : Spot) × (found ≡ Other spot))

-- what a node has of the child that the point leads to
pub record IsWayBelow (dims w : ℕ) (p : List ℤ) (t : PlainNode) (i : ℕ) (m : PlainNode) (o : ℕ) : Type 0 where
  pub lower : m.level < t.level
  pub lawful : IsLawfulFrom dims m.level 0 m.chain
  pub found : find_node w t p ≡ find_node w m p
  pub one : o ≡ 1
  pub opened : opened_below w t.level t.chain p ≡ o + opened_below w m.level m.chain p
  pub put : (u : ℕ) → with_child t i (put_node w m p u) ≡ put_node w t p u
  pub back : with_child t i m ≡ t

module _ {dims w o : ℕ} {p : List ℤ} {t : PlainNode} {found : StepOf PlainNode} (k : IsStepAt dims w p t found o) where
  pub step_as : {x : StepOf PlainNode} → found ≡ x → IsStep w p t x o
  step_as is = subst (λ u. IsStep w p t u o) is k.step

  pub absent_found : {i : ℕ} → found ≡ Absent i → find_node w t p ≡ None
  absent_found is = laws.find_node-absent w t p (step_as is).0

  pub absent_opened : {i : ℕ} → found ≡ Absent i → opened_below w t.level t.chain p ≡ o
  absent_opened is =
      opened-absent w t.level t.chain p (laws.absent-by (address w p t.level) (entries t) (step_as is).0) ∙ sym (step_as is).2

  module _ {spot : Spot} {v : ℕ} (is : found ≡ Same spot v) where
    abbrev own : IsStep w p t (Same spot v) o
    own = step_as is

    pub same_found : find_node w t p ≡ Some v
    same_found =
        laws.find_node-value w dims t spot.place own.0 v p k.lawful own.1.0 own.1.1 own.2 ∙
        ap (λ z. cond z (Some v) None) (same_digits-refl own.0.body (digits_below w t.level p) own.3)

    pub same_opened : opened_below w t.level t.chain p ≡ o
    same_opened =
        opened-at w dims t.level 0 t.chain spot.place own.0 p k.lawful own.1.0 own.1.1 ∙ ap (opened_by w p t.level own.0.body) own.2 ∙ sym own.4

    pub same_value : IsValue (what_at (entries t) spot.place)
    same_value = subst IsValue (sym (what_got (entries t) spot.place own.0 own.1.0 ∙ own.2)) tt

    pub same_spot : IsSpot (entries t) spot
    same_spot = spot_at w p t spot own.0 own.1

    pub same_put : (u : ℕ) → node_of t.level (with_what (entries t) spot.place (value u)) ≡ put_node w t p u
    same_put u = sym (laws.put_node-value w dims t spot.place own.0 v p u k.lawful own.1.0 own.1.1 own.2 own.3)

  module _ {spot : Spot} {rank : ℕ} {m : NodeRefOf PlainNode} (is : found ≡ Below spot rank m) where
    abbrev nearer : IsStep w p t (Below spot rank m) o
    nearer = step_as is

    below_what : what_at (entries t) spot.place ≡ node (shown m)
    below_what = what_got (entries t) spot.place nearer.0 nearer.1.0 ∙ nearer.2

    pub below_digits : same_digits nearer.0.body (digits_between w t.level (shown m).level p) ≡ true
    below_digits = same_digits-refl nearer.0.body (digits_between w t.level (shown m).level p) nearer.3

    pub below_node : IsNode (what_at (entries t) spot.place)
    below_node = subst IsNode (sym below_what) tt

    pub below_spot : IsSpot (entries t) spot
    below_spot = spot_at w p t spot nearer.0 nearer.1

    pub below_rank : rank ≡ before (entries t) spot.place
    below_rank = nearer.5

    pub below_leading : IsLeading w p t spot rank
    below_leading =
        record { entry = nearer.0; below = shown m; at = nearer.1; child = nearer.2; body = nearer.3; place = nearer.5 }

    -- the child as it is lent
    pub below_lent : {n : PlainNode} → node n ≡ what_at (entries t) spot.place → shown m ≡ n
    below_lent {n = n} h = same_node (shown m) n (what_at (entries t) spot.place) below_what (sym h)

    pub way_below : {n : PlainNode} → shown m ≡ n → IsWayBelow dims w p t spot.place n o
    way_below e =
        let held : ((shown m).level < t.level) × (2 ≤ count (shown m).chain) ×
        IsLawfulFrom dims (shown m).level 0 (shown m).chain = laws.lawful-child dims t.level 0 t.chain spot.place
        nearer.0 (shown m) k.lawful nearer.1.0 nearer.2 in
        subst (λ u. IsWayBelow dims w p t spot.place u o) e
        (record {
          lower = held.0;
          lawful = held.2;
          found = laws.find_node-child w dims t spot.place nearer.0 (shown m) p k.lawful nearer.1.0 nearer.1.1
              nearer.2 ∙ ap (λ z. cond z (find_node w (shown m) p) None) below_digits;
          one = nearer.4;
          opened =
              opened-at w dims t.level 0 t.chain spot.place nearer.0 p k.lawful nearer.1.0 nearer.1.1 ∙ ap (opened_by w p t.level nearer.0.body) nearer.2
              ∙ ap (λ z. 1 + cond z (opened_below w (shown m).level (shown m).chain p) 0) below_digits
              ∙ ap (λ n. n + opened_below w (shown m).level (shown m).chain p) (sym nearer.4);
          put = λ u. sym (laws.put_node-child w dims t spot.place nearer.0 (shown m) p u k.lawful nearer.1.0 nearer.1.1 nearer.2 nearer.3);
          back = put_back t spot.place nearer.0 (shown m) nearer.1.0 nearer.2;
        })

  module _ {spot : Spot} (is : found ≡ Other spot) where
    abbrev other : IsStep w p t (Other spot) o
    other = step_as is

    found_by : (held : What) → other.0.what ≡ held → IsApart w p t.level other.0.body held → find_node w t p ≡ None
    found_by (value u) q a =
        laws.find_node-value w dims t spot.place other.0 u p k.lawful other.1.0 other.1.1 q ∙
        ap (λ z. cond z (Some u) None) (not_same other.0.body (digits_below w t.level p) a)
    found_by (node m) q a =
        laws.find_node-child w dims t spot.place other.0 m p k.lawful other.1.0 other.1.1 q ∙
        ap (λ z. cond z (find_node w m p) None) (not_same other.0.body (digits_between w t.level m.level p) a)

    pub other_found : find_node w t p ≡ None
    other_found = found_by other.0.what refl other.2

    opened_as : (held : What) → IsApart w p t.level other.0.body held → opened_by w p t.level other.0.body held ≡ opened_for held
    opened_as (value u) a = refl
    opened_as (node m) a = ap (λ z. 1 + cond z (opened_below w m.level m.chain p) 0) (not_same other.0.body (digits_between w t.level m.level p) a)

    pub other_opened : opened_below w t.level t.chain p ≡ o
    other_opened =
        opened-at w dims t.level 0 t.chain spot.place other.0 p k.lawful other.1.0 other.1.1 ∙ opened_as other.0.what other.2 ∙ sym other.3

  -- no entry, or one of which the point is no part
  pub missing_found : IsMissing found → find_node w t p ≡ None
  missing_found (inl is) = absent_found is.1
  missing_found (inr is) = other_found is.1

  pub missing_opened : IsMissing found → opened_below w t.level t.chain p ≡ o
  missing_opened (inl is) = absent_opened is.1
  missing_opened (inr is) = other_opened is.1

-- ---- a look-up on its way down

-- a look-up from a node has come to another: it finds there what it finds below the first, and opens as many nodes in all
pub record IsOnWay (dims w : ℕ) (p : List ℤ) (top cur : PlainNode) (before visits : ℕ) : Type 0 where
  pub lawful : IsLawfulFrom dims cur.level 0 cur.chain
  pub level : cur.level < w
  pub found : find_node w cur p ≡ find_node w top p
  pub cost : visits + opened_below w cur.level cur.chain p ≡ before + opened_below w top.level top.chain p

-- what a look-up that has ended found, and what it cost
abbrev pub IsFound : ℕ → List ℤ → PlainNode → ℕ → ℕ → Option ℕ → Type 0
IsFound w p top before seen o = (o ≡ find_node w top p) × (seen ≡ before + opened_below w top.level top.chain p)

module _ {dims w : ℕ} {p : List ℤ} {top cur : PlainNode} {before visits seen : ℕ} {found : StepOf PlainNode}
    (on : IsOnWay dims w p top cur before visits) (step : IsStep w p cur found (seen - visits)) (more : visits ≤ seen) where
  pub on_step : IsStepAt dims w p cur found (seen - visits)
  on_step = record { lawful = on.lawful; step = step }

  pub ended_missing : IsMissing found → IsFound w p top before seen None
  ended_missing is = (sym (missing_found on_step is) ∙ on.found, omega (arith, missing_opened on_step is, more, on.cost))

  pub ended_same : {spot : Spot} {v : ℕ} → found ≡ Same spot v → IsFound w p top before seen (Some v)
  ended_same is = (sym (same_found on_step is) ∙ on.found, omega (arith, same_opened on_step is, more, on.cost))

  pub goes_below : {spot : Spot} {rank : ℕ} {m : NodeRefOf PlainNode} → found ≡ Below spot rank m → IsOnWay dims w p top (shown m) before seen
  goes_below is =
      let below = way_below on_step is refl in
      record {
        lawful = below.lawful;
        level = omega (arith, below.lower, on.level);
        found = sym below.found ∙ on.found;
        cost = omega (arith, below.opened, more, on.cost);
      }

  pub goes_lower : {spot : Spot} {rank : ℕ} {m : NodeRefOf PlainNode} → found ≡ Below spot rank m → (shown m).level < cur.level
  goes_lower is = let below = way_below on_step is refl in below.lower

-- ---- an entry that leads to the point

module _ {w : ℕ} {p : List ℤ} {t : PlainNode} {spot : Spot} {rank : ℕ} (h : IsLeading w p t spot rank) where
  leading_what : what_at (entries t) spot.place ≡ node h.below
  leading_what = what_got (entries t) spot.place h.entry h.at.0 ∙ h.child

  pub leading_node : IsNode (what_at (entries t) spot.place)
  leading_node = subst IsNode (sym leading_what) tt

  pub leading_spot : IsSpot (entries t) spot
  leading_spot = spot_at w p t spot h.entry h.at

  -- a step comes to it
  pub leading_step : {dims : ℕ} → IsLawfulFrom dims t.level 0 t.chain → (m : NodeRefOf PlainNode) → node (shown m) ≡ what_at (entries t) spot.place →
      IsStepAt dims w p t (Below spot rank m) 1
  leading_step ok m lent =
      let e : h.below ≡ shown m = same_node h.below (shown m) (what_at (entries t) spot.place) leading_what (sym lent) in
      record {
        lawful = ok;
        step = (h.entry, h.at, h.child ∙ ap node e, h.body ∙ ap (λ u. digits_between w t.level u.level p) e, refl, h.place);
      }

-- ---- what an answer tells

pub answered_as : {T E : Type 0} (r : Result T E) (x y : T) → x ≡ y → IfOk r (λ a. a ≡ x) → IfOk r (λ a. a ≡ y)
answered_as (Ok a) x y e h = h ∙ e
answered_as (Err b) x y e h = h

pub on_ok : {T E P Q : Type 0} (r : Result T E) → (P → Q) → OnOk r P → OnOk r Q
on_ok (Ok x) f p = f p
on_ok (Err e) f p = p

pub on_err : {T E P Q : Type 0} (r : Result T E) → (P → Q) → OnErr r P → OnErr r Q
on_err (Ok x) f p = p
on_err (Err e) f p = f p

-- what holds both of a call that succeeds and of one that fails
pub either_way : {T E P : Type 0} (r : Result T E) → OnOk r P → OnErr r P → P
either_way (Ok x) p q = p
either_way (Err e) p q = q

pub always_ok : {T E P : Type 0} (r : Result T E) → P → OnOk r P
always_ok (Ok x) p = p
always_ok (Err e) p = tt

-- a call that succeeds has no error
pub no_error : {T E A : Type 0} {x : T} {e : E} → IsErrOf (Ok x) e → A
no_error h = absurd cc

-- what is there is not nowhere
pub not_none : {T : Type 0} (o : Option T) → o ≡ None → IsSome o → ⊥
not_none None e s = cc
not_none (Some v) e s = cc

-- either is there
pub none_or_some : {T : Type 0} (o : Option T) → (o ≡ None) ⊎ IsSome o
none_or_some None = inl refl
none_or_some (Some v) = inr refl

-- a value is not the want of one
pub some_none : {T A : Type 0} {x : T} → Some x ≡ None → A
some_none h = absurd cc
