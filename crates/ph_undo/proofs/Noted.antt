-- What an inverse adds to what is kept.
use Rattle.std.proofs.Common.{◌≡◌, ℕ, suc, zero, ◌+◌, ◌≤◌, List, [], ◌∷◌, length, take, drop, refl, sym, ◌∙◌, ap, subst, arith}
use Rattle.std.specs.Prelude.{Option, Some, None, slice_get, unwrap_or}
use Rattle.std.specs.List.{AllByRecursion as Each}
use Rattle.std.proofs.lemmas.List.{length-take}
use Rattle.circular_buffer.specs.Buffer.{Buffer}
use Rattle.ph_specs.specs.Past.{Past, after_edit, back}
use Rattle.ph_specs.specs.Table.{Row}
use Rattle.ph_tree.specs.Tree.{TreeTable}
use Rattle.ph_undo.specs.Inverses.{undone, undo_visits, past_of, IsInverse, IsChange, AreChanges}
use Rattle.ph_undo.specs.Rings.{inverses_in, room_in}
use Rattle.ph_undo.specs.Kept.{kept_of, IsKept, IsLedBack, BackVisits}
use Rattle.ph_undo.specs.declared.inverse.Inverse.{Inverse}

-- ---- lists

each-take : {X : Type 0} (P : X → Type 0) (n : ℕ) (xs : List X) → Each P xs → Each P (take n xs)
each-take P zero xs h = tt
each-take P (suc n) [] h = h
each-take P (suc n) (x ∷ xs) h = (h.0, each-take P n xs h.1)

pub past-take : {D : ℕ} (w n : ℕ) (table : List Row) (inverses : List (Inverse D)) → past_of w table (take n inverses) ≡ take n (past_of w table inverses)
past-take w zero table inverses = refl
past-take w (suc n) table [] = refl
past-take w (suc n) table (s ∷ inverses) = ap {B = List (List Row)} (λ ts. undone w table s ∷ ts) (past-take w n (undone w table s) inverses)

changes-take : {D : ℕ} (w n : ℕ) (table : List Row) (inverses : List (Inverse D)) → AreChanges w table inverses → AreChanges w table (take n inverses)
changes-take w zero table inverses h = tt
changes-take w (suc n) table [] h = h
changes-take w (suc n) table (s ∷ inverses) h = (h.0, changes-take w n (undone w table s) inverses h.1)

pub length-past : {D : ℕ} (w : ℕ) (table : List Row) (inverses : List (Inverse D)) → length (past_of w table inverses) ≡ length inverses
length-past w table [] = refl
length-past w table (s ∷ inverses) = ap suc (length-past w (undone w table s) inverses)

pub first-none : {X : Type 0} (xs : List X) → slice_get xs 0 ≡ None → xs ≡ []
first-none [] e = refl
first-none (x ∷ xs) e = absurd (no e)
  where
    no : Some x ≡ None → ⊥
    no e = cc

pub first-some : {X : Type 0} (xs : List X) (x : X) → slice_get xs 0 ≡ Some x → xs ≡ x ∷ drop 1 xs
first-some [] x e = absurd (no e)
  where
    no : None ≡ Some x → ⊥
    no e = cc
first-some (y ∷ xs) x e = λ i. same e i ∷ xs
  where
    same : Some y ≡ Some x → y ≡ x
    same e = cc

-- ---- an edit

-- the tree with another table
abbrev pub with_table : TreeTable → List Row → TreeTable
with_table t table = record t { table = table }

-- an edit, with its inverse in front of the others
module _ {D : ℕ} (t : TreeTable) (table : List Row) (depth : ℕ) (s : Inverse D) (ring now : Option (Buffer (Inverse D))) (k : IsKept D t depth ring)
    (inverses : inverses_in now ≡ take (room_in ring) (s ∷ inverses_in ring)) (room : room_in now ≡ room_in ring)
    (point : IsInverse t.width s) (change : IsChange table s) (limit : length t.table ≤ t.max) (before : undone t.width table s ≡ t.table) where
  cut : inverses_in now ≡ take depth (s ∷ inverses_in ring)
  cut = inverses ∙ ap (λ n. take n (s ∷ inverses_in ring)) k.room

  past-noted : past_of t.width table (inverses_in now) ≡ take depth (t.table ∷ past_of t.width t.table (inverses_in ring))
  past-noted =
      ap (past_of t.width table) cut
      ∙ past-take t.width depth table (s ∷ inverses_in ring)
      ∙ ap (λ b. take depth (b ∷ past_of t.width b (inverses_in ring))) before

  short : length (inverses_in now) ≤ depth
  short = omega (arith, ap (λ (xs : List (Inverse D)). length xs) cut, length-take depth (s ∷ inverses_in ring))

  pub is_kept-noted : IsKept D (with_table t table) depth now
  is_kept-noted = record {
    few = k.few;
    limit = k.limit;
    room = room ∙ k.room;
    within = short;
    points = subst (Each (IsInverse t.width)) (sym cut) (each-take (IsInverse t.width) depth (s ∷ inverses_in ring) (point, k.points));
    fit = subst (Each (λ u. length u ≤ t.max)) (sym past-noted) (each-take (λ u. length u ≤ t.max) depth _ (limit, k.fit));
    changes = subst (AreChanges t.width table) (sym cut)
        (changes-take t.width depth table (s ∷ inverses_in ring)
        (change, subst (λ u. AreChanges t.width u (inverses_in ring)) (sym before) k.changes));
  }

  pub kept-noted : kept_of (with_table t table) depth now ≡ after_edit (kept_of t depth ring) table
  kept-noted = λ i. record { table = table; width = t.width; max = t.max; depth = depth; past = past-noted i }

-- the same together
pub record IsNoted (D : ℕ) (t : TreeTable) (table : List Row) (depth : ℕ) (ring now : Option (Buffer (Inverse D))) : Type 0 where
  pub kept : IsKept D (with_table t table) depth now
  pub view : kept_of (with_table t table) depth now ≡ after_edit (kept_of t depth ring) table

pub noted : {D : ℕ} (t : TreeTable) (table : List Row) (depth : ℕ) (s : Inverse D) (ring now : Option (Buffer (Inverse D))) → IsKept D t depth ring
    → inverses_in now ≡ take (room_in ring) (s ∷ inverses_in ring) → room_in now ≡ room_in ring → IsInverse t.width s →
    IsChange table s → length t.table ≤ t.max → undone t.width table s ≡ t.table
    → IsNoted D t table depth ring now
noted t table depth s ring now k inverses room point change limit before = record {
  kept = is_kept-noted t table depth s ring now k inverses room point change limit before;
  view = kept-noted t table depth s ring now k inverses room point change limit before;
}

-- ---- a command that is no edit

-- the same inverses in another ring
pub is_kept-same : {D : ℕ} (t : TreeTable) (depth : ℕ) (ring now : Option (Buffer (Inverse D))) → IsKept D t depth ring →
    inverses_in now ≡ inverses_in ring → room_in now ≡ room_in ring → IsKept D t depth now
is_kept-same t depth ring now k inverses room = record {
  few = k.few;
  limit = k.limit;
  room = room ∙ k.room;
  within = omega (arith, k.within, ap (λ (xs : List (Inverse _)). length xs) inverses);
  points = subst (Each (IsInverse t.width)) (sym inverses) k.points;
  fit = subst (λ ss. Each (λ u. length u ≤ t.max) (past_of t.width t.table ss)) (sym inverses) k.fit;
  changes = subst (AreChanges t.width t.table) (sym inverses) k.changes;
}

pub kept-same : {D : ℕ} (t : TreeTable) (depth : ℕ) (ring now : Option (Buffer (Inverse D))) → inverses_in now ≡ inverses_in ring → kept_of t depth now ≡ kept_of t depth ring
kept-same t depth ring now inverses =
    λ i. record { table = t.table; width = t.width; max = t.max; depth = depth; past = past_of t.width t.table (inverses i) }

-- what a tree keeps is what a tree keeps that is the same
pub is_kept-as : {D depth : ℕ} {t u : TreeTable} {ring : Option (Buffer (Inverse D))} → u ≡ t → IsKept D t depth ring → IsKept D u depth ring
is_kept-as {D = D} {depth = depth} {ring = ring} same k = subst (λ v. IsKept D v depth ring) (sym same) k

-- ---- an edit that is taken back

module _ {D : ℕ} (t : TreeTable) (depth : ℕ) (s : Inverse D) (rest : List (Inverse D)) (ring : Option (Buffer (Inverse D)))
    (k : IsKept D t depth ring) (is : inverses_in ring ≡ s ∷ rest) where
  pub first_point : IsInverse t.width s
  first_point = (subst (Each (IsInverse t.width)) is k.points).0

  pub first_changes : IsChange t.table s
  first_changes = (subst (AreChanges t.width t.table) is k.changes).0

  pub first_fits : length (undone t.width t.table s) ≤ t.max
  first_fits = (subst (λ ss. Each (λ u. length u ≤ t.max) (past_of t.width t.table ss)) is k.fit).0

  pub is_kept-back : (u : TreeTable) → u ≡ with_table t (undone t.width t.table s) →
      (now : Option (Buffer (Inverse D))) → inverses_in now ≡ drop 1 (inverses_in ring) → room_in now ≡ room_in ring → IsKept D u depth now
  is_kept-back u at now left room =
      let gone : inverses_in now ≡ rest = left ∙ ap {B = List (Inverse D)} (drop 1) is in
      subst (λ v. IsKept D v depth now) (sym at)
      (record {
        few = k.few;
        limit = k.limit;
        room = room ∙ k.room;
        within = omega (arith, k.within, ap (λ (xs : List (Inverse D)). length xs) is, ap (λ (xs : List (Inverse D)). length xs) gone);
        points = subst (Each (IsInverse t.width)) (sym gone) (subst (Each (IsInverse t.width)) is k.points).1;
        fit = subst (λ ss. Each (λ u. length u ≤ t.max) (past_of t.width (undone t.width t.table s) ss)) (sym gone)
            (subst (λ ss. Each (λ u. length u ≤ t.max) (past_of t.width t.table ss)) is k.fit).1;
        changes = subst (AreChanges t.width (undone t.width t.table s)) (sym gone) (subst (AreChanges t.width t.table) is k.changes).1;
      })

module _ {D : ℕ} (t : TreeTable) (s : Inverse D) (rest : List (Inverse D)) (ring : Option (Buffer (Inverse D))) (is : inverses_in ring ≡ s ∷ rest) where
  past-is : past_of t.width t.table (inverses_in ring) ≡ undone t.width t.table s ∷ past_of t.width (undone t.width t.table s) rest
  past-is = ap (past_of t.width t.table) is

  pub back-visits : (v now_v : ℕ) → IsInverse t.width s → IsChange t.table s → now_v ≤ v + undo_visits t.width D t.table s →
      BackVisits D t.width t.table (past_of t.width t.table (inverses_in ring)) v now_v
  back-visits v now_v point change few =
      let led : IsLedBack D t.width t.table (undone t.width t.table s) v now_v = record { inverse = s; point = point; change = change; leads = refl; few = few } in
      subst (λ past. BackVisits D t.width t.table past v now_v) (sym past-is) led

  pub past-some : past_of t.width t.table (inverses_in ring) ≡ [] → ⊥
  past-some e = no (sym past-is ∙ e)
    where
      no : {X : Type 0} {x : X} {xs : List X} → x ∷ xs ≡ [] → ⊥
      no e = cc

pub kept-back : {D : ℕ} (t : TreeTable) (depth : ℕ) (s : Inverse D) (rest : List (Inverse D)) (ring : Option (Buffer (Inverse D))) → inverses_in ring ≡ s ∷ rest
    → (u : TreeTable) → u ≡ with_table t (undone t.width t.table s) → (now : Option (Buffer (Inverse D))) →
    inverses_in now ≡ drop 1 (inverses_in ring) → kept_of u depth now ≡ back (kept_of t depth ring) 1
kept-back t depth s rest ring is u at now left =
    let gone : inverses_in now ≡ rest = left ∙ ap {B = List (Inverse _)} (drop 1) is in
    let before : past_of t.width t.table (inverses_in ring) ≡ undone t.width t.table s ∷ past_of t.width (undone t.width t.table s) (inverses_in now) =
    past-is t s rest ring is ∙ ap {B = List (List Row)} (λ ss. undone t.width t.table s ∷ past_of t.width (undone t.width t.table s) ss) (sym gone) in
    ap (λ v. kept_of v depth now) at
    ∙ (λ i. record { table = unwrap_or (slice_get (t.table ∷ sym before i) 1) t.table; width = t.width; max = t.max; depth = depth; past = drop 1 (sym before i) })

-- ---- with nothing to take back

pub past-none : {D : ℕ} (t : TreeTable) (ring : Option (Buffer (Inverse D))) → inverses_in ring ≡ [] → past_of t.width t.table (inverses_in ring) ≡ []
past-none t ring e = ap (past_of t.width t.table) e

pub back-none : (k : Past) → k.past ≡ [] → k ≡ back k 1
back-none k e =
    λ i. record { table = unwrap_or (slice_get (k.table ∷ sym e i) 1) k.table; width = k.width; max = k.max; depth = k.depth; past = (e ∙ ap (drop 1) (sym e)) i }
