-- The entries of a node by the entries of its record.
use Rattle.std.proofs.Common.{◌≡◌, ℕ, zero, suc, ◌+◌, ◌<◌, List, [], ◌∷◌, take, length, Bool, true, false}
use Rattle.std.proofs.Common.{not, cond, refl, arith, ap, sym, ◌∙◌, get_or, subst, slice_index_or}
use Rattle.std.specs.Prelude.{Some, slice_get, position}
use Rattle.std.specs.List.{position_or_len}
use Rattle.std.proofs.lemmas.Option.{get_or_from_slice_get, slice_get-get_or}
use Rattle.ph_specs.specs.Node.{PlainNode}
use Rattle.ph_model.specs.EntryList.{Entry, value, node, listed, entries}
use Rattle.ph_specs.specs.Record.{Read, read_point, read_child, read, filled, unpacked, entries_in, values_in, first_in, has_cube}
use Rattle.ph_model.specs.NodeSize.{children_in, points_in}
use Rattle.ph_model.specs.Layout.{read_address, IsRecord, entries_as}
use Rattle.ph_linear.proofs.Entries.{no_read}
use Rattle.ph_model.proofs.lemmas.ReadColumns.{length-parts}
use Rattle.ph_linear.proofs.Columns.{length-kinds, length-addresses}
use Rattle.ph_linear.proofs.Entries.{length-read}
use Rattle.ph_linear.specs.Linear.{kinds, addresses, bodies}
use Rattle.ph_cube.proofs.Ranks.{length-entries}
use Rattle.ph_node.specs.Kept.{AreKept}
use Rattle.ph_node.specs.Recorded.{IsRecorded}
use Rattle.ph_node.specs.Children.{nodes_of}
use Rattle.ph_node.specs.declared.node.ChildOf.{ChildOf}

many-as : (cube : Bool) (d : ℕ) (ws : List ℕ) → IsRecord cube d ws → length (entries_as cube d ws) ≡ (first_in ws).entries
many-as true d ws r = length-entries d ws r
many-as false d ws r = length-read (kinds d ws) (addresses d ws) (bodies d ws) (first_in ws).entries
    (length-kinds d ws) (length-addresses d ws) (length-parts (first_in ws).entries d _)

pub many : (d : ℕ) (ws : List ℕ) → IsRecord (has_cube d (first_in ws)) d ws → length (entries_in d ws) ≡ (first_in ws).entries
many d ws r = many-as (has_cube d (first_in ws)) d ws r

len_filled : (es : List Read) (vs : List ℕ) (ns : List PlainNode) → children_in es ≡ length ns → points_in es ≡ length vs → length (listed (filled es vs ns)) ≡ length es
len_filled [] vs ns h k = refl
len_filled (read_point a b ∷ es) [] ns h k = absurd (omega (arith, k))
len_filled (read_point a b ∷ es) (v ∷ vs) ns h k = ap suc (len_filled es vs ns h (omega (arith, k)))
len_filled (read_child a b ∷ es) vs [] h k = absurd (omega (arith, h))
len_filled (read_child a b ∷ es) vs (n ∷ ns) h k = ap suc (len_filled es vs ns (omega (arith, h)) k)

pub place_filled : (p : ℕ → Bool) (es : List Read) (vs : List ℕ) (ns : List PlainNode) → children_in es ≡ length ns → points_in es ≡ length vs
    → position_or_len (λ e. p e.addr) (listed (filled es vs ns)) ≡ position_or_len (λ r. p (read_address r)) es
place_filled p [] vs ns h k = refl
place_filled p (read_point a b ∷ es) [] ns h k = absurd (omega (arith, k))
place_filled p (read_point a b ∷ es) (v ∷ vs) ns h k = ap (λ t. cond (not (p a)) (1 + t) 0) (place_filled p es vs ns h (omega (arith, k)))
place_filled p (read_child a b ∷ es) vs [] h k = absurd (omega (arith, h))
place_filled p (read_child a b ∷ es) vs (n ∷ ns) h k = ap (λ t. cond (not (p a)) (1 + t) 0) (place_filled p es vs ns (omega (arith, h)) k)

abbrev no_entry : Entry
no_entry = record { addr = 0; body = []; what = value 0 }

abbrev body_of : Read → List ℕ
body_of (read_point a b) = b
body_of (read_child a b) = b

abbrev kind_of : Read → ℕ
kind_of (read_point a b) = 0
kind_of (read_child a b) = 1

-- an entry of points, and one of children
point_filled : (es : List Read) (vs : List ℕ) (ns : List PlainNode) (i a : ℕ) (b : List ℕ) →
    children_in es ≡ length ns → points_in es ≡ length vs → i < length es → get_or es i no_read ≡ read_point a b
    → (points_in (take i es) < length vs) ×
    (get_or (listed (filled es vs ns)) i no_entry ≡
    record { addr = a; body = b; what = value (slice_index_or vs (points_in (take i es)) 0) })
point_filled [] vs ns i a b h k l e = absurd (omega (arith, l))
point_filled (read_point a' b' ∷ es) [] ns i a b h k l e = absurd (omega (arith, k))
point_filled (read_point a' b' ∷ es) (v ∷ vs) ns zero a b h k l e =
    (omega arith, ap {B = Entry} (λ (r : Read). record { addr = read_address r; body = body_of r; what = value v }) e)
point_filled (read_point a' b' ∷ es) (v ∷ vs) ns (suc i) a b h k l e =
    let t = point_filled es vs ns i a b h (omega (arith, k)) (omega (arith, l)) e in (omega (arith, t.0), t.1)
point_filled (read_child a' b' ∷ es) vs [] i a b h k l e = absurd (omega (arith, h))
point_filled (read_child a' b' ∷ es) vs (n ∷ ns) zero a b h k l e =
    absurd (let z : kind_of (read_child a' b') ≡ kind_of (read_point a b) = ap kind_of e in omega (arith, z))
point_filled (read_child a' b' ∷ es) vs (n ∷ ns) (suc i) a b h k l e = point_filled es vs ns i a b (omega (arith, h)) k (omega (arith, l)) e

child_filled : (es : List Read) (vs : List ℕ) (ns : List PlainNode) (i a : ℕ) (b : List ℕ) (x : PlainNode) →
    children_in es ≡ length ns → points_in es ≡ length vs → i < length es → get_or es i no_read ≡ read_child a b
    → (children_in (take i es) < length ns) ×
    (x ≡ get_or ns (children_in (take i es)) x →
    get_or (listed (filled es vs ns)) i no_entry ≡ record { addr = a; body = b; what = node x })
child_filled [] vs ns i a b x h k l e = absurd (omega (arith, l))
child_filled (read_point a' b' ∷ es) [] ns i a b x h k l e = absurd (omega (arith, k))
child_filled (read_point a' b' ∷ es) (v ∷ vs) ns zero a b x h k l e =
    absurd (let z : kind_of (read_point a' b') ≡ kind_of (read_child a b) = ap kind_of e in omega (arith, z))
child_filled (read_point a' b' ∷ es) (v ∷ vs) ns (suc i) a b x h k l e = child_filled es vs ns i a b x h (omega (arith, k)) (omega (arith, l)) e
child_filled (read_child a' b' ∷ es) vs [] i a b x h k l e = absurd (omega (arith, h))
child_filled (read_child a' b' ∷ es) vs (n ∷ ns) zero a b x h k l e = (
  omega arith,
  λ f. ap {B = Entry} (λ (m : PlainNode). record { addr = a'; body = b'; what = node m }) (sym f) ∙
      ap {B = Entry} (λ (r : Read). record { addr = read_address r; body = body_of r; what = node x }) e,
)
child_filled (read_child a' b' ∷ es) vs (n ∷ ns) (suc i) a b x h k l e =
    let t = child_filled es vs ns i a b x (omega (arith, h)) k (omega (arith, l)) e in (omega (arith, t.0), t.1)

pub length-nodes : {P : Type 0} (ss : List (ChildOf P)) → length (nodes_of ss) ≡ length ss
length-nodes [] = refl
length-nodes (s ∷ ss) = ap suc (length-nodes ss)

pub get-nodes : {P : Type 0} (ss : List (ChildOf P)) (k : ℕ) (s : ChildOf P) → s ≡ get_or ss k s → s.node ≡ get_or (nodes_of ss) k s.node
get-nodes [] zero s e = refl
get-nodes [] (suc k) s e = refl
get-nodes (t ∷ ss) zero s e = ap (λ u. u.node) e
get-nodes (t ∷ ss) (suc k) s e = get-nodes ss k s e

module _ (d : ℕ) (ws : List ℕ) (ns : List PlainNode) (t : PlainNode) (is : unpacked d ws ns ≡ t) (kept : IsRecorded d ws ns) where
  pub length_is : length (entries t) ≡ length (entries_in d ws)
  length_is = ap (λ u. length (entries u)) (sym is) ∙ len_filled (entries_in d ws) (values_in d ws) ns kept.packed.whole.0 kept.packed.whole.1

  pub count_is : length (entries t) ≡ (first_in ws).entries
  count_is = length_is ∙ many d ws kept.laid.tables

  pub place_is : (p : ℕ → Bool) → position (λ e. p e.addr) (entries t) ≡ position (λ r. p (read_address r)) (entries_in d ws)
  place_is p =
      ap (λ u. position (λ e. p e.addr) (entries u)) (sym is)
      ∙ rw (
        place_filled p (entries_in d ws) (values_in d ws) ns kept.packed.whole.0 kept.packed.whole.1,
        len_filled (entries_in d ws) (values_in d ws) ns kept.packed.whole.0 kept.packed.whole.1,
      ) refl

  module _ (i : ℕ) (l : i < length (entries t)) where
    below : i < length (entries_in d ws)
    below = omega (arith, l, length_is)

    get_is : (e : Entry) → get_or (listed (filled (entries_in d ws) (values_in d ws) ns)) i no_entry ≡ e → slice_get (entries t) i ≡ Some e
    get_is e h = slice_get-get_or (entries t) i no_entry l ∙ ap Some (ap (λ u. get_or (entries u) i no_entry) (sym is) ∙ h)

    pub point_is : (c : Bool) (a : ℕ) (b : List ℕ) → c ≡ false → slice_get (entries_in d ws) i ≡ Some (read c a b)
        → (points_in (take i (entries_in d ws)) < length (values_in d ws)) ×
        (slice_get (entries t) i ≡ Some
        (record {
          addr = a;
          body = b;
          what =
              value (slice_index_or (values_in d ws) (points_in (take i (entries_in d ws))) 0);
        }))
    point_is c a b f e =
        let g : get_or (entries_in d ws) i no_read ≡ read_point a b = get_or_from_slice_get (entries_in d ws) i (read c a b) no_read e ∙ ap (λ s. read s a b) f in
        let q = point_filled (entries_in d ws) (values_in d ws) ns i a b kept.packed.whole.0 kept.packed.whole.1 below g in
        (q.0, get_is _ q.1)

    pub child_is : (c : Bool) (a : ℕ) (b : List ℕ) (x : PlainNode) → c ≡ true → slice_get (entries_in d ws) i ≡ Some (read c a b)
        → (children_in (take i (entries_in d ws)) < length ns) ×
        (x ≡ get_or ns (children_in (take i (entries_in d ws))) x →
        slice_get (entries t) i ≡ Some (record { addr = a; body = b; what = node x }))
    child_is c a b x f e =
        let g : get_or (entries_in d ws) i no_read ≡ read_child a b = get_or_from_slice_get (entries_in d ws) i (read c a b) no_read e ∙ ap (λ s. read s a b) f in
        let q = child_filled (entries_in d ws) (values_in d ws) ns i a b x kept.packed.whole.0 kept.packed.whole.1 below g in
        (q.0, λ h. get_is _ (q.1 h))

  pub node_is : AreKept d t.level 0 (entries t)
  node_is = subst (λ u. AreKept d u.level 0 (entries u)) is kept.node.rise
