-- Nodes that are compared entry by entry.
use Rattle.std.proofs.Common.{◌≡◌, ℕ, ◌+◌, ◌-◌, ◌<◌, ◌≤◌, List, length, take, replicate, get_or, refl, sym, ◌∙◌, ap, subst}
use Rattle.std.specs.Prelude.{◌↔◌, ◌==◌, Bool, true, false, not, Option, Some, None, slice_get, IfSome, IsTrue}
use Rattle.std.specs.Option.{option_eq}
use Rattle.std.proofs.Math.Seq.{take-append_seam}
use Rattle.std.proofs.lemmas.List.{take_more_same}
use Rattle.std.proofs.lemmas.Option.{get_or_from_slice_get, slice_get-get_or}
use Rattle.std.proofs.lemmas.Bool.Decides.{Decides-eqb}
use denote.Ref.{Bor}
use Rattle.ph_specs.specs.Node.{PlainNode}
use Rattle.ph_model.specs.EntryList.{Entry, What, value, node, entries, node_of}
use Rattle.ph_model.specs.Lawful.{IsLawfulFrom, IsLawfulEntry, IsLawfulWhat}
use Rattle.ph_specs.specs.DelTree.{same_digits}
use Rattle.ph_model.proofs.lemmas.PointDigits.{same_digits-true}
use Rattle.ph_model.proofs.laws.EntryLists.{node_of-entries, entries-lawful}
use Rattle.ph_specs.proofs.laws.Ranked.{take-all}
use Rattle.ph_shape.specs.Bodies.{filled}
use Rattle.ph_shape.specs.Shown.{IsValue, IsChild}
use Rattle.ph_shape.proofs.Fronts.{each-at}

-- nodes with the same level, which agree in all entries, are the same
pub node-same : (a b : PlainNode) (i : ℕ) → a.level ≡ b.level → length (entries a) ≤ i → length (entries b) ≤ i → take i (entries a) ≡ take i (entries b) → a ≡ b
node-same a b i e l m t =
    let f : entries a ≡ entries b = sym (take-all i (entries a) l) ∙ t ∙ take-all i (entries b) m in
    sym (node_of-entries a) ∙ ap (λ n. node_of n (entries a)) e ∙ ap (λ es. node_of b.level es) f ∙ node_of-entries b

-- the numbers of an entry's body, in front of the zeros
pub take-filled : (dims : ℕ) (body : List ℕ) → length body ≡ dims → take dims (filled body) ≡ body
take-filled dims body h =
    ap (λ n. take n (filled body)) (sym h) ∙ take-append_seam body (replicate (16 - length body) 0)

-- a lawful node has lawful entries
pub entry-lawful : (dims : ℕ) (n : PlainNode) (i : ℕ) (d : Entry) → IsLawfulFrom dims n.level 0 n.chain →
    i < length (entries n) → IsLawfulEntry dims n.level (get_or (entries n) i d)
entry-lawful dims n i d h l =
    each-at (IsLawfulEntry dims n.level) (entries n) i d (entries-lawful dims n.level 0 n.chain h) l

-- its children are lawful, and have lower levels
pub child-lawful : (dims : ℕ) (n : PlainNode) (i : ℕ) (d : Entry) (below : Bor PlainNode) →
    IsLawfulFrom dims n.level 0 n.chain → i < length (entries n) →
    IfSome (slice_get (entries n) i) (λ e. IsChild e.what (Some below)) → (below.now.level < n.level) ×
    IsLawfulFrom dims below.now.level 0 below.now.chain
child-lawful dims n i d below h l c =
    by_what (get_or (entries n) i d).body (get_or (entries n) i d).what (entry-lawful dims n i d h l).held
    (subst (λ o. IfSome o (λ e. IsChild e.what (Some below))) (slice_get-get_or (entries n) i d l) c)
  where
    by_what : (body : List ℕ) (w : What) → IsLawfulWhat dims n.level body w → IsChild w (Some below) →
        (below.now.level < n.level) × IsLawfulFrom dims below.now.level 0 below.now.chain
    by_what body (value v) k is = absurd is
    by_what body (node m) k is =
        subst (λ (m : PlainNode). (m.level < n.level) × IsLawfulFrom dims m.level 0 m.chain) (sym is) (k.0, k.3)

-- lists that agree so far and in the next entry
pub taken-next : (xs ys : List Entry) (i : ℕ) (e : Entry) → i < length xs → i < length ys → take i xs ≡ take i ys →
    slice_get xs i ≡ Some e → IfSome (slice_get ys i) (λ f. IsTrue true ↔ (e ≡ f)) → take (i + 1) xs ≡ take (i + 1) ys
taken-next xs ys i e l m t s h =
    let at : IsTrue true ↔ (e ≡ get_or ys i e) = subst (λ o. IfSome o (λ f. IsTrue true ↔ (e ≡ f))) (slice_get-get_or ys i e m) h in
    take_more_same xs ys i e l m t (get_or_from_slice_get xs i e e s ∙ at.0 refl)

-- ---- one entry

not-true : (b : Bool) → false ≡ not b → b ≡ true
not-true true h = refl
not-true false h = h

-- bodies that were compared
pub body-same : (dims m k : ℕ) (xs ys : List ℕ) → m ≡ dims → k ≡ dims → false ≡ not (same_digits (take m xs) (take k ys)) → take dims xs ≡ take dims ys
body-same dims m k xs ys e f h =
    ap (λ n. take n xs) (sym e)
    ∙ same_digits-true (take m xs) (take k ys) (not-true (same_digits (take m xs) (take k ys)) h)
    ∙ ap (λ n. take n ys) f

-- an entry has the address and the body of the one at a place of a node
pub record IsFront (n : PlainNode) (i : ℕ) (e : Entry) : Type 0 where
  pub addr : e.addr ≡ (get_or (entries n) i e).addr
  pub body : e.body ≡ (get_or (entries n) i e).body

pub front-same : (dims : ℕ) (n : PlainNode) (i : ℕ) (e : Entry) (addr : ℕ) (body : List ℕ) →
    IsLawfulFrom dims n.level 0 n.chain → i < length (entries n) → e.addr ≡ addr →
    IfSome (slice_get (entries n) i) (λ f. addr ≡ f.addr) → e.body ≡ take dims body →
    IfSome (slice_get (entries n) i) (λ f. body ≡ filled f.body) → IsFront n i e
front-same dims n i e addr body h l ea a eb b =
    let s = slice_get-get_or (entries n) i e l in
    record {
      addr = ea ∙ subst (λ o. IfSome o (λ f. addr ≡ f.addr)) s a;
      body =
          eb
          ∙ ap (λ t. take dims t) (subst (λ o. IfSome o (λ f. body ≡ filled f.body)) s b)
          ∙ take-filled dims (get_or (entries n) i e).body (entry-lawful dims n i e h l).body.0;
    }

entry-same : (e f : Entry) → e.addr ≡ f.addr → e.body ≡ f.body → e.what ≡ f.what → e ≡ f
entry-same e f a b w =
    ap {B = Entry} (λ t. record { addr = t; body = e.body; what = e.what }) a
    ∙ ap {B = Entry} (λ t. record { addr = f.addr; body = t; what = e.what }) b
    ∙ ap {B = Entry} (λ t. record { addr = f.addr; body = f.body; what = t }) w

-- where address and body are the same, what the entries hold decides
by-what : (n : PlainNode) (i : ℕ) (e : Entry) (same : Bool) → i < length (entries n) → IsFront n i e →
    (IsTrue same ↔ (e.what ≡ (get_or (entries n) i e).what)) → IfSome (slice_get (entries n) i) (λ f. IsTrue same ↔ (e ≡ f))
by-what n i e same l front h =
    let f = get_or (entries n) i e in
    subst (λ o. IfSome o (λ f. IsTrue same ↔ (e ≡ f))) (sym (slice_get-get_or (entries n) i e l))
    (λ t. entry-same e f front.addr front.body (h.0 t), λ q. h.1 (ap (λ (x : Entry). x.what) q))

abbrev value_in : What → ℕ
value_in (value v) = v
value_in (node n) = 0

abbrev node_in : PlainNode → What → PlainNode
node_in other (value v) = other
node_in other (node n) = n

-- a point entry is decided by the values
pub value-same : (n : PlainNode) (i : ℕ) (e : Entry) (v : ℕ) (shown : Option ℕ) (same : Bool) →
    i < length (entries n) → IsFront n i e → e.what ≡ value v →
    IfSome (slice_get (entries n) i) (λ f. IsChild f.what None) →
    IfSome (slice_get (entries n) i) (λ f. IsValue f.what shown) → same ≡ option_eq (λ x y. x == y) shown (Some v) →
    IfSome (slice_get (entries n) i) (λ f. IsTrue same ↔ (e ≡ f))
value-same n i e v shown same l front w c s b =
    let at = slice_get-get_or (entries n) i e l in
    by-what n i e same l front
    (decided (get_or (entries n) i e).what (subst (λ o. IfSome o (λ f. IsChild f.what None)) at c) (subst (λ o. IfSome o (λ f. IsValue f.what shown)) at s))
  where
    decided : (h : What) → IsChild h None → IsValue h shown → IsTrue same ↔ (e.what ≡ h)
    decided (node m) k is = absurd k
    decided (value u) k is =
        let answer : same ≡ (u == v) = b ∙ ap (λ o. option_eq (λ x y. x == y) o (Some v)) is in
        (λ t. w ∙ ap value (sym ((Decides-eqb u v).0 (sym answer ∙ t))), λ q. answer ∙ (Decides-eqb u v).1 (sym (ap value_in (sym w ∙ q))))

-- a child entry is decided by the children
pub child-same : (n : PlainNode) (i : ℕ) (e : Entry) (a : PlainNode) (below : Bor PlainNode) (same : Bool) →
    i < length (entries n) → IsFront n i e → e.what ≡ node a →
    IfSome (slice_get (entries n) i) (λ f. IsChild f.what (Some below)) → (IsTrue same ↔ (a ≡ below.now)) →
    IfSome (slice_get (entries n) i) (λ f. IsTrue same ↔ (e ≡ f))
child-same n i e a below same l front w c h =
    by-what n i e same l front
    (decided (get_or (entries n) i e).what (subst (λ o. IfSome o (λ f. IsChild f.what (Some below))) (slice_get-get_or (entries n) i e l) c))
  where
    decided : (g : What) → IsChild g (Some below) → IsTrue same ↔ (e.what ≡ g)
    decided (value v) is = absurd is
    decided (node m) is = (λ t. w ∙ ap node (h.0 t ∙ is), λ q. h.1 (ap (node_in a) (sym w ∙ q) ∙ sym is))
