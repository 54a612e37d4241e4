-- The bytes of the nodes of a tree.
use Rattle.std.proofs.Common.{◌≡◌, ℕ, ◌+◌, ◌*◌, ◌<◌, ◌≤◌, List, [], ◌∷◌, ◌++◌, length, take, drop, get_or, refl, ap, sym}
use Rattle.std.proofs.Common.{subst, ◌∙◌, append_assoc, append-nil, length-append, take-append-drop, arith}
use Rattle.std.specs.Prelude.{Some, Result, Ok, Err}
use Rattle.std.proofs.lemmas.List.Concat.{flat_map-append}
use Rattle.ph_io.specs.Giving.{Taken}
use Rattle.ph_io.specs.Writing.{WritesFront}
use Rattle.ph_io.proofs.Appending.{given_none}
use Rattle.ph_specs.specs.Digits.{bytes_of}
use Rattle.ph_specs.specs.Node.{PlainNode, nodes, nodes_below}
use Rattle.ph_specs.specs.Pack.{pack}
use Rattle.ph_specs.specs.Snapshot.{packs}
use Rattle.ph_model.proofs.lemmas.ByteWords.{bytes-append, length-bytes}
use Rattle.ph_model.proofs.laws.OneToOne.{packs-append}
use Rattle.ph_specs.proofs.laws.Ranked.{take-all}
use Rattle.ph_node.specs.declared.node.ChildOf.{ChildOf}
use Rattle.ph_tree.proofs.Sizes.{trees, trees-more}
use Rattle.ph_snap.specs.Saving.{saved, Passed, VisitsAll}
use Rattle.ph_snap.proofs.Passing.{front-more, passed-both, passed-front}

saved-append : (dims : ℕ) (xs ys : List PlainNode) → saved dims (xs ++ ys) ≡ saved dims xs ++ saved dims ys
unfolding saved
saved-append dims xs ys = ap bytes_of (packs-append dims xs ys) ∙ bytes-append (packs dims xs) (packs dims ys)

saved-one : (dims : ℕ) (n : PlainNode) (words : List ℕ) → words ≡ pack dims n → bytes_of words ≡ saved dims (n ∷ [])
unfolding saved
saved-one dims n words e = ap bytes_of (e ∙ sym (append-nil (pack dims n)))

-- ---- no node

pub none-passed : (dims : ℕ) (a : Taken) (waits : List ℕ) → Passed a waits a waits (saved dims [])
unfolding saved
none-passed dims a waits = record { gave = []; given = given_none a; all = sym (append-nil waits) }

pub none-size : (dims : ℕ) → 0 ≡ length (saved dims [])
unfolding saved
none-size dims = refl

-- ---- the record of a node

module _ (dims : ℕ) (n : PlainNode) (words : List ℕ) (e : words ≡ pack dims n) where
  pub node-size : 8 * length words ≡ length (saved dims (n ∷ []))
  node-size = sym (length-bytes words) ∙ ap length (saved-one dims n words e)

  pub node-passed : (a b : Taken) (u v : List ℕ) → Passed a u b v (bytes_of words) → Passed a u b v (saved dims (n ∷ []))
  node-passed a b u v h = subst (λ xs. Passed a u b v xs) (saved-one dims n words e) h

  pub node-front : (a b : Taken) (u : List ℕ) → WritesFront a b (u ++ bytes_of words) → WritesFront a b (u ++ saved dims (nodes (Some n)))
  node-front a b u h =
      let below : List ℕ = saved dims (nodes_below n.chain) in
      let all : (u ++ bytes_of words) ++ below ≡ u ++ saved dims (nodes (Some n)) =
      append_assoc u (bytes_of words) below ∙ ap (λ xs. u ++ (xs ++ below)) (saved-one dims n words e) ∙
      ap (λ xs. u ++ xs) (sym (saved-append dims (n ∷ []) (nodes_below n.chain))) in
      subst (λ xs. WritesFront a b xs) all (front-more a b (u ++ bytes_of words) below h)

-- ---- the nodes below a node

module _ (dims : ℕ) (n : PlainNode) {P : Type 0} (ss : List (ChildOf P)) (i : ℕ) where
  module _ (s : ChildOf P) (l : i < length ss) (e : s ≡ get_or ss i s) where
    pub child-passed : (a b c : Taken) (u v w : List ℕ) → Passed a u b v (saved dims (n ∷ trees (take i ss))) →
        Passed b v c w (saved dims (nodes (Some s.node))) → Passed a u c w (saved dims (n ∷ trees (take (i + 1) ss)))
    child-passed a b c u v w h k =
        let xs : List PlainNode = n ∷ trees (take i ss) in
        let ys : List PlainNode = nodes (Some s.node) in
        let both : Passed a u c w (saved dims (xs ++ ys)) = rw (saved-append dims xs ys) (passed-both a b c u v w (saved dims xs) (saved dims ys) h k) in
        subst (λ ns. Passed a u c w (saved dims (n ∷ ns))) (sym (trees-more ss i s l e)) both

    pub child-size : (x y : ℕ) → x ≡ length (saved dims (n ∷ trees (take i ss))) →
        y ≡ length (saved dims (nodes (Some s.node))) → x + y ≡ length (saved dims (n ∷ trees (take (i + 1) ss)))
    child-size x y h k =
        let xs : List PlainNode = n ∷ trees (take i ss) in
        let ys : List PlainNode = nodes (Some s.node) in
        let both : length (saved dims (xs ++ ys)) ≡ length (saved dims xs) + length (saved dims ys) =
        ap length (saved-append dims xs ys) ∙ length-append (saved dims xs) (saved dims ys) in
        let more : length (saved dims (n ∷ trees (take (i + 1) ss))) ≡ length (saved dims (xs ++ ys)) = ap (λ ns. length (saved dims (n ∷ ns))) (trees-more ss i s l e) in
        omega (arith, h, k, both, more)

    pub child-front : (a b c : Taken) (u v : List ℕ) → trees ss ≡ nodes_below n.chain →
        Passed a u b v (saved dims (n ∷ trees (take i ss))) →
        WritesFront b c (v ++ saved dims (nodes (Some s.node))) → WritesFront a c (u ++ saved dims (nodes (Some n)))
    child-front a b c u v below h k =
        let xs : List PlainNode = n ∷ trees (take i ss) in
        let ys : List PlainNode = nodes (Some s.node) in
        let zs : List PlainNode = trees (drop (i + 1) ss) in
        let rest : trees ss ≡ trees (take i ss) ++ (ys ++ zs) =
        ap trees (sym (take-append-drop (i + 1) ss)) ∙ flat_map-append (λ x. nodes (Some x.node)) (take (i + 1) ss)
        (drop (i + 1) ss) ∙ ap (λ ns. ns ++ zs) (trees-more ss i s l e) ∙ append_assoc (trees (take i ss)) ys zs in
        let whole : saved dims (nodes (Some n)) ≡ saved dims xs ++ (saved dims ys ++ saved dims zs) =
        ap (λ ns. saved dims (n ∷ ns)) (sym below ∙ rest) ∙ saved-append dims xs (ys ++ zs) ∙ ap (λ t. saved dims xs ++ t) (saved-append dims ys zs) in
        passed-front a b c u v (saved dims xs) (saved dims ys) (saved dims zs) (saved dims (nodes (Some n))) whole h k

  module _ (l : length ss ≤ i) (below : trees ss ≡ nodes_below n.chain) where
    pub all-trees : trees (take i ss) ≡ nodes_below n.chain
    all-trees = ap trees (take-all i ss l) ∙ below

    pub all-passed : (a b : Taken) (u v : List ℕ) → Passed a u b v (saved dims (n ∷ trees (take i ss))) → Passed a u b v (saved dims (nodes (Some n)))
    all-passed a b u v h = subst (λ ns. Passed a u b v (saved dims (n ∷ ns))) all-trees h

    pub all-size : (x : ℕ) → x ≡ length (saved dims (n ∷ trees (take i ss))) → x ≡ length (saved dims (nodes (Some n)))
    all-size x h = h ∙ ap (λ ns. length (saved dims (n ∷ ns))) all-trees

-- ---- the nodes that were visited

-- a call that fails may have visited some of them alone
pub stopped : {T E : Type 0} {count before later : ℕ} {r : Result T E} {e : E} → r ≡ Err e → before ≤ later → later ≤ before + count →
    VisitsAll count before later r
stopped is l m = record { most = m; all = rw is tt; kept = l }

pub visited : {T E : Type 0} {count before later : ℕ} {x : T} → later ≡ before + count → VisitsAll {E = E} count before later (Ok x)
visited e = record { most = omega (arith, e); all = e; kept = omega (arith, e) }
