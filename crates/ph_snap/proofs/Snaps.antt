-- The bytes of a whole snapshot: its header, and behind it the nodes of the tree.
use Rattle.std.proofs.Common.{◌≡◌, ℕ, ◌+◌, ◌≤◌, List, [], ◌∷◌, ◌++◌, length, Bool, refl, ap, sym, subst, ◌∙◌, append-nil, length-append, arith}
use Rattle.std.specs.Prelude.{Option, Some, None, is_some, if◌then◌else◌}
use Rattle.std.specs.Borrow.{Bor}
use Rattle.std.specs.Option.{option_copied}
use Rattle.ph_io.specs.Giving.{Taken, Given}
use Rattle.ph_io.specs.Writing.{WritesFront}
use Rattle.ph_specs.specs.declared.Kind.{Kind}
use Rattle.ph_specs.specs.Node.{PlainNode, nodes}
use Rattle.ph_specs.specs.Shape.{shape}
use Rattle.ph_specs.specs.Snapshot.{snap, kind_byte, magic, root_byte, records}
use Rattle.ph_specs.specs.Table.{Row, IsTable}
use Rattle.ph_specs.specs.WorkSets.{all_nodes}
use Rattle.ph_model.proofs.laws.OneToOne.{snap-one}
use Rattle.ph_tree.proofs.NodeComparisons.{length-nodes}
use Rattle.ph_snap.specs.Saving.{saved, Passed}
use Rattle.ph_snap.proofs.Passing.{passed-both, passed-front, passed-given}

root-flag : (root : Option (Bor PlainNode)) → root_byte (option_copied root) ≡ (if is_some root then 1 else 0)
root-flag None = refl
root-flag (Some n) = refl

module _ (kind : Kind) (dims w : ℕ) (table : List Row) (root : Option (Bor PlainNode)) (flag : Bool) (bits : ℕ)
    (header : List ℕ) (b : bits ≡ w) (s : option_copied root ≡ shape w table) (f : flag ≡ is_some root)
    (h : header ≡ magic 2 ++ (kind_byte kind ∷ dims ∷ bits ∷ (if flag then 1 else 0) ∷ [])) where
  pub snap-saved : snap kind dims w table ≡ header ++ saved dims (nodes (option_copied root))
  unfolding saved
  snap-saved =
      ap (λ t. magic 2 ++ (kind_byte kind ∷ dims ∷ w ∷ root_byte t ∷ []) ++ records dims t) (sym s)
      ∙ ap (λ r. magic 2 ++ (kind_byte kind ∷ dims ∷ w ∷ r ∷ []) ++ records dims (option_copied root)) (root-flag root ∙ ap (λ t. if t then 1 else 0) (sym f))
      ∙ ap (λ v. magic 2 ++ (kind_byte kind ∷ dims ∷ v ∷ (if flag then 1 else 0) ∷ []) ++ records dims (option_copied root)) (sym b)
      ∙ ap (λ xs. xs ++ records dims (option_copied root)) (sym h)

  pub snap-size : (size : ℕ) → size ≡ length (saved dims (nodes (option_copied root))) → 8 + size ≡ length (snap kind dims w table)
  snap-size size k =
      let behind : List ℕ = saved dims (nodes (option_copied root)) in
      let all : length (snap kind dims w table) ≡ length header + length behind = ap length snap-saved ∙ length-append header behind in
      let eight : length header ≡ 8 = ap length h in
      omega (arith, k, all, eight)

-- the tree has the nodes of its table
pub node-count : (dims w : ℕ) (table : List Row) (root : Option (Bor PlainNode)) →
    option_copied root ≡ shape w table → length (nodes (option_copied root)) ≡ length (all_nodes w dims table)
node-count dims w table root s =
    ap (λ t. length (nodes t)) s ∙ sym (length-nodes w dims (shape w table))

-- a header and what is behind it, by way of a block in which nothing waited
module _ (a b c : Taken) (u v header behind whole : List ℕ) (empty : u ≡ []) (split : whole ≡ header ++ behind) (h : Passed a u b v header) where
  whole-is : u ++ (header ++ behind) ≡ whole
  whole-is = ap (λ xs. xs ++ (header ++ behind)) empty ∙ sym split

  pub front-behind : WritesFront b c (v ++ behind) → WritesFront a c whole
  front-behind k =
      subst (λ xs. WritesFront a c xs) whole-is (passed-front a b c u v header behind [] (header ++ behind) (ap (λ xs. header ++ xs) (sym (append-nil behind))) h k)

  module _ (d : Taken) (w : List ℕ) (k : Passed b v c w behind) where
    pub front-whole : WritesFront c d w → WritesFront a d whole
    front-whole l =
        let all : header ++ behind ≡ (header ++ behind) ++ ([] ++ []) = sym (append-nil (header ++ behind)) in
        let rest : WritesFront c d (w ++ []) = subst (λ xs. WritesFront c d xs) (sym (append-nil w)) l in
        subst (λ xs. WritesFront a d xs) whole-is
        (passed-front a c d u w (header ++ behind) [] [] (header ++ behind) all
        (passed-both a b c u v w header behind h k) rest)

    pub given-whole : Given c d w → Given a d whole
    given-whole l =
        subst (λ xs. Given a d xs) whole-is (passed-given a c d u w (header ++ behind) (passed-both a b c u v w header behind h k) l)

-- the snapshot is that of no other kind, dimensions, width or table
pub snap-unique : (kind : Kind) (dims w : ℕ) (table : List Row) → 1 ≤ w → w ≤ 62 → dims ≤ 16 → IsTable w dims table →
    (m : Kind) (other width : ℕ) (t : List Row) → IsTable width other t →
    snap kind dims w table ≡ snap m other width t → (kind ≡ m) × (dims ≡ other) × (w ≡ width) × (table ≡ t)
snap-unique kind dims w table p l d h m other width t k q = snap-one kind m dims other w width table t p l d h k q
