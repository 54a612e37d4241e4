-- The fault of a whole snapshot, by its header and its root.
use Rattle.std.proofs.Common.{◌≡◌, ℕ, zero, suc, ◌<◌, ◌≤◌, refl, sym, ◌∙◌, ap, subst, arith, List, [], ◌∷◌, length, drop}
use Rattle.std.specs.Prelude.{Option, Some, None, Result, Ok}
use Rattle.std.proofs.lemmas.List.{length-drop}
use Rattle.ph_specs.specs.declared.Kind.{Kind}
use Rattle.ph_specs.specs.Node.{PlainNode}
use Rattle.ph_specs.specs.SavedTable.{first_node, read_nodes, root_flag, read_snapshot}
use Rattle.ph_specs.specs.Load.{bad_extra, body_fault, records_fault, load_fault, root}
use Rattle.ph_model.specs.Digits.{IsBytes}
use Rattle.ph_specs.specs.TreeRows.{rows}
use Rattle.ph_model.specs.Lawful.{IsLawful}
use Rattle.ph_specs.specs.Node.{nodes}
use Rattle.ph_specs.specs.Reply.{Reply}
use Rattle.ph_specs.specs.Shape.{shape}
use Rattle.ph_specs.specs.SnapshotOf.{IsSnapshotOf}
use Rattle.ph_specs.specs.Table.{Row, IsTable}
use Rattle.ph_specs.specs.WorkSets.{all_nodes}
use Rattle.ph_model.proofs.laws.Snapshots.{snapshot-from_none, tree-from_snapshot, read-from_snapshot, table-from_snapshot}
use Rattle.ph_model.proofs.laws.TableShape.{table-shape}
use Rattle.ph_tree.proofs.NodeComparisons.{length-nodes}
use Rattle.ph_snap.specs.Faults.{IsLoadFault, faults, HaveFault, HaveNone}
use Rattle.ph_snap.specs.Reads.{ReadAs}
use Rattle.ph_snap.specs.declared.fault.LoadFault.{LoadFault}
use Rattle.ph_snap.proofs.RecordFaults.{same-faults}

-- ---- behind the header

behind : (kind : Kind) (width dims : ℕ) (bytes : List ℕ) → body_fault kind width dims 1 bytes ≡ faults kind width dims (root ∷ []) 8 (drop 8 bytes)
behind kind width dims bytes = same-faults (length bytes) (length (drop 8 bytes)) kind width dims (root ∷ []) 8
    (drop 8 bytes) (omega (arith, length-drop 8 bytes)) (omega arith)

pub root-fault : (kind : Kind) (width dims : ℕ) (bytes : List ℕ) (f : LoadFault) →
    HaveFault kind width dims (root ∷ []) 8 bytes f → IsLoadFault (body_fault kind width dims 1 bytes) f
root-fault kind width dims bytes f h = subst (λ o. IsLoadFault o f) (sym (behind kind width dims bytes)) (h [])

no-more : (kind : Kind) (width dims n : ℕ) (rest : List ℕ) → length rest ≡ 0 → faults kind width dims [] n rest ≡ None
no-more kind width dims n [] h = refl
no-more kind width dims n (x ∷ rest) h = absurd (omega arith)

more : (kind : Kind) (width dims n : ℕ) (rest : List ℕ) → 0 < length rest → faults kind width dims [] n rest ≡ Some (bad_extra n)
more kind width dims n [] h = absurd (omega arith)
more kind width dims n (x ∷ rest) h = refl

pub root-none : (kind : Kind) (width dims : ℕ) (bytes : List ℕ) (end : ℕ) →
    HaveNone kind width dims (root ∷ []) 8 bytes end → length bytes ≤ end → body_fault kind width dims 1 bytes ≡ None
root-none kind width dims bytes end h l = behind kind width dims bytes ∙ h [] ∙ no-more kind width dims end (drop end bytes) (omega (arith, length-drop end bytes))

pub root-extra : (kind : Kind) (width dims : ℕ) (bytes : List ℕ) (end : ℕ) →
    HaveNone kind width dims (root ∷ []) 8 bytes end → end < length bytes →
    body_fault kind width dims 1 bytes ≡ Some (bad_extra end)
root-extra kind width dims bytes end h l = behind kind width dims bytes ∙ h [] ∙ more kind width dims end (drop end bytes) (omega (arith, length-drop end bytes))

-- no root, and nothing behind the header
pub empty-none : (kind : Kind) (width dims : ℕ) (bytes : List ℕ) → length bytes ≤ 8 → body_fault kind width dims 0 bytes ≡ None
empty-none kind width dims bytes l = nothing (length bytes) (drop 8 bytes) (omega (arith, length-drop 8 bytes, l))
  where
    nothing : (most : ℕ) (rest : List ℕ) → length rest ≡ 0 → records_fault most kind width dims [] 8 rest ≡ None
    nothing zero [] h = refl
    nothing (suc most) [] h = refl
    nothing most (x ∷ rest) h = absurd (omega (arith, h))

pub read-zero : (most dims : ℕ) (bytes : List ℕ) → read_nodes most dims 0 bytes ≡ ([], bytes)
read-zero zero dims bytes = refl
read-zero (suc most) dims bytes = refl

pub root-read : (dims : ℕ) (bytes rest : List ℕ) (n : PlainNode) → ReadAs dims (drop 8 bytes) (n ∷ []) rest →
    Some n ≡ first_node (read_nodes (length bytes) dims 1 (drop 8 bytes)).0
root-read dims bytes rest n h =
    let whole : read_nodes (length bytes) dims 1 (drop 8 bytes) ≡ (n ∷ [], rest) =
    h 0 ([], rest) (λ m k. read-zero m dims rest) (length bytes) (omega (arith, length-drop 8 bytes)) in
    sym (ap (λ (p : List PlainNode × List ℕ). first_node p.0) whole)

-- ---- the table

-- what a root is of which bytes without a fault are read
pub record IsRootOf (kind : Kind) (width dims : ℕ) (bytes : List ℕ) (tree : Option PlainNode) : Type 0 where
  pub lawful : IsLawful width dims tree
  pub snapshot : IsSnapshotOf kind dims width bytes (rows width dims tree)
  pub read : read_snapshot kind dims width bytes ≡ Ok (rows width dims tree)
  pub nodes_are : length (all_nodes width dims (rows width dims tree)) ≡ length (nodes tree)

pub root-is : (kind : Kind) (width dims : ℕ) (bytes : List ℕ) (tree : Option PlainNode) → 1 ≤ width → IsBytes bytes →
    load_fault kind dims width bytes ≡ None →
    tree ≡ first_node (read_nodes (length bytes) dims (root_flag bytes) (drop 8 bytes)).0 → IsRootOf kind width dims bytes tree
root-is kind width dims bytes tree low b h e =
    let s : (T : List Row) × IsSnapshotOf kind dims width bytes T = snapshot-from_none kind dims width bytes b h in
    let T : List Row = s.0 in
    let k : IsTable width dims T = table-from_snapshot kind dims width bytes T s.1 in
    let t : (IsLawful width dims (shape width T)) × (rows width dims (shape width T) ≡ T) = table-shape width dims T low k in
    let r : tree ≡ shape width T = e ∙ tree-from_snapshot kind dims width bytes T s.1 in
    let q : T ≡ rows width dims tree = sym t.1 ∙ ap (rows width dims) (sym r) in
    record {
      lawful = subst (IsLawful width dims) (sym r) t.0;
      snapshot = subst (IsSnapshotOf kind dims width bytes) q s.1;
      read = read-from_snapshot kind dims width bytes T s.1 ∙ ap {B = Result (List Row) Reply} Ok q;
      nodes_are = ap (λ x. length (all_nodes width dims x)) (sym q) ∙ length-nodes width dims (shape width T) ∙ ap (λ x. length (nodes x)) (sym r);
    }
