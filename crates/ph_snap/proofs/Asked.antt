-- A snapshot whose header says what is asked for.
use Rattle.std.proofs.Common.{◌≡◌, ℕ, ◌≤◌, sym, ◌∙◌, ap, subst, arith, List, length, drop, Bool, true, false}
use Rattle.std.specs.Prelude.{Some, None}
use Rattle.ph_specs.specs.declared.Kind.{Kind}
use Rattle.ph_model.specs.Digits.{IsBytes}
use Rattle.ph_specs.specs.Load.{body_fault, load_fault}
use Rattle.ph_specs.specs.Node.{PlainNode}
use Rattle.ph_specs.specs.SavedTable.{first_node, read_nodes, root_flag}
use Rattle.ph_snap.specs.Faults.{IsLoadFault}
use Rattle.ph_snap.specs.Headers.{flag_byte, IsHeader}
use Rattle.ph_snap.specs.declared.fault.LoadFault.{LoadFault}
use Rattle.ph_snap.specs.declared.header.Header.{Header}
use Rattle.ph_snap.proofs.Headings.{asked-fault, header-width}
use Rattle.ph_snap.proofs.Wholes.{IsRootOf, empty-none, read-zero, root-is}

module _ {kind : Kind} {width dims : ℕ} {bytes : List ℕ} {h : Header} (k : IsHeader bytes h)
    (asked : (h.kind ≡ kind) × (h.dims ≡ dims) × (h.width ≡ width)) where
  low : 1 ≤ width
  low = omega (arith, (header-width bytes h k).0, asked.2)

  -- the fault of what stands behind the header, by whether there is a root
  behind : {root : Bool} → h.root ≡ root → load_fault kind dims width bytes ≡ body_fault kind width dims (flag_byte root) bytes
  behind e = asked-fault bytes h k kind dims width asked.0 asked.1 asked.2 ∙ ap (λ r. body_fault kind width dims (flag_byte r) bytes) e

  flag-is : {root : Bool} → h.root ≡ root → root_flag bytes ≡ flag_byte root
  flag-is e = k.root_is ∙ ap flag_byte e

  -- no root, and nothing behind the header
  pub empty-is : IsBytes bytes → h.root ≡ false → length bytes ≤ 8 → IsRootOf kind width dims bytes None
  empty-is b e l =
      root-is kind width dims bytes None low b (behind e ∙ empty-none kind width dims bytes l)
      (sym (ap (λ n. first_node (read_nodes (length bytes) dims n (drop 8 bytes)).0) (flag-is e) ∙
      ap (λ p. first_node p.0) (read-zero (length bytes) dims (drop 8 bytes))))

  -- a root, at the width as the code has it
  module _ (e : h.root ≡ true) {bits : ℕ} (same : bits ≡ width) where
    pub root-asked : {n : PlainNode} → IsBytes bytes → body_fault kind bits dims 1 bytes ≡ None →
        Some n ≡ first_node (read_nodes (length bytes) dims 1 (drop 8 bytes)).0 → IsRootOf kind width dims bytes (Some n)
    root-asked {n} b none tree =
        root-is kind width dims bytes (Some n) low b (behind e ∙ subst (λ w. body_fault kind w dims 1 bytes ≡ None) same none)
        (tree ∙ sym (ap (λ n. first_node (read_nodes (length bytes) dims n (drop 8 bytes)).0) (flag-is e)))

    pub body-asked : (f : LoadFault) → IsLoadFault (body_fault kind bits dims 1 bytes) f → IsLoadFault (load_fault kind dims width bytes) f
    body-asked f fault =
        subst (λ o. IsLoadFault o f) (sym (behind e)) (subst (λ w. IsLoadFault (body_fault kind w dims 1 bytes) f) same fault)
