-- An entry that is put in place of another at its address, as an edit of a node and of its record.
use Rattle.std.proofs.Common.{◌≡◌, ℕ, ◌<◌, List, length, ap, sym, ◌∙◌, subst, arith, Bool}
use Rattle.ph_model.specs.Layout.{AreRising}
use Rattle.ph_specs.specs.Node.{PlainNode}
use Rattle.ph_model.specs.EntryList.{entries}
use Rattle.ph_specs.specs.Pack.{record_of}
use Rattle.ph_specs.specs.Record.{unpacked}
use Rattle.ph_bits.specs.Packed.{IsPadded}
use Rattle.ph_bits.specs.declared.edits.Edit.{Edit}
use Rattle.ph_node.specs.Merge.{addr_at}
use Rattle.ph_node.specs.OneEdit.{IsEdit, edit_flats}
use Rattle.ph_node.specs.RecordEdit.{IsRecordEdit, record_with}
use Rattle.ph_node.specs.Recorded.{IsRecorded}
use Rattle.ph_node.proofs.Addressed.{address_low, front_at, behind_at}
use Rattle.ph_node.proofs.NodeEdits.{record_edit, record_is}
use Rattle.ph_node.proofs.OldNodes.{IsOld, old}

-- what a call writes for it
abbrev pub put_edit : ℕ → ℕ → Bool → List ℕ → ℕ → Edit
put_edit i a child body v =
    record { place = i; less = 1; more = 1; entry = record { addr = a; child = child; body = body; rank = 0 }; value = v }

-- the dimensions and the words may be those of the node by equations only
module _ (d : ℕ) (ws : List ℕ) (ns : List PlainNode) (t : PlainNode) (is : unpacked d ws ns ≡ t) (kept : IsRecorded d ws ns)
    (n : ℕ) (us : List ℕ) (h : n ≡ d) (f : us ≡ ws) where
  pub record_put : (e : Edit) → record_with n us e ≡ record_of d t.level (edit_flats d t e)
  record_put e = ap (λ k. record_with k us e) h ∙ ap (λ u. record_with d u e) f ∙ record_is d ws ns t is kept e

  pub put_record : (i a : ℕ) (child : Bool) (body : List ℕ) (v : ℕ) → i < length (entries t) → addr_at (entries t) i ≡ a →
      AreRising d t.level 0 (edit_flats d t (put_edit i a child body v)) → IsPadded d body →
      IsRecordEdit n us (put_edit i a child body v)
  put_record i a child body v l e rise padded =
      let o : IsOld d ws ns t = old d ws ns t is kept in
      let q : IsEdit d t (put_edit i a child body v) = record {
        within = omega (arith, l);
        few = omega arith;
        some = o.kept.some;
        address = address_low d ws ns t o i l a e;
        front = front_at d ws ns t o i l a e;
        behind = behind_at d ws ns t o i l a e;
        rise = rise;
        padded = padded;
      } in
      subst (λ k. IsRecordEdit k us (put_edit i a child body v)) (sym h)
      (subst (λ u. IsRecordEdit d u (put_edit i a child body v)) (sym f) (record_edit d ws ns t is kept (put_edit i a child body v) q))
