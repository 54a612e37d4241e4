-- An edit of a node as one of its record, and how long that is then.
use Rattle.std.proofs.Common.{◌≡◌, ℕ, ◌+◌, ◌<◌, List, length, refl, ap, sym, ◌∙◌, arith}
use Rattle.std.proofs.lemmas.List.{length-map}
use Rattle.ph_model.specs.Layout.{AreRising}
use Rattle.ph_specs.specs.Node.{PlainNode, Flat}
use Rattle.ph_model.specs.EntryList.{Entry, entries}
use Rattle.ph_specs.specs.Pack.{record_of}
use Rattle.ph_specs.specs.Record.{first_in, unpacked}
use Rattle.ph_bits.specs.Edits.{edited}
use Rattle.ph_bits.specs.declared.edits.Edit.{Edit}
use Rattle.ph_node.specs.OneEdit.{IsEdit, edit_flats, flat_of, flats_of}
use Rattle.ph_node.specs.RecordEdit.{IsRecordEdit, record_with}
use Rattle.ph_node.specs.Recorded.{IsRecorded}
use Rattle.ph_node.proofs.Lengths.{length-by_points}
use Rattle.ph_node.proofs.Lists.{Renewed, rise_new, points_new, rising}
use Rattle.ph_node.proofs.OldEdits.{source_at, count_at, moved}
use Rattle.ph_node.proofs.OldNodes.{IsOld, old}
use Rattle.ph_node.proofs.Reading.{front-there}
use Rattle.ph_node.proofs.Spliced.{length-edited}

module _ (d : ℕ) (ws : List ℕ) (ns : List PlainNode) (t : PlainNode) (is : unpacked d ws ns ≡ t) (kept : IsRecorded d ws ns) (e : Edit) where
  pub record_edit : IsEdit d t e → IsRecordEdit d ws e
  record_edit h =
      let o = old d ws ns t is kept in
      record {
        source = source_at d ws ws ns t o refl;
        within = omega (arith, h.within, count_at d ws ws ns t o refl);
        few = h.few;
        address = h.address;
        front = h.front ∙ sym (front-there d d ws ws ns t is kept refl refl e.entry.addr);
        behind = h.behind ∙ sym (front-there d d ws ws ns t is kept refl refl (e.entry.addr + 1));
        rise = moved d ws ws ns t o refl e (first_in ws).level refl (λ l fs. AreRising d l 0 fs) h.rise;
        padded = h.padded;
      }

  pub record_is : record_with d ws e ≡ record_of d t.level (edit_flats d t e)
  record_is =
      sym (moved d ws ws ns t (old d ws ns t is kept) refl e (first_in ws).level refl (λ l fs. record_of d t.level (edit_flats d t e) ≡ record_of d l fs) refl)

-- where one entry is changed, the record is shorter by as many words as there are children more
module _ (d : ℕ) (ws : List ℕ) (ns : List PlainNode) (t : PlainNode) (o : IsOld d ws ns t) (i : ℕ) (x : Flat)
    (ms : List PlainNode) (es : List Entry) (l : i < length (entries t))
    (r : Renewed d t.level (edited i 1 1 x (flats_of t)) ms es) where
  pub length-changed : length (record_of d t.level (edited i 1 1 x (flats_of t))) + length ms ≡ length ws + length ns
  length-changed =
      let fs : List Flat = edited i 1 1 x (flats_of t) in
      let n : length (flats_of t) ≡ length (entries t) = length-map (entries t) flat_of in
      let a : length fs ≡ length (flats_of t) = omega (arith, n, l, length-edited i 1 1 x (flats_of t) (omega (arith, l, n))) in
      let b = length-by_points d t.level fs (flats_of t) (rise_new d t.level fs ms es r) (rising d t.level 0 (entries t) o.kept.rise) a in
      omega (arith, a, b, n, points_new d t.level fs ms es r, o.points, ap (λ (u : List ℕ). length u) o.words)
