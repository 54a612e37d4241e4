-- Whether an entry is a child, as its record tells.
use Rattle.std.proofs.Common.{◌≡◌, ℕ, ◌<◌, List, map, length, Bool, true, false, refl, ap, get_or, ◌∙◌}
use Rattle.std.specs.Prelude.{Some, slice_get}
use Rattle.std.proofs.lemmas.List.{get_or_default}
use Rattle.ph_model.specs.EntryEdits.{what_at}
use Rattle.ph_model.specs.Layout.{is_child}
use Rattle.ph_specs.specs.Node.{PlainNode}
use Rattle.ph_model.specs.EntryList.{entries}
use Rattle.ph_specs.specs.Record.{unpacked, entries_in}
use Rattle.ph_bits.specs.Packed.{rank_at}
use Rattle.ph_node.specs.Kinds.{is_node}
use Rattle.ph_node.specs.Recorded.{IsRecorded}
use Rattle.ph_node.proofs.Reading.{child-told, point-told, kind-here}

pub kind-is : (d e : ℕ) (ws us : List ℕ) (ns : List PlainNode) (t : PlainNode) (is : unpacked d ws ns ≡ t)
    (kept : IsRecorded d ws ns) (f : us ≡ ws) (g : e ≡ d) (i : ℕ) (l : i < length (entries t)) (c : Bool)
    → slice_get (map is_child (entries_in e us)) i ≡ Some c → c ≡ is_node (what_at (entries t) i)
kind-is d e ws us ns t is kept f g i l true h =
    let r : ℕ = rank_at true (entries_in e us) i in
    let p = child-told d e ws us ns t is kept f g i l true r h refl refl in
    ap is_node (p.1 (get_or ns r t) (get_or_default ns r t (get_or ns r t) p.0))
kind-is d e ws us ns t is kept f g i l false h =
    ap is_node (point-told d e ws us ns t is kept f g i l false (rank_at false (entries_in e us) i) h refl refl).1

pub kind-there : (d e : ℕ) (ws us : List ℕ) (ns : List PlainNode) (t : PlainNode) (is : unpacked d ws ns ≡ t)
    (kept : IsRecorded d ws ns) (f : us ≡ ws) (g : e ≡ d) (i : ℕ) (l : i < length (entries t))
    → slice_get (map is_child (entries_in e us)) i ≡ Some (is_node (what_at (entries t) i))
kind-there d e ws us ns t is kept f g i l =
    let k = kind-here d e ws us ns t is kept f g i l in k ∙ ap Some (kind-is d e ws us ns t is kept f g i l _ k)
