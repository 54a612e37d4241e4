-- A point more or less in a node, as an edit of its record.
use Rattle.std.proofs.Common.{◌≡◌, ℕ, ◌+◌, ◌<◌, ◌≤◌, ◌^◌, List, length, map, take, true, false, arith, refl, ap, sym, ◌∙◌, subst}
use Rattle.std.specs.Prelude.{Option, Some, None, MatchOption, position, slice_get}
use Rattle.std.proofs.lemmas.List.{drop-replicate}
use Rattle.ph_model.specs.EntryEdits.{what_at, has_address, point_entry, inserted, without}
use Rattle.ph_model.specs.Layout.{is_child}
use Rattle.ph_specs.specs.Node.{PlainNode, Flat}
use Rattle.ph_model.specs.EntryList.{What, value, node, node_of, entries}
use Rattle.ph_specs.specs.Pack.{pack, record_of}
use Rattle.ph_specs.specs.Record.{unpacked, entries_in, first_in}
use Rattle.ph_model.proofs.laws.EntryEdits.{absent-by}
use Rattle.ph_model.proofs.laws.Unpacked.{child_nodes}
use Rattle.ph_bits.specs.Block.{Block, room_of}
use Rattle.ph_bits.specs.Edits.{new_flat}
use Rattle.ph_bits.specs.declared.edits.Edit.{Edit}
use Rattle.ph_node.specs.Bodies.{IsBodyArray}
use Rattle.ph_node.specs.Kinds.{is_node}
use Rattle.ph_node.specs.OneEdit.{IsEdit, edit_flats}
use Rattle.ph_node.specs.Places.{place_for}
use Rattle.ph_node.specs.PointEdit.{IsNewPoint, less_edit, more_edit}
use Rattle.ph_node.specs.RecordEdit.{IsRecordEdit, record_with}
use Rattle.ph_node.specs.Recorded.{IsRecorded}
use Rattle.ph_node.specs.Relaid.{is_relaid}
use Rattle.ph_node.specs.Split.{IsValue}
use Rattle.ph_node.specs.Spots.{IsSpot}
use Rattle.ph_node.specs.declared.spots.Spot.{Spot}
use Rattle.ph_node.proofs.Additions.{added, place_within}
use Rattle.ph_node.proofs.Addressed.{place_absent, address_low, front_at, behind_at}
use Rattle.ph_node.proofs.ChildTests.{kind-there}
use Rattle.ph_node.proofs.BodyArrays.{padded-filled}
use Rattle.ph_node.proofs.Listings.{count_is}
use Rattle.ph_node.proofs.Lists.{rise_new, kept_new, seen_new}
use Rattle.ph_node.proofs.NodeEdits.{record_edit, record_is}
use Rattle.ph_node.proofs.OldNodes.{IsOld, old, level_is, nodes_are, children-are}
use Rattle.ph_node.proofs.Removed.{removed}

not-node : (w : What) → IsValue w → is_node w ≡ false
not-node (value v) h = refl
not-node (node n) h = absurd h

module _ (d : ℕ) (ws : List ℕ) (ns : List PlainNode) (t : PlainNode) (is : unpacked d ws ns ≡ t) (kept : IsRecorded d ws ns) where
  o : IsOld d ws ns t
  o = old d ws ns t is kept

  module _ (i a v : ℕ) (body : List ℕ) (absent : position (has_address a) (entries t) ≡ None)
      (p : i ≡ place_for a (entries t)) (l : a < 2 ^ d) (b : IsBodyArray d t.level body) (e : Edit) (made : e ≡ more_edit i a body v) where
    more-edit : IsEdit d t (more_edit i a body v)
    more-edit = record {
      within = omega (arith, place_within a (take d body) v d ws ns t o i absent p l b.fields);
      few = omega arith;
      some = o.kept.some;
      address = l;
      front = p;
      behind = (let z : i + 0 ≡ i = omega arith in z) ∙ p ∙ place_absent a (entries t) (absent-by a (entries t) absent);
      rise = rise_new _ _ _ _ _ (added a (take d body) v d ws ns t o i absent p l b.fields);
      padded = padded-filled d body b.fields.0 b.filled;
    }

    pub more_record : (k : ℕ) → length ns ≡ k → IsNewPoint d ws k e
    more_record k m =
        let new : IsNewPoint d ws k (more_edit i a body v) = record {
          edit = record_edit d ws ns t is kept (more_edit i a body v) more-edit;
          less = refl;
          more = refl;
          point = refl;
          children = sym m ∙ children-are d ws ns t is kept;
        } in
        subst (λ x. IsNewPoint d ws k x) (sym made) new

    written : (us : List ℕ) → us ≡ record_with d ws e → us ≡ record_of d t.level (edit_flats d t (more_edit i a body v))
    written us f = f ∙ ap (λ x. record_with d ws x) made ∙ record_is d ws ns t is kept (more_edit i a body v)

    pub more_kept : (us : List ℕ) → us ≡ record_with d ws e → IsRecorded d us ns
    more_kept us f = kept_new _ _ _ _ _ (added a (take d body) v d ws ns t o i absent p l b.fields) us (written us f)

    pub more_seen : (us : List ℕ) → us ≡ record_with d ws e →
        unpacked d us ns ≡ node_of t.level (inserted (point_entry a (take d body) v) (entries t))
    more_seen us f = seen_new _ _ _ _ _ (added a (take d body) v d ws ns t o i absent p l b.fields) us (written us f)

  module _ (s : Spot) (h : IsSpot (entries t) s) (point : IsValue (what_at (entries t) s.place)) (many : 2 ≤ length (entries t))
      (e : Edit) (made : e ≡ less_edit s) where
    abbrev gone : Flat
    gone = new_flat d (less_edit s).entry 0

    less-edit : IsEdit d t (less_edit s)
    less-edit = record {
      within = omega (arith, h.within);
      few = omega arith;
      some = o.kept.some;
      address = address_low d ws ns t o s.place h.within s.addr (sym h.address);
      front = front_at d ws ns t o s.place h.within s.addr (sym h.address);
      behind = behind_at d ws ns t o s.place h.within s.addr (sym h.address);
      rise = rise_new _ _ _ _ _ (removed d ws ns t o s.place gone h.within point many);
      padded = drop-replicate d 16 0;
    }

    pub less_record : IsRecordEdit d ws e
    less_record = subst (λ x. IsRecordEdit d ws x) (sym made) (record_edit d ws ns t is kept (less_edit s) less-edit)

    left : (us : List ℕ) → us ≡ record_with d ws e → us ≡ record_of d t.level (edit_flats d t (less_edit s))
    left us f = f ∙ ap (λ x. record_with d ws x) made ∙ record_is d ws ns t is kept (less_edit s)

    pub less_kept : (us : List ℕ) → us ≡ record_with d ws e → IsRecorded d us ns
    less_kept us f = kept_new _ _ _ _ _ (removed d ws ns t o s.place gone h.within point many) us (left us f)

    pub less_seen : (us : List ℕ) → us ≡ record_with d ws e → unpacked d us ns ≡ node_of t.level (without (entries t) s.place)
    less_seen us f = seen_new _ _ _ _ _ (removed d ws ns t o s.place gone h.within point many) us (left us f)

    pub less_was : slice_get (map is_child (entries_in d ws)) e.place ≡ Some false
    less_was =
        ap (λ x. slice_get (map is_child (entries_in d ws)) x.place) made
        ∙ kind-there d d ws ws ns t is kept refl refl s.place h.within ∙ ap Some (not-node (what_at (entries t) s.place) point)

  -- the room that a removal is handed, by the words and the children of the block
  pub less_room : (spare : Option Block) (k : ℕ) → k ≡ length ns →
      (is_relaid d t.level (length (entries t)) ≡ true →
      MatchOption spare ⊥ (λ w. length (pack d t) + length (child_nodes t.chain) ≤ room_of w))
      → is_relaid d (first_in ws).level (first_in ws).entries ≡ true → MatchOption spare ⊥ (λ w. length ws + k ≤ room_of w)
  less_room spare k e h r =
      let told : is_relaid d t.level (length (entries t)) ≡ true = ap (λ l. is_relaid d l (length (entries t)))
      (level_is d ws ns t is kept) ∙ ap (λ n. is_relaid d (first_in ws).level n) (count_is d ws ns t is kept) ∙ r in
      let long : length ws ≡ length (pack d t) = ap (λ (u : List ℕ). length u) (kept.packed.packed ∙ ap (λ u. pack d u) is) in
      let kids : length (child_nodes t.chain) ≡ length ns = ap (λ (u : List PlainNode). length u) (nodes_are d ws ns t is kept) in
      let same : length (pack d t) + length (child_nodes t.chain) ≡ length ws + k = omega (arith, long, kids, e) in
      subst (λ n. MatchOption spare ⊥ (λ w. n ≤ room_of w)) same (h told)
