-- An edit of the record of a node is one of the node's entries.
use Rattle.std.proofs.Common.{◌≡◌, ℕ, List, length, ap, sym, ◌∙◌, subst}
use Rattle.ph_specs.specs.Node.{PlainNode, Flat}
use Rattle.ph_model.specs.EntryList.{entries}
use Rattle.ph_specs.specs.Record.{first_in}
use Rattle.ph_bits.specs.Edits.{edited, edit_of, new_flat}
use Rattle.ph_node.specs.OneEdit.{edit_flats}
use Rattle.ph_node.specs.Recorded.{IsSource}
use Rattle.ph_bits.specs.declared.edits.Edit.{Edit}
use Rattle.ph_node.proofs.OldNodes.{IsOld}

module _ (d : ℕ) (ws us : List ℕ) (ns : List PlainNode) (t : PlainNode) (o : IsOld d ws ns t) (f : us ≡ ws) where
  pub source_at : IsSource d us
  source_at = subst (IsSource d) (sym f) o.source

  pub count_at : (first_in us).entries ≡ length (entries t)
  count_at = ap (λ u. (first_in u).entries) f ∙ o.count

  module _ (e : Edit) (l : ℕ) (m : l ≡ (first_in us).level) where
    flats-at : edit_of d us e.place e.less e.more e.entry e.value ≡ edit_flats d t e
    flats-at =
        ap (λ u. edit_of d u e.place e.less e.more e.entry e.value) f
        ∙ ap (λ fs. edited e.place e.less e.more (new_flat d e.entry e.value) fs) o.flats

    -- what holds of the node holds of its record
    pub moved : (P : ℕ → List Flat → Type 0) → P t.level (edit_flats d t e) → P l (edit_of d us e.place e.less e.more e.entry e.value)
    moved P h =
        subst (λ fs. P l fs) (sym flats-at)
        (subst (λ k. P k (edit_flats d t e)) (sym (m ∙ ap (λ u. (first_in u).level) f ∙ o.level)) h)
