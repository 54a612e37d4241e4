-- The header of a snapshot names its kind, its dimensions and its width. So a check, which reads a file by its header, finds no fault in a snapshot.
use Rattle.std.proofs.Common.{◌≡◌, ◌+◌, ℕ, inl, inr, List, length, refl, ap, sym, subst, ◌∙◌}
use Rattle.std.specs.Prelude.{◌==◌, if◌then◌else◌, slice_index, None}
use Rattle.ph_specs.specs.declared.Kind.{Kind}
use Rattle.ph_specs.specs.declared.Kind.TheVariants.{Points, Boxes}
use Rattle.ph_specs.specs.Load.{named_width, load_fault}
use Rattle.ph_specs.specs.Program.{checked_words, named_kind, own_fault}
use Rattle.ph_specs.specs.Reply.{line_of}
use Rattle.ph_specs.specs.Snapshot.{kind_byte}
use Rattle.ph_specs.specs.SnapshotOf.{IsSnapshotOf}
use Rattle.ph_specs.specs.State.{Slot}
use Rattle.ph_specs.specs.Stats.{stats}
use Rattle.ph_specs.specs.Table.{Row}
use Rattle.ph_specs.specs.WorkSets.{all_nodes}
use Rattle.ph_model.proofs.laws.Snapshots.{none-from_snapshot}
use Rattle.ph_commands.specs.Working.{nodes_of}
use Rattle.ph_slot.specs.AnySlots.{IsLoadedSlot}
use Rattle.ph_engine.specs.Checking.{IsOwnLine}

-- the byte of a kind names it
kind-named : (kind : Kind) → (if kind_byte kind == 1 then Boxes else Points) ≡ kind
kind-named Points = refl
kind-named Boxes = refl

module _ (kind : Kind) (dims width : ℕ) (bytes : List ℕ) (rows : List Row) where
  own-kind : IsSnapshotOf kind dims width bytes rows → named_kind bytes ≡ kind
  own-kind (inl h) = ap named_kind h.1.bytes_are ∙ kind-named kind
  own-kind (inr h) = ap named_kind h.bytes_are ∙ kind-named kind

  own-number : IsSnapshotOf kind dims width bytes rows → slice_index bytes 5 ≡ dims
  own-number (inl h) = ap (λ b. slice_index b 5) h.1.bytes_are
  own-number (inr h) = ap (λ b. slice_index b 5) h.bytes_are

  own-width : IsSnapshotOf kind dims width bytes rows → named_width bytes ≡ width
  own-width (inl h) = ap named_width h.1.bytes_are ∙ sym h.0
  own-width (inr h) = ap named_width h.bytes_are

  -- a snapshot has no fault by its own header
  pub own-none : IsSnapshotOf kind dims width bytes rows → own_fault bytes ≡ None
  own-none h =
      ap (λ k. load_fault k (slice_index bytes 5) (named_width bytes) bytes) (own-kind h)
      ∙ ap (λ d. load_fault kind d (named_width bytes) bytes) (own-number h)
      ∙ ap (λ w. load_fault kind dims w bytes) (own-width h)
      ∙ none-from_snapshot kind dims width bytes rows h

-- the line of a slot that was made of a snapshot
pub own-line : (kind : Kind) (dims width : ℕ) (bytes line : List ℕ) (s : Slot) (v now_v c now_c : ℕ) → IsLoadedSlot kind dims width bytes s c now_c →
    line ≡ line_of (checked_words s.kind s.dims (stats s.width s.dims s.table)) → now_v ≡ v + nodes_of s → IsOwnLine bytes line v now_v c now_c
own-line kind dims width bytes line s v now_v c now_c l said seen =
    let of_kind : named_kind bytes ≡ kind = own-kind kind dims width bytes s.table l.snapshot in
    let of_dims : slice_index bytes 5 ≡ dims = own-number kind dims width bytes s.table l.snapshot in
    let of_width : named_width bytes ≡ width = own-width kind dims width bytes s.table l.snapshot in
    let k : s.kind ≡ named_kind bytes = l.kind_is ∙ sym of_kind in
    let d : s.dims ≡ slice_index bytes 5 = l.dims_are ∙ sym of_dims in
    let w : s.width ≡ named_width bytes = l.width_is ∙ sym of_width in
    record {
      rows = s.table;
      snapshot =
          subst (λ x. IsSnapshotOf x (slice_index bytes 5) (named_width bytes) bytes s.table) (sym of_kind)
          (subst (λ x. IsSnapshotOf kind x (named_width bytes) bytes s.table) (sym of_dims)
          (subst (λ x. IsSnapshotOf kind dims x bytes s.table) (sym of_width) l.snapshot));
      said = said ∙ (λ i. line_of (checked_words (k i) (d i) (stats (w i) (d i) s.table)));
      seen = seen ∙ (λ i. v + length (all_nodes (w i) (d i) s.table));
      made = l.made ∙ (λ i. c + length (all_nodes (sym of_width i) (sym of_dims i) s.table));
    }
