-- How many entries a record with an edit has, and its layout.
use Rattle.std.proofs.Common.{◌≡◌, ℕ, ◌+◌, ◌-◌, ◌≤◌, ◌^◌, List, length, Bool, refl, sym, ◌∙◌, ap, arith}
use Rattle.ph_specs.specs.Pack.{is_cube, record_in}
use Rattle.ph_specs.specs.Record.{first_in, has_cube}
use Rattle.ph_bits.specs.Edits.{edited_as, new_flat}
use Rattle.ph_bits.specs.declared.edits.Edit.{Edit}
use Rattle.ph_node.specs.RecordEdit.{IsRecordEdit, with_edit, record_with}
use Rattle.ph_node.proofs.EditReads.{longer}
use Rattle.ph_node.proofs.Fitting.{few}

module _ (d : ℕ) (ws : List ℕ) (e : Edit) (h : IsRecordEdit d ws e) where
  pub count_with : (n : ℕ) → n ≡ (first_in ws).entries → n - e.less + e.more ≡ length (with_edit d ws e)
  count_with n q = omega (arith, q, h.within, longer d ws e.place e.less e.more (new_flat d e.entry e.value) h.source h.within)

  pub few_with : length (with_edit d ws e) ≤ 2 ^ d
  few_with = few d (first_in ws).level (with_edit d ws e) h.rise

-- the layout stays, where an entry is put in place of another
pub record-there : (d : ℕ) (ws : List ℕ) (e : Edit) (cube : Bool) → IsRecordEdit d ws e → e.less ≡ 1 → e.more ≡ 1 →
    has_cube d (first_in ws) ≡ cube → record_in cube d (first_in ws).level (edited_as cube d ws e) ≡ record_with d ws e
record-there d ws e cube h less more hc =
    let level : ℕ = (first_in ws).level in
    let same : (first_in ws).entries ≡ length (with_edit d ws e) = omega (arith, count_with d ws e h (first_in ws).entries refl, h.within, less, more) in
    ap (λ t. record_in t d level (edited_as t d ws e)) (sym hc) ∙ ap (λ t. record_in t d level (with_edit d ws e)) (ap (is_cube d level) same)
