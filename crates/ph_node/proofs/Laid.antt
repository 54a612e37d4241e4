-- The record of entries is laid out in the smaller layout, and its first word counts its children.
use Rattle.std.proofs.Common.{◌≡◌, ℕ, ◌≤◌, Bool, List, length, ap, sym, ◌∙◌, subst}
use Rattle.ph_model.specs.Layout.{IsRecord, AreRising}
use Rattle.ph_specs.specs.Node.{Flat}
use Rattle.ph_specs.specs.Pack.{is_cube, layout, children, record_of}
use Rattle.ph_specs.specs.Record.{first_in, has_cube}
use Rattle.ph_model.proofs.laws.Layouts.{IsMade, made}
use Rattle.ph_node.specs.Recorded.{IsLaidOut}

module _ (dims level : ℕ) (es : List Flat) (some : 1 ≤ dims) (few : dims ≤ 16) (low : level ≤ 61)
    (many : 1 ≤ length es) (bottom : level ≡ 0 → children es ≡ 0) (rise : AreRising dims level 0 es) where
  abbrev cube : Bool
  cube = is_cube dims level (length es)

  pub made-record : IsMade cube dims level es
  made-record = made cube dims level es some few low many bottom rise

  pub cube-told : has_cube dims (first_in (record_of dims level es)) ≡ cube
  cube-told = ap (has_cube dims) made-record.first_is

  pub record-laid : IsLaidOut dims (record_of dims level es)
  record-laid = record {
    tables = subst (λ t. IsRecord t dims (record_of dims level es)) (sym cube-told) made-record.is_record;
    told = ap (λ t. t.layout) made-record.first_is ∙ ap layout (sym cube-told);
  }
