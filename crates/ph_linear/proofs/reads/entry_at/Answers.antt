use Rattle.std.proofs.Common.{◌≡◌, ℕ, sym, ◌∙◌, ap, take, get_or, slice_index_or, [], false}
use Rattle.std.specs.Prelude.{Some}
use Rattle.std.specs.Option.{option_map, unwrap_or}
use Rattle.std.proofs.lemmas.Option.{slice_get-map}
use Rattle.ph_model.specs.Layout.{entries_as}
use Rattle.ph_specs.specs.Record.{read}
use Rattle.ph_bits.specs.Fields.{digits_row}
use Rattle.ph_bits.specs.Packed.{read_body}
use Rattle.ph_linear.specs.Linear.{addresses, bodies}
use Rattle.ph_linear.proofs.Bodies.{body-read}
use Rattle.ph_linear.proofs.Ranks.{entry-is}
use Rattle.ph_linear.proofs.reads.entry_at.Goals as goal

pub returns-clause-entry : goal.returns-clause-entry
returns-clause-entry c =
    let words = c.args.words.now in
    let d : ℕ = c.args.dims in
    let i : ℕ = c.args.i in
    let e = entry-is d words i c.requires.within in
    let body : get_or (bodies d words) i [] ≡ take d c.row-body.result =
    sym (body-read _ _ _)
    ∙ ap (λ o. unwrap_or o []) (sym (slice_get-map read_body (entries_as false d words) i ∙ ap (option_map read_body) e) ∙ c.body_at.ensures.body)
    ∙ ap (λ t. digits_row words c.body_at.result t d) (sym c.level_in.ensures) ∙ sym c.row-body.ensures.fields in
    e
    ∙ ap Some (ap (λ t. read t (slice_index_or (addresses d words) i 0) (get_or (bodies d words) i [])) (sym c.child_at-child.ensures)
    ∙ ap (λ t. read c.child_at-child.result t (get_or (bodies d words) i [])) (sym c.requires.address)
    ∙ ap (λ t. read c.child_at-child.result c.args.addr t) body)
