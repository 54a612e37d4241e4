use Rattle.std.proofs.Common.{◌≡◌, ℕ, sym, ◌∙◌, ap, take, true, get_or, []}
use Rattle.std.specs.Prelude.{Some}
use Rattle.std.specs.Option.{option_map, unwrap_or}
use Rattle.std.proofs.lemmas.Option.{slice_get-map}
use Rattle.ph_model.specs.Layout.{entries_as}
use Rattle.ph_specs.specs.Record.{read}
use Rattle.ph_model.proofs.laws.WordDigits.{each-fits}
use Rattle.ph_bits.specs.Fields.{digits_row}
use Rattle.ph_bits.specs.Packed.{read_body}
use Rattle.ph_linear.proofs.Bodies.{body-read}
use Rattle.ph_cube.specs.Cube.{bodies}
use Rattle.ph_cube.proofs.Entries.{entry-is}
use Rattle.ph_cube.proofs.reads.entry_at.Goals as goal

pub returns-clause-entry : goal.returns-clause-entry
returns-clause-entry c =
    let words = c.args.words.now in
    let d : ℕ = c.args.dims in
    let a : ℕ = c.args.addr in
    let i : ℕ = c.args.i in
    let r = c.requires in
    let e = entry-is d words a i r.record (each-fits words c.type_inv.words) r.within r.stands in
    let body : get_or (bodies d words) a [] ≡ take d c.row-body.result =
    sym (body-read _ _ _)
    ∙ ap (λ o. unwrap_or o []) (sym (slice_get-map read_body (entries_as true d words) i ∙ ap (option_map read_body) e) ∙ c.body_of-at.ensures.body)
    ∙ ap (λ t. digits_row words c.body_of-at.result t d) (sym c.level_in.ensures) ∙ sym c.row-body.ensures.fields in
    e ∙ ap Some (ap (λ t. read t a (get_or (bodies d words) a [])) (sym c.child_at-child.ensures) ∙ ap (λ t. read c.child_at-child.result a t) body)
