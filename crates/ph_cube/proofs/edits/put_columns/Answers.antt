use Rattle.std.proofs.Common.{rules, ◌^◌, ◌<◌, take, replicate, sym, ◌∙◌, subst}
use Rattle.std.specs.List.{AllByRecursion as Each}
use Rattle.ph_specs.specs.Pack.{bodies}
use Rattle.ph_specs.specs.Record.{first_in}
use Rattle.ph_model.proofs.laws.WordDigits.{each-fits}
use Rattle.ph_linear.specs.Edited.{IsColumnOver}
use Rattle.ph_linear.proofs.Overs.{column-stays}
use Rattle.ph_cube.proofs.EditedTables.{kind-then, body-then, body-fits}
use Rattle.ph_cube.proofs.PutTables.{put-table}
use Rattle.ph_cube.proofs.edits.put_columns.Goals as goal

pub put_row-requires-clause-column : goal.put_row-requires-clause-column
put_row-requires-clause-column c =
    column-stays c.args.words.now c.put_field.new.words c.bodies_of-bodies.result c.bodies_of-bodies.ensures.column c.put_field.auto.words

pub put_row-requires-clause-fields : goal.put_row-requires-clause-fields
put_row-requires-clause-fields c =
    let fit : Each (λ x. x < 2 ^ 64) c.args.words.now = each-fits c.args.words.now (search rules) in
    let t = c.at_address-there.ensures in
    subst (λ b. Each (λ x. x < 2 ^ b) (take c.args.dims c.at_address-there.result.entry.body)) (sym c.level_in-level.ensures)
    (body-fits c.args.dims c.args.words.now c.args.edit.now c.args.addr c.requires.record fit c.requires.edit
    c.at_address-there.result.entry.body t.some t.none c.requires.entries)

pub returns : goal.returns
returns c =
    let e = c.args.edit.now in
    let old = c.args.words.now in
    let r = c.requires.record in
    let fit : Each (λ x. x < 2 ^ 64) old = each-fits old (search rules) in
    let there = c.at_address-there.result in
    let t = c.at_address-there.ensures in
    let kinds = c.kinds_of-kinds.result in
    let rows = c.bodies_of-bodies.result in
    let ks = c.kinds_of-kinds.ensures in
    let rs = c.bodies_of-bodies.ensures in
    let body = take c.args.dims there.entry.body in
    let row : IsColumnOver c.put_field.new.words rows there (bodies (first_in old).level (replicate there.more body)) c.put_row.new.words =
    subst (λ s. IsColumnOver c.put_field.new.words rows there (bodies s (replicate there.more body)) c.put_row.new.words) c.level_in-level.ensures c.put_row.ensures in
    let kind = c.new_kind.ensures in
    put-table c.args.dims old e c.args.addr r fit c.requires.edit c.put_field.new.words c.put_row.new.words kinds rows there
    c.new_kind.result body c.requires.entries
    (kind-then c.args.dims old e c.args.addr r fit c.requires.edit c.new_kind.result kind.some kind.none)
    (body-then c.args.dims old e c.args.addr r fit c.requires.edit there.entry.body t.some t.none)
    t.place t.less t.more ks.at ks.width ks.count rs.at rs.width rs.count
    c.put_field.auto.words (c.put_row.auto.words ∙ c.put_field.auto.words) (each-fits c.put_row.new.words c.type_inv.words) c.put_field.ensures row
