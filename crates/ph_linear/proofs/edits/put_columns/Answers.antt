use Rattle.std.proofs.Common.{rules, ◌+◌, ◌^◌, ◌<◌, ◌≤◌, length, take, replicate, arith, sym, ◌∙◌, subst, false}
use Rattle.std.specs.Prelude.{if◌then◌else◌}
use Rattle.std.specs.List.{AllByRecursion as Each}
use Rattle.ph_specs.specs.Digits.{field}
use Rattle.ph_model.specs.Layout.{entries_as, values_as}
use Rattle.ph_specs.specs.Pack.{bodies}
use Rattle.ph_specs.specs.Record.{first_in}
use Rattle.ph_model.proofs.laws.WordDigits.{each-fits}
use Rattle.ph_bits.specs.Edits.{flats, new_flat}
use Rattle.ph_linear.specs.Edited.{IsColumnOver}
use Rattle.ph_linear.proofs.EditedEntries.{table-old}
use Rattle.ph_linear.proofs.EditedTables.{rising-new}
use Rattle.ph_linear.proofs.Overs.{column-stays}
use Rattle.ph_linear.proofs.PutTables.{put-table}
use Rattle.ph_linear.proofs.Writing.{byte}
use Rattle.ph_linear.proofs.edits.put_columns.Goals as goal

pub put_row-requires-clause-column : goal.put_row-requires-clause-column
put_row-requires-clause-column c =
    column-stays c.args.words.now c.put_field.new.words c.bodies_of-bodies.result c.bodies_of-bodies.ensures.column c.put_field.auto.words

pub put_row-requires-clause-fields : goal.put_row-requires-clause-fields
put_row-requires-clause-fields c =
    let e = c.args.edit.now in
    let old = c.args.words.now in
    let d = c.args.dims in
    let es = flats (entries_as false d old) (values_as false d old) in
    let w : e.place + e.less ≤ (first_in old).entries = omega (arith, c.requires.within, c.requires.less) in
    let fit : Each (λ x. x < 2 ^ 64) old = each-fits old (search rules) in
    let l : e.place ≤ length es = omega (arith, c.requires.within, (table-old false d old e c.requires.whole fit w).many) in
    let k : 0 < e.more = omega (arith, c.requires.more) in
    let h = rising-new d (first_in old).level 0 e.place e.less e.more (new_flat d e.entry e.value) es l c.requires.rise k in
    subst (λ t. Each (λ x. x < 2 ^ t) (take d e.entry.body)) (sym c.level_in-level.ensures) h.1.1

pub returns : goal.returns
returns c =
    let e = c.args.edit.now in
    let old = c.args.words.now in
    let d = c.args.dims in
    let kinds = c.kinds_of-kinds.result in
    let rows = c.bodies_of-bodies.result in
    let w : e.place + e.less ≤ (first_in old).entries = omega (arith, c.requires.within, c.requires.less) in
    let fit : Each (λ x. x < 2 ^ 64) old = each-fits old (search rules) in
    let kind : IsColumnOver old kinds e (replicate e.more (field kinds.width (if e.entry.child then 1 else 0))) c.put_field.new.words =
    subst (λ t. IsColumnOver old kinds e (replicate e.more (field kinds.width t)) c.put_field.new.words) (byte e.entry.child) c.put_field.ensures in
    let row : IsColumnOver c.put_field.new.words rows e (bodies (first_in old).level (replicate e.more (take d e.entry.body))) c.put_row.new.words =
    subst (λ t. IsColumnOver c.put_field.new.words rows e (bodies t (replicate e.more (take d e.entry.body)))
    c.put_row.new.words) c.level_in-level.ensures c.put_row.ensures in
    put-table d old e c.requires.whole fit w c.put_field.new.words c.put_row.new.words kinds rows c.requires.rise c.requires.less c.requires.more c.requires.address
    c.kinds_of-kinds.ensures.at c.kinds_of-kinds.ensures.width c.kinds_of-kinds.ensures.count
    c.bodies_of-bodies.ensures.at c.bodies_of-bodies.ensures.width c.bodies_of-bodies.ensures.count
    c.put_field.auto.words (c.put_row.auto.words ∙ c.put_field.auto.words) (each-fits c.put_row.new.words c.type_inv.words) kind row
