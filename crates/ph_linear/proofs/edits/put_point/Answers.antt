use Rattle.std.proofs.Common.{◌-◌, length, take, arith, ◌∙◌, false}
use Rattle.ph_model.specs.Layout.{entries_as}
use Rattle.ph_linear.proofs.PutRecords.{none, points-child, point-changed}
use Rattle.ph_linear.proofs.Ranks.{many}
use Rattle.ph_linear.proofs.edits.put_point.Goals as goal

pub put_table-outline-requires : goal.put_table-outline-requires
put_table-outline-requires c =
    let q = c.requires in
    let old = take (length c.args.words.now - 1) c.args.words.now in
    let child = points-child (entries_as false c.args.dims old) c.args.edit.now.place q.was in
    record {
      whole = q.record;
      within = omega (arith, child.0, many c.args.dims old);
      less = q.less;
      more = q.more;
      address = q.address;
      rise = q.entries;
    }

pub put_value-requires-clause-none : goal.put_value-requires-clause-none
put_value-requires-clause-none c = none c.put_table-outline.ensures c.requires.less c.requires.was

pub put_value-requires-clause-outline : goal.put_value-requires-clause-outline
put_value-requires-clause-outline c =
    (point-changed c.put_table-outline.ensures c.args.words.now c.requires.less c.requires.more c.requires.point
    c.requires.some c.put_table-outline.auto.words).0

pub returns : goal.returns
returns c =
    c.put_value.ensures ∙ (point-changed c.put_table-outline.ensures c.args.words.now c.requires.less c.requires.more c.requires.point
    c.requires.some c.put_table-outline.auto.words).1
