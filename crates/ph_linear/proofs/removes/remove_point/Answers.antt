use Rattle.std.proofs.Common.{rules, ◌≡◌, ◌+◌, ◌^◌, ◌<◌, ◌≤◌, length, arith, ap, ◌∙◌, false}
use Rattle.std.specs.List.{AllByRecursion as Each}
use Rattle.ph_specs.specs.Pack.{record_in}
use Rattle.ph_specs.specs.Record.{first_in}
use Rattle.ph_model.proofs.laws.WordDigits.{each-fits}
use Rattle.ph_bits.specs.Edits.{edited_as}
use Rattle.ph_linear.specs.Resized.{IsClosable, with_less}
use Rattle.ph_linear.proofs.LessRecords.{closed-record}
use Rattle.ph_linear.proofs.removes.remove_point.Goals as goal
use Rattle.ph_linear.proofs.removes.remove_point.Goals.{After-remove-values}

-- the words without the fields of the entry fit, and without its value they are the new record
closed : (c : After-remove-values) → let ws = c.remove-values.new.words in
    IsClosable c.remove-values.result c.outline_of-outline.result ws
    × (with_less c.remove-values.result c.outline_of-outline.result ws ≡
    record_in false c.args.dims (first_in c.args.words.now).level
    (edited_as false c.args.dims c.args.words.now c.args.edit.now))
closed c =
    let old = c.args.words.now in
    let e = c.args.edit.now in
    let fit : Each (λ x. x < 2 ^ 64) old = each-fits old (search rules) in
    let within : e.place + e.less ≤ (first_in old).entries = omega (arith, c.requires.within, c.requires.less) in
    closed-record c.args.dims old e c.requires.record fit within c.requires.less c.requires.more c.requires.entries
    c.columns_of.result c.columns_of.ensures c.outline_of-outline.result c.remove-values.result c.remove-values.new.words
    c.outline_of-outline.ensures c.remove-values.ensures.place c.remove-values.ensures.words c.remove-values.auto.words

pub close_values-requires : goal.close_values-requires
close_values-requires c = (closed (goal.at.close_values-requires c).After-remove-values).0

pub returns-clause-words : goal.returns-clause-words
returns-clause-words c = c.close_values.ensures.words ∙ (closed (goal.at.returns-clause-words c).After-remove-values).1

pub returns-clause-len : goal.returns-clause-len
returns-clause-len c = c.close_values.ensures.len ∙ ap length (closed (goal.at.returns-clause-len c).After-remove-values).1
