use Rattle.std.proofs.Common.{◌+◌, take, drop, slice_set, ap, ◌∙◌}
use Rattle.std.specs.List.{copy_within}
use Rattle.ph_linear.proofs.OpenedValues.{open-front, open-values}
use Rattle.ph_linear.proofs.inserts.open_values.Goals as goal

pub returns-clause-front : goal.returns-clause-front
returns-clause-front c =
    let o = c.args.old in
    let v = c.args.values in
    let k = c.requires in
    ap (λ t. take o.values (slice_set t (v + o.front) c.args.value))
    (c.copy_within-2.ensures.after ∙ ap (λ t. copy_within t o.values (o.values + o.front) v) c.copy_within.ensures.after)
    ∙ open-front c.args.words.now c.args.len v o.values o.front c.args.value k.front k.longer k.long

pub returns-clause-values : goal.returns-clause-values
returns-clause-values c =
    let o = c.args.old in
    let v = c.args.values in
    let k = c.requires in
    ap (λ t. drop v (slice_set t (v + o.front) c.args.value))
    (c.copy_within-2.ensures.after ∙ ap (λ t. copy_within t o.values (o.values + o.front) v) c.copy_within.ensures.after)
    ∙ open-values c.args.words.now c.args.len v o.values o.front c.args.value k.front k.longer k.long
