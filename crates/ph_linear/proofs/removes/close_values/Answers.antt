use Rattle.std.proofs.Common.{◌+◌, ◌-◌, ℕ, length, take, slice_set, ap, ◌∙◌}
use Rattle.std.specs.List.{copy_within}
use Rattle.ph_linear.specs.Resized.{values_closed}
use Rattle.ph_linear.proofs.ClosedValues.{closed-values, closed-length}
use Rattle.ph_linear.proofs.removes.close_values.Goals as goal

pub returns-clause-words : goal.returns-clause-words
returns-clause-words c =
    let ws = c.args.words.now in
    let o = c.args.old in
    let v = c.args.values in
    let k = c.requires in
    let n : ℕ = v + (o.front + (length ws - (o.values + o.until))) in
    ap (λ t. take n (slice_set t 0 c.first_of.result))
    (c.copy_within-2.ensures.after ∙ ap (λ t. copy_within t (o.values + o.until) (length t) (v + o.front))
    c.copy_within.ensures.after)
    ∙ closed-values ws v o.values o.front o.until c.first_of.result k.order k.first k.shorter k.within
    ∙ ap (λ t. slice_set (values_closed v o ws) 0 t) c.first_of.ensures

pub returns-clause-len : goal.returns-clause-len
returns-clause-len c =
    let o = c.args.old in
    let k = c.requires in
    closed-length c.args.words.now c.args.values o.values o.front o.until _ k.order k.shorter k.within
