use Rattle.std.proofs.Common.{◌%◌, ◌^◌, rules}
use Rattle.std.proofs.lemmas.List.Edits.{map_over_more}
use Rattle.ph_digits.proofs.bodies.body_below.Goals as goal

pub loop-field-preserved : goal.loop-field-preserved
loop-field-preserved c =
    rw c.digits_below.ensures (map_over_more (λ x. x % 2 ^ c.args.place) c.args.body c.loop-field.field-items
    c.loop-field.field-index _ (search rules) c.loop-field.invariant (search rules))
