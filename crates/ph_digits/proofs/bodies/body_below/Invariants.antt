use Rattle.std.proofs.Common.{◌≡◌, ◌++◌, ◌%◌, ◌^◌, map, take, drop}
use Rattle.ph_digits.proofs.bodies.body_below.Given as goal

abbrev pub invariant-loop-field : goal.invariant-loop-field
invariant-loop-field l = l.field-items ≡ map (λ x. x % 2 ^ l.place) (take l.field-index l.fn.body) ++ drop l.field-index l.fn.body
