use Rattle.std.proofs.Common.{◌≡◌, arith, rules, true, false, ap}
use Rattle.std.specs.Prelude.{int_le}
use Rattle.std.proofs.lemmas.Int.{ints}
use Rattle.ph_coord.proofs.Ordered.{ordered_so_far, reversed_here}
use Rattle.ph_script.specs.Meaning.{numbers_of, number_of_coord}
use Rattle.ph_slot.proofs.refusals.are_at_most.Goals as goal

pub returns-then-number : goal.returns-then-number
returns-then-number c =
    let a = number_of_coord c.in-Some.a.now in
    let b = number_of_coord c.in-Some.b.now in
    let u : int_le a b ≡ false = grind (arith, ints, c.if-number.true) in
    reversed_here a b _ _ _ _ (numbers_of c.args.low.now) (numbers_of c.args.high.now) (ap (λ xs. numbers_of xs) c.in-Some.ensures.steps.0)
    (ap (λ xs. numbers_of xs) c.in-Some.ensures.steps.1) u c.loop-a.invariant.value

pub loop-a-preserved : goal.loop-a-preserved
loop-a-preserved c = record {
  value =
      let a = number_of_coord c.in-Some.a.now in
      let b = number_of_coord c.in-Some.b.now in
      let u : int_le a b ≡ true = grind (arith, ints, c.if-number.false) in
      ordered_so_far a b _ _ _ _ (numbers_of c.args.low.now) (numbers_of c.args.high.now) (ap (λ xs. numbers_of xs) c.in-Some.ensures.steps.0)
      (ap (λ xs. numbers_of xs) c.in-Some.ensures.steps.1) u c.loop-a.invariant.value;
  same = search rules;
}
