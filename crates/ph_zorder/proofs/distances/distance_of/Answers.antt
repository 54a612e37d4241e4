use Rattle.std.proofs.Common.{◌≡◌, ◌*◌, rules, ◌∙◌, ap, SFits, w64}
use Rattle.std.specs.Prelude.{◌-ℤ◌, nat_abs}
use Rattle.ph_specs.specs.Distance.{squared_gap}
use Rattle.ph_zorder.specs.Squares.{greatest_square}
use Rattle.ph_zorder.proofs.Gaps.{distance-on, limit-on, passed-both}
use Rattle.ph_zorder.proofs.distances.distance_of.Goals as goal

pub loop-c-preserved : goal.loop-c-preserved
loop-c-preserved c =
    let s = c.in-Some.ensures.steps in
    let f : SFits w64 c.in-Some.c.now = search rules in
    let g : SFits w64 c.in-Some.d.now = search rules in
    let e : c.abs_diff.result ≡ nat_abs (c.in-Some.c.now -ℤ c.in-Some.d.now) = passed-both (λ a b. nat_abs (a -ℤ b))
    c.in-Some.c.now c.in-Some.d.now c.abs_diff.result f g c.abs_diff.ensures in
    let v : c.square-sum.result ≡ squared_gap c.in-Some.c.now c.in-Some.d.now = c.square-sum.ensures.value ∙ ap (λ n. n * n) e in
    record {
      value = distance-on c.in-Some.c.now c.in-Some.d.now c.next.new.self.a.rest.now c.next.new.self.b.rest.now
          c.loop-c.c-iterator.a.rest.now c.loop-c.c-iterator.b.rest.now c.loop-c.sum c.square-sum.result _ s.0 s.1 v
          c.loop-c.invariant.value;
      limit = limit-on c.in-Some.c.now c.next.new.self.a.rest.now c.loop-c.c-iterator.a.rest.now c.loop-c.sum
          c.square-sum.result greatest_square s.0 c.square-sum.ensures.limit c.loop-c.invariant.limit;
      same = search rules;
      first = search rules;
      second = search rules;
    }
