use Rattle.std.proofs.Common.{◌≡◌, ◌∙◌, arith, cond}
use Rattle.std.specs.Prelude.{nat_lt, ◌==◌}
use Rattle.ph_snap.proofs.Rules.{byte-is, known-on, counted-next, mark-small}
use Rattle.ph_snap.proofs.tables.kinds_fit.Goals as goal

pub loop-i-preserved : goal.loop-i-preserved
loop-i-preserved c =
    let words = c.args.words.now in
    let n = c.args.places in
    let i = c.loop-i.i in
    let k = c.field-kind.result in
    let a : c.from-entries.result ≡ cond (nat_lt 0 c.field-kind.result) 1 0 = c.from-entries.ensures ∙ byte-is (nat_lt 0 k) in
    let b : c.from-children.result ≡ cond (c.field-kind.result == 2) 1 0 = c.from-children.ensures ∙ byte-is (k == 2) in
    record {
      known = known-on words 64 n i k c.loop-i-test.true c.field-kind.ensures c.if-kind-gt2.false ∙ c.loop-i.invariant.known;
      all = omega (arith, c.loop-i.invariant.all, counted-next (λ x. nat_lt 0 x) words 64 n i k c.loop-i-test.true c.field-kind.ensures, a);
      below = omega (arith, c.loop-i.invariant.below, counted-next (λ x. x == 2) words 64 n i k c.loop-i-test.true c.field-kind.ensures, b);
      few = omega (arith, c.loop-i.invariant.few, a, mark-small (nat_lt 0 k));
      fewer = omega (arith, c.loop-i.invariant.fewer, b, mark-small (k == 2));
    }
