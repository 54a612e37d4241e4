use Rattle.std.proofs.Common.{◌∙◌, ap, arith}
use Rattle.std.specs.Ordering.{ordering_then}
use Rattle.std.specs.Cmp.{nat_cmp_is}
use Rattle.std.specs.declared.cmp.Ordering.TheVariants.{Equal}
use Rattle.ph_digits.specs.WordOrder.{words_cmp}
use Rattle.ph_near.proofs.found.FoundOrd.cmp.Goals as goal

pub returns : goal.returns
returns g c =
    c.words_cmp.ensures
    ∙ ap (λ o. ordering_then o (words_cmp c.args.self.now.known c.args.other.now.known))
    (nat_cmp_is c.args.self.now.distance c.args.other.now.distance Equal
    (omega (arith, c.if-self-other.false, c.if-other-self.false)))
