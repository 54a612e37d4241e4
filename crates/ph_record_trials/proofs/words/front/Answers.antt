use Rattle.std.proofs.Common.{◌≡◌, ◌<◌, ◌+◌, ◌-◌, ◌^◌, subst, arith}
use Rattle.std.proofs.lemmas.Nat.{shr_below}
use Rattle.ph_record_trials.proofs.words.front.Goals as goal

pub returns : goal.returns
returns c =
    let w = c.args.width in
    let e : 64 ≡ w + (64 - w) = omega (arith, c.requires) in
    shr_below c.args.word w (64 - w) (subst (λ t. c.args.word < 2 ^ t) e c.ranges.word.fits)
