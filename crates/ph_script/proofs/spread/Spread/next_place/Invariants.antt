use Rattle.std.proofs.Common.{◌≡◌, length}
use Rattle.ph_script.specs.Forms.{spread_of}
use Rattle.ph_script.proofs.spread.Spread.next_place.Given as goal

abbrev pub invariant-loop-self : goal.invariant-loop-self
invariant-loop-self l = spread_of l.self ≡ spread_of l.initial.self

abbrev pub decreases-loop-self : goal.decreases-loop-self
decreases-loop-self l = length l.self.more.now
