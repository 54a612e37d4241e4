use Rattle.std.proofs.Common.{◌≡◌, map, take}
use Rattle.ph_near.specs.Ranking.{hit_of}
use Rattle.ph_near.proofs.ranking.Ranking.into_hits.Given as goal

abbrev pub invariant-loop-found : goal.invariant-loop-found
invariant-loop-found g l = l.hits.items ≡ map (hit_of l.w) (take l.found-index l.found-items)
