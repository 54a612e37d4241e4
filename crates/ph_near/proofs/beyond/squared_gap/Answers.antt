use Rattle.std.proofs.Common.{◌≤◌, ◌-◌, ◌^◌, arith}
use Rattle.std.proofs.Math.Nat.{mul-le-mul}
use Rattle.std.proofs.lemmas.Nat.{pow_pos}
use Rattle.ph_near.proofs.beyond.squared_gap.Goals as goal

pub returns-clause-limit : goal.returns-clause-limit
returns-clause-limit c =
    let small : c.from-gap.result ≤ 2 ^ 62 - 1 =
    omega (
      arith,
      c.requires.low,
      c.requires.number,
      c.saturating_sub.ensures,
      c.saturating_sub-2.ensures,
      c.from-gap.ensures,
      pow_pos c.args.level,
    ) in
    mul-le-mul small small
