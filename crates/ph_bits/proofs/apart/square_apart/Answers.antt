use Rattle.std.proofs.Common.{◌≤◌, ◌-◌, ◌^◌, arith}
use Rattle.std.proofs.Math.Nat.{mul-le-mul}
use Rattle.ph_bits.proofs.apart.square_apart.Goals as goal

pub returns-clause-limit : goal.returns-clause-limit
returns-clause-limit c =
    let small : c.from-gap.result ≤ 2 ^ 62 - 1 = omega (arith, c.requires.number, c.requires.other, c.abs_diff.ensures, c.from-gap.ensures) in
    mul-le-mul small small
