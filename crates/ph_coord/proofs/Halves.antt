-- Half of the numbers of a width, in bounds.
use Rattle.std.proofs.Common.{◌≡◌, ℕ, ◌+◌, ◌-◌, ◌*◌, ◌<◌, ◌≤◌, ◌^◌, ap, arith}
use Rattle.std.proofs.lemmas.Nat.{pow_below, pow-add}
use Rattle.std.proofs.Math.Pow.{pow_mono}

-- a power of two below the 62nd is below it, and is at least one
pub half_limits : (w : ℕ) → 1 ≤ w → w ≤ 62 → (1 ≤ 2 ^ (w - 1)) × (2 ^ (w - 1) < 2 ^ 62)
half_limits w p h =
    let e : w - 1 < 62 = omega arith in
    let z : 0 ≤ w - 1 = omega arith in
    (omega (arith, pow_mono {i = 0} {j = w - 1} z), pow_below (w - 1) 62 e)

pub half_twice : (w : ℕ) → 1 ≤ w → 2 ^ (w - 1) + 2 ^ (w - 1) ≡ 2 ^ w
half_twice w p =
    let s : w ≡ w - 1 + 1 = omega arith in
    let e : 2 ^ (w - 1 + 1) ≡ 2 ^ (w - 1) * 2 ^ 1 = pow-add 2 (w - 1) 1 in
    omega (arith, e, ap (λ n. 2 ^ n) s)
