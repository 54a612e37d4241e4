use Rattle.std.proofs.Common.{◌≡◌, ◌+◌, ◌-◌, ◌*◌, ◌^◌, ◌<◌, ◌≤◌, ℕ, length, arith, ap, ◌∙◌}
use Rattle.std.proofs.Math.Nat.{mul-le-mul_left, pow-le-pow_right}
use Rattle.ph_specs.specs.Digits.{words_for}
use Rattle.ph_specs.specs.Record.{first_in}
use Rattle.ph_cube.proofs.edits.bodies_of.Goals as goal

inside : (n m d v b len k : ℕ) → n ≡ m → v ≡ b → len ≡ 1 + words_for (m * (2 + d * b)) + k → 64 + n * 2 + n * (d * v) ≤ 64 * len
inside n m d v b len k e a l =
    let q : n * (d * v) ≡ m * (d * b) = ap (λ t. t * (d * v)) e ∙ ap (λ t. m * (d * t)) a in
    omega (arith, e, q, l)

near : (n d v : ℕ) → n ≤ 2 ^ 16 → d ≤ 16 → v ≤ 61 → 64 + n * 2 + n * (d * v) ≤ 2 ^ 62
near n d v h l m =
    let p : n * d ≤ n * 16 = mul-le-mul_left n l in
    let q : (n * d) * v ≤ (n * d) * 61 = mul-le-mul_left (n * d) m in
    omega (arith, h, p, q)

few : (d : ℕ) → d ≤ 16 → 2 ^ d ≤ 2 ^ 16
few d l = let o : 0 < 2 = omega arith in pow-le-pow_right o l

pub returns-clause-column : goal.returns-clause-column
returns-clause-column c =
    let old = c.args.old.now in
    let n = c.addresses-count.result in
    record {
      inside = inside n (2 ^ c.args.dims) c.args.dims c.level_in.result (first_in old).level (length old)
          ((first_in old).entries - (first_in old).children) c.addresses-count.ensures c.level_in.ensures c.requires.long;
      near = near n c.args.dims c.level_in.result
          (omega (arith, c.addresses-count.ensures, few c.args.dims c.requires.few)) c.requires.few
          (omega (arith, c.level_in.ensures, c.requires.low));
    }
