use Rattle.std.proofs.Common.{◌≡◌, ◌+◌, ◌-◌, ◌*◌, ◌^◌, ◌<◌, ◌≤◌, ℕ, length, arith, ap, ◌∙◌}
use Rattle.std.proofs.Math.Nat.{mul-le-mul_left}
use Rattle.ph_specs.specs.Digits.{words_for}
use Rattle.ph_specs.specs.Pack.{linear_digits}
use Rattle.ph_specs.specs.Record.{first_in}
use Rattle.ph_linear.proofs.edits.bodies_of.Goals as goal

inside : (n m d v b len k : ℕ) → n ≡ m → v ≡ b → len ≡ 1 + words_for (linear_digits d b m) + k → 64 + n + n * d + n * (d * v) ≤ 64 * len
inside n m d v b len k e a l =
    let p : n * d ≡ m * d = ap (λ t. t * d) e in
    let q : n * (d * v) ≡ m * (d * b) = ap (λ t. t * (d * v)) e ∙ ap (λ t. m * (d * t)) a in
    omega (arith, e, p, q, l)

near : (n d v : ℕ) → n < 2 ^ 24 → d ≤ 16 → v ≤ 61 → 64 + n + n * d + n * (d * v) ≤ 2 ^ 62
near n d v h l m =
    let p : n * d ≤ n * 16 = mul-le-mul_left n l in
    let q : (n * d) * v ≤ (n * d) * 61 = mul-le-mul_left (n * d) m in
    omega (arith, h, p, q)

pub returns-clause-column : goal.returns-clause-column
returns-clause-column c =
    let old = c.args.old.now in
    let n = c.count_in-count.result in
    record {
      inside = inside n (first_in old).entries c.args.dims c.level_in.result (first_in old).level (length old)
          ((first_in old).entries - (first_in old).children) c.count_in-count.ensures c.level_in.ensures c.requires.long;
      near = near n c.args.dims c.level_in.result (omega (arith, c.count_in-count.ensures)) c.requires.few (omega (arith, c.level_in.ensures, c.requires.low));
    }
