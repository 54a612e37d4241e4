use Rattle.std.proofs.Common.{◌≡◌, ℕ, ◌+◌, ◌*◌, ◌^◌, ◌≤◌, ◌<◌, arith, ap, sym, ◌∙◌}
use Rattle.std.proofs.Math.Nat.{mul-le-mul_left}
use Rattle.ph_specs.specs.Record.{first_in}
use Rattle.ph_linear.proofs.tables.columns_of.Goals as goal

next : (at w c n v x : ℕ) → c ≡ n → w ≡ v → x ≡ at + n * v → x ≡ at + c * w
next at w c n v x e f g =
    let m : c * w ≡ n * v = ap (λ t. t * w) e ∙ ap (λ t. n * t) f in
    omega (arith, g, m)

ends : (at w c n top : ℕ) → c ≡ n → at + c * w ≤ top → at + n * w ≤ top
ends at w c n top e l =
    let m : c * w ≡ n * w = ap (λ t. t * w) e in
    omega (arith, l, m)

near : (n d v at w c kw aw : ℕ) → n < 2 ^ 24 → d ≤ 16 → v ≤ 61 → at ≡ 64 + n + n * d → w ≡ d * v → c ≡ n → kw ≡ 1 → aw ≡ d → at + c * w + kw + aw + w ≤ 2 ^ 62
near n d v at w c kw aw h l m e f g i j =
    let p : n * d ≤ n * 16 = mul-le-mul_left n l in
    let q : (n * d) * v ≤ (n * d) * 61 = mul-le-mul_left (n * d) m in
    let o : d * v ≤ d * 61 = mul-le-mul_left d m in
    let s : c * w ≡ n * (d * v) = ap (λ t. t * w) g ∙ ap (λ t. n * t) f in
    omega (arith, h, p, q, o, s, e, f, i, j, l)

pub returns : goal.returns
returns c =
    let old = c.args.old.now in
    let k = c.kinds_of.ensures in
    let a = c.addresses_of.ensures in
    let b = c.bodies_of.ensures in
    let kc = c.kinds_of.result in
    let ac = c.addresses_of.result in
    let bc = c.bodies_of.result in
    let n = (first_in c.args.old.now).entries in
    let one : ac.at ≡ kc.at + n * 1 = omega (arith, a.at, k.at) in
    let two : bc.at ≡ ac.at + n * c.args.dims = omega (arith, b.at, a.at) in
    record {
      columns = record {
        begin = k.at;
        one = k.width;
        addresses = next kc.at kc.width kc.count n 1 ac.at k.count k.width one;
        addresses_many = a.count ∙ sym k.count;
        bodies = next ac.at ac.width kc.count n c.args.dims bc.at k.count a.width two;
        bodies_many = b.count ∙ sym k.count;
        inside = ends bc.at bc.width bc.count kc.count _ (b.count ∙ sym k.count) b.column.inside;
        near = near n c.args.dims (first_in old).level bc.at bc.width kc.count kc.width ac.width (omega arith)
            c.requires.few c.requires.low b.at b.width k.count k.width a.width;
      };
      many = k.count;
      addresses_wide = a.width;
      bodies_wide = b.width;
    }
