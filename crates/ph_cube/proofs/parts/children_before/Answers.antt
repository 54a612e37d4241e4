use Rattle.std.proofs.Common.{◌≡◌, ◌+◌, ◌-◌, ◌*◌, ◌/◌, ◌^◌, ◌<◌, ◌≤◌, ℕ, sym, ◌∙◌, ap, arith, length, slice_index_or}
use Rattle.ph_cube.specs.Cube.{twos_in, HIGH}
use Rattle.ph_cube.proofs.Ranks.{twos-add, twos-few}
use Rattle.ph_cube.proofs.Masks.{high-digits, word-front, word-whole}
use Rattle.ph_cube.proofs.parts.children_before.Goals as goal

pub loop-left-preserved : goal.loop-left-preserved
loop-left-preserved c =
    let v = c.loop-left.invariant in
    let ws = c.args.words.now in
    let p : ℕ = c.loop-left.place in
    let at : ℕ = 64 + 32 * (p - 1) * 2 in
    let next : 32 * (p + 1 - 1) ≡ 32 * (p - 1) + 32 = omega (arith, v.place) in
    let i : p < length ws = omega (arith, v.at, v.place, c.loop-left-test.true, c.requires.inside) in
    let e : c.twos_of-twos.result ≡ twos_in ws (64 + 32 * (p - 1) * 2) 32 =
    c.twos_of-twos.ensures ∙ ap HIGH (word-whole ws p v.place i c.type_inv.words) ∙ high-digits ws at 32 (omega arith) (omega (arith, i, v.place)) in
    let s : c.loop-left.twos + c.twos_of-twos.result ≡ twos_in ws 64 (32 * (p + 1 - 1)) =
    ap (λ t. t + c.twos_of-twos.result) v.twos ∙ ap (λ t. twos_in ws 64 (32 * (p - 1)) + t) e ∙ sym (twos-add ws 64 (32 * (p - 1)) 32) ∙ ap (twos_in ws 64) (sym next) in
    record {
      place = omega arith;
      at = omega (arith, v.at, v.place, c.loop-left-test.true);
      twos = s;
      few = omega (arith, s, twos-few ws 64 (32 * (p + 1 - 1)));
    }

pub returns-then-left-gt0 : goal.returns-then-left-gt0
returns-then-left-gt0 c =
    let v = c.loop-left.invariant in
    let ws = c.args.words.now in
    let p : ℕ = c.loop-left.place in
    let n : ℕ = c.args.n in
    let m : ℕ = n - 32 * (p - 1) in
    let at : ℕ = 64 + 32 * (p - 1) * 2 in
    let e : c.loop-left.left ≡ (n - 32 * (p - 1)) * 2 = omega (arith, v.at) in
    let f : 32 * (p - 1) + (n - 32 * (p - 1)) ≡ n = omega (arith, v.at) in
    let k : n - 32 * (p - 1) ≤ 32 = omega (arith, e, c.loop-left-test.false) in
    let i : p < length ws = omega (arith, v.at, v.place, c.if-left-gt0.true, c.requires.inside) in
    let q : c.twos_of-twos-then-left-gt0.result ≡ twos_in ws (64 + 32 * (p - 1) * 2) (n - 32 * (p - 1)) =
    c.twos_of-twos-then-left-gt0.ensures ∙ ap (λ t. HIGH (slice_index_or ws p 0 / 2 ^ (64 - t))) e ∙
    ap HIGH (word-front ws p m v.place k i c.type_inv.words) ∙
    high-digits ws at m k (omega (arith, e, v.at, v.place, c.requires.inside)) in
    ap (λ t. t + c.twos_of-twos-then-left-gt0.result) v.twos ∙ ap (λ t. twos_in ws 64 (32 * (p - 1)) + t) q ∙ sym (twos-add ws 64 (32 * (p - 1)) m) ∙ ap (twos_in ws 64) f
