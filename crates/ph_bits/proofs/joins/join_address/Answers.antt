use Rattle.std.proofs.Common.{◌≡◌, ◌∙◌, ◌+◌, ◌*◌, ◌-◌, ◌/◌, ◌%◌, ◌^◌, ℕ, zero, suc, refl, ap, arith, get_or, length, replicate, rules}
use Rattle.std.proofs.lemmas.List.{length-replicate}
use Rattle.ph_digits.proofs.Joins.{kept-more, made-more, joined-all}
use Rattle.ph_bits.proofs.joins.join_address.Goals as goal

nought : (n i : ℕ) → get_or {A = ℕ} (replicate n 0) i 0 ≡ 0
nought zero i = refl
nought (suc n) zero = refl
nought (suc n) (suc i) = nought n i

pub loop-i-preserved : goal.loop-i-preserved
loop-i-preserved c =
    let d = length c.args.known.now in
    let v = get_or c.loop-i.known c.loop-i.i 0 / 2 ^ (c.args.level + 1) * 2 ^ (c.args.level + 1) + c.args.addr / 2 ^ (d - 1 - c.loop-i.i) % 2 * 2 ^ c.args.level in
    record {
      long = search rules;
      made = made-more c.args.level c.args.addr c.loop-i.i _ c.loop-i.known c.args.known.now (replicate d 0)
          (length-replicate d 0) c.loop-i.invariant.long c.loop-i-test.true c.loop-i.invariant.kept c.loop-i.invariant.made
          (ap (λ t. t + c.address_digit.result) c.digits_above.ensures.value ∙
          ap (λ t. get_or c.loop-i.known c.loop-i.i 0 / 2 ^ (c.args.level + 1) * 2 ^ (c.args.level + 1) + t)
          c.address_digit.ensures.value
          ∙ omega (arith, nought d c.loop-i.i));
      kept = kept-more c.loop-i.i _ c.loop-i.known c.args.known.now c.loop-i.invariant.kept;
    }

pub returns : goal.returns
returns c =
    let d = length c.args.known.now in
    joined-all c.args.level c.args.addr c.loop-i.i c.loop-i.known c.args.known.now (replicate d 0)
    (length-replicate d 0) c.loop-i.invariant.long (omega arith) c.loop-i.invariant.made
