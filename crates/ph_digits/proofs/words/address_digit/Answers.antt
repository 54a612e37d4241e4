use Rattle.std.proofs.Common.{◌≡◌, ◌*◌, ◌^◌, ◌%◌, ◌/◌, ◌≤◌, ap, subst, sym, ◌∙◌}
use Rattle.std.proofs.lemmas.Nat.Bits.{shr_and_one}
use Rattle.ph_digits.proofs.Joins.{digit-is, digit-limit}
use Rattle.ph_digits.proofs.words.address_digit.Goals as goal

bit : (c : goal.After-from) → c.from.result ≡ c.args.addr / 2 ^ c.args.place % 2
bit c = c.from.ensures ∙ shr_and_one c.args.addr c.args.place

pub returns-clause-value : goal.returns-clause-value
returns-clause-value c =
    ap (λ d. (d * 2 ^ c.args.level) % 2 ^ 64) (bit c) ∙ digit-is (c.args.addr / 2 ^ c.args.place) c.args.level c.requires.level

pub returns-clause-limit : goal.returns-clause-limit
returns-clause-limit c =
    subst (λ t. t ≤ 2 ^ 61) (sym (returns-clause-value c)) (digit-limit (c.args.addr / 2 ^ c.args.place) c.args.level c.requires.level)
