use Rattle.std.proofs.Common.{◌+◌, ◌-◌, ◌*◌, ◌/◌, ◌%◌, ◌^◌, ◌<◌, sym, subst, arith, get_or, length, mod-lt}
use Rattle.ph_model.proofs.laws.WordDigits.{digits-below}
use Rattle.ph_digits.proofs.Joins.{small-at}
use Rattle.ph_bits.proofs.JoinedNumbers.{joined-at, joined-small}
use Rattle.ph_bits.proofs.joins.joined_number.Goals as goal

pub returns-clause-limit : goal.returns-clause-limit
returns-clause-limit c =
    let level = c.args.level in
    let known = c.args.known.now in
    let digit = c.args.addr / 2 ^ (length known - 1 - c.args.i) in
    let small = joined-small level (get_or known c.args.i 0) (digit % 2) c.field-below.result c.requires.level
    (small-at 62 (length known) c.args.i known c.requires.known) (mod-lt digit (omega arith))
    (subst (λ y. y < 2 ^ level) (sym c.field-below.ensures)
    (digits-below c.args.words.now (c.args.at + c.args.i * level) level)) in
    omega (arith, small, c.digits_above.ensures.value, c.address_digit.ensures.value)

pub overflow_add-result-2 : goal.overflow_add-result-2
overflow_add-result-2 c = omega (arith, returns-clause-limit c)

pub returns-clause-value : goal.returns-clause-value
returns-clause-value c =
    joined-at c.args.words.now c.args.known.now c.args.at c.args.level c.args.addr c.args.i _ _ _ c.requires.within
    c.digits_above.ensures.value c.address_digit.ensures.value c.field-below.ensures
