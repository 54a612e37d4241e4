use Rattle.std.proofs.Common.{rules}
use Rattle.std.specs.Prelude.{bit_xor}
use Rattle.ph_script.proofs.EightDigits.{Eight, eight, zeros}
use Rattle.ph_script.proofs.digits.eight_digits.Goals as goal
use Rattle.ph_script.proofs.digits.eight_digits.Goals.{Else-digits-ne0}

-- what the steps behind the test make
made : (c : Else-digits-ne0) → Eight c.args.bytes (bit_xor c.from_le_bytes-digits.result zeros)
made c = eight c.args.bytes c.from_le_bytes-digits.result (search rules) (search rules) c.from_le_bytes-digits.ensures c.if-digits-ne0.false

pub overflow_mul-pairs : goal.overflow_mul-pairs
overflow_mul-pairs c = (made c).joined.ten

pub overflow_add-pairs : goal.overflow_add-pairs
overflow_add-pairs c = (made c).joined.both

pub returns : goal.returns
returns c = ((made c).all, (made c).joined.is)
