use Rattle.std.proofs.Common.{length, ap, arith}
use Rattle.ph_import.proofs.Puts.{nothing-put}
use Rattle.ph_import.proofs.rows.put_rows.Goals as goal

pub returns-in_err-has_room-clause-fault : goal.returns-in_err-has_room-clause-fault
returns-in_err-has_room-clause-fault g c = λ _. nothing-put c.args.kept.now c.args.rows.items (omega (arith, c.in_err-has_room.ensures.err, ap length c.as_slice-rows.ensures.value))
