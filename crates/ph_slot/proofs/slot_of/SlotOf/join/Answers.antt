use Rattle.std.proofs.Common.{ap, sym, ◌∙◌}
use Rattle.std.specs.Prelude.{Some}
use Rattle.ph_slot.proofs.Commanded.{tells-said}
use Rattle.ph_slot.proofs.Pairings.{join-done, join-refused}
use Rattle.ph_slot.proofs.slot_of.SlotOf.join.Goals as goal

pub returns-in-Some-clause-done : goal.returns-in-Some-clause-done
returns-in-Some-clause-done g c which =
    let told = tells-said _ _ c.reply.result c.say.result c.say.ensures.answer c.say.ensures.told c.say.ensures.err c.say.ensures.front in
    join-refused (record { a = c.args.self.now; b = c.args.other.now; current = which }) _ _ c.say.result
    c.args.visits.now c.reply.result (sym c.in-Some.ensures ∙ ap Some (sym c.reply.ensures)) told

pub returns-in-None-clause-done : goal.returns-in-None-clause-done
returns-in-None-clause-done g c which =
    join-done (record { a = c.args.self.now; b = c.args.other.now; current = which }) _ _ c.list_joined.result
    c.args.visits.now c.list_joined.new.visits (sym c.in-None.ensures) c.list_joined.ensures.lists
