use Rattle.ph_slot.proofs.slot_of.SlotOf.compare.Goals as goal

pub returns-in-A : goal.returns-in-A
returns-in-A g c = rw c.in-A.is (c.is_same.result, c.is_same.ensures, c.same_reply.ensures)

pub returns-in-B : goal.returns-in-B
returns-in-B g c = rw c.in-B.is (c.is_same-in-B.result, c.is_same-in-B.ensures, c.same_reply-in-B.ensures)
