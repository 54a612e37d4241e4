use Rattle.ph_slot.proofs.slot_of.SlotOf.list_joined.Goals as goal

pub returns-clause-lists : goal.returns-clause-lists
returns-clause-lists g c = rw (← c.self.view_is, ← c.other.view_is) (rw (c.tree.ensures, c.tree-2.ensures) at c.list_pairs.ensures.lists)
