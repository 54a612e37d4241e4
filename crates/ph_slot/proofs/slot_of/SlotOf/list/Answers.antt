use Rattle.std.proofs.Common.{sym}
use Rattle.ph_commands.specs.Tables.{table_at}
use Rattle.ph_slot.specs.Slots.{named}
use Rattle.ph_slot.proofs.Groups.{all-lists}
use Rattle.ph_slot.proofs.Paged.{arm-listed, lists-window, lists-ball, lists-sizes, near-listed}
use Rattle.ph_slot.proofs.Refused.{unrefused-arm}
use Rattle.ph_slot.proofs.slot_of.SlotOf.list.Goals as goal

pub unreachable-requires : goal.unreachable-requires
unreachable-requires g c = all-lists c.args.cmd.now c.requires.lists c.in_default.not-Window c.in_default.not-Page
    c.in_default.not-Near c.in_default.not-Within c.in_default.not-Overlap c.in_default.not-Inside
    c.in_default.not-Covers c.in_default.not-Stats

pub returns-in-Page-clause-done : goal.returns-in-Page-clause-done
returns-in-Page-clause-done g c = rw c.in-Page.is c.page.ensures.done

pub returns-in-Window-clause-done : goal.returns-in-Window-clause-done
returns-in-Window-clause-done g c = rw (c.in-Window.is, ← c.self.view_is)
    (arm-listed c.list_window.result c.self.view_is c.in-Window.is c.requires.unrefused (lists-window _ _ _) (rw c.tree.ensures at c.list_window.ensures.lists))

pub returns-in-Near-clause-done : goal.returns-in-Near-clause-done
returns-in-Near-clause-done g c =
    let s = c.self-in-Near in
    rw (c.in-Near.is, ← s.view_is) (near-listed s.inside.kind (table_at g.row.D s.inside.kept) (named s.inside.cursors.items) _ _ _ _ _ _ c.list_near.result
    (unrefused-arm _ c.args.self.now c.args.cmd.now _ s.view_is c.in-Near.is (sym c.requires.unrefused)) (rw c.tree-in-Near.ensures at c.list_near.ensures.lists))

pub returns-in-Within-clause-done : goal.returns-in-Within-clause-done
returns-in-Within-clause-done g c = rw (c.in-Within.is, ← c.self-in-Within.view_is)
    (arm-listed c.list_ball.result c.self-in-Within.view_is c.in-Within.is c.requires.unrefused (lists-ball _ _ _) (rw c.tree-in-Within.ensures at c.list_ball.ensures.lists))

pub returns-in-Overlap-clause-done : goal.returns-in-Overlap-clause-done
returns-in-Overlap-clause-done g c = rw c.in-Overlap.is c.ask.ensures.done

pub returns-in-Inside-clause-done : goal.returns-in-Inside-clause-done
returns-in-Inside-clause-done g c = rw c.in-Inside.is c.ask-in-Inside.ensures.done

pub returns-in-Covers-clause-done : goal.returns-in-Covers-clause-done
returns-in-Covers-clause-done g c = rw c.in-Covers.is c.ask-in-Covers.ensures.done

pub returns-in-Stats-clause-done : goal.returns-in-Stats-clause-done
returns-in-Stats-clause-done g c = rw (c.in-Stats.is, ← c.self-in-Stats.view_is)
    (arm-listed c.list_sizes.result c.self-in-Stats.view_is c.in-Stats.is c.requires.unrefused (lists-sizes _) c.list_sizes.ensures.lists)
