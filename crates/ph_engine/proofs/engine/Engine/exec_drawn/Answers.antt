use Rattle.std.proofs.Common.{◌≡◌, true, false, rules, ap, ◌∙◌}
use Rattle.ph_specs.specs.declared.Which.TheVariants.{A}
use Rattle.ph_script.specs.Meaning.{command_of}
use Rattle.ph_slot.specs.AnySlots.{any_slot}
use Rattle.ph_slot.specs.Doing.{is_begin, is_on_slot}
use Rattle.ph_slot.proofs.Lifted.{done-at}
use Rattle.ph_engine.proofs.Soaks.{drawn_on_slot, drawn_leaves}
use Rattle.ph_engine.proofs.engine.Engine.exec_drawn.Goals as goal

pub exec_of_two-requires : goal.exec_of_two-requires
exec_of_two-requires g c =
    let on_slot : is_on_slot (command_of c.args.cmd.now) ≡ true = drawn_on_slot (command_of c.args.cmd.now) c.requires.drawn in
    let leaves : is_begin (command_of c.args.cmd.now) ≡ false = drawn_leaves (command_of c.args.cmd.now) c.requires.drawn in
    search (rules, on_slot, leaves)

pub returns-clause-done : goal.returns-clause-done
returns-clause-done g c =
    done-at c.args.desk.now.limits.now.file_bytes c.args.self.now _ (any_slot c.exec_of_two.new.self) A (command_of c.args.cmd.now) _ _ c.exec_of_two.result
    c.self.view_is (ap (λ e. e.current) c.self.view_is ∙ c.requires.first) (drawn_on_slot (command_of c.args.cmd.now) c.requires.drawn) c.exec_of_two.ensures.done
