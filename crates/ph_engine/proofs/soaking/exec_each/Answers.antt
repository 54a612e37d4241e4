use Rattle.std.proofs.Common.{refl, rules}
use Rattle.ph_script.specs.Meaning.{command_of}
use Rattle.ph_engine.proofs.Soaks.{soak_begun, soak_next, soak_starved, next_drawn}
use Rattle.ph_engine.proofs.soaking.exec_each.Goals as goal

pub commands-init : goal.commands-init
commands-init g c = record {
  same = search rules;
  file = c.requires.file;
  soaked = soak_begun c.args.desk.now.limits.now.file_bytes c.args.eng.now c.args.commands _ c.requires.drawn c.requires.first c.requires.two;
}

pub exec_drawn-requires-clause-drawn : goal.exec_drawn-requires-clause-drawn
exec_drawn-requires-clause-drawn g c = next_drawn (command_of c.in-Some.command) c.next.new.self (rw c.in-Some.ensures.next at c.commands.invariant.soaked)

pub commands-preserved : goal.commands-preserved
commands-preserved g c = record {
  same = search rules;
  file = search rules;
  soaked = soak_next c.args.desk.now.limits.now.file_bytes c.args.eng.now c.commands.eng c.exec_drawn.new.self c.args.commands
      (command_of c.in-Some.command) c.next.new.self _ _ _ c.in-Ok.field-0 refl refl refl
      (rw c.in-Some.ensures.next at c.commands.invariant.soaked) (rw c.commands.invariant.same.limits at c.in-Ok.ensures.done);
}

pub returns-in-Err-NoMemory-clause-soaked : goal.returns-in-Err-NoMemory-clause-soaked
returns-in-Err-NoMemory-clause-soaked g c =
    soak_starved c.args.desk.now.limits.now.file_bytes c.args.eng.now c.commands.eng c.exec_drawn.new.self c.args.commands (command_of c.in-Some.command) c.next.new.self _ _ _ refl refl refl
    (rw c.in-Some.ensures.next at c.commands.invariant.soaked) (rw (c.in-Err-NoMemory.field-0-is, c.commands.invariant.same.limits) at c.in-Err-NoMemory.ensures.done)
