-- What the program is asked for, as the code keeps it.
use Rattle.ph_specs.specs.Program.{Task}
use Rattle.ph_specs.specs.Program.Task.{Run, Check, Soak, Usage}
use Rattle.ph_engine.specs.declared.task.Task.{Task as Kept}
use Rattle.ph_engine.specs.declared.task.Task.TheVariants as kept

abbrev pub asked : Kept → Task
asked kept.Run = Run
asked (kept.Check file) = Check file
asked (kept.Soak n start) = Soak n start
asked kept.Usage = Usage
