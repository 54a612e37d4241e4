-- What a question about boxes asks for.
use Rattle.std.specs.Prelude.{List, ℤ}
use Rattle.ph_specs.specs.Command.{Command}
use Rattle.ph_box.specs.declared.question.Question.{Question}
use Rattle.ph_box.specs.declared.question.Question.TheVariants.{Overlap, Inside, Cover}

-- the command that is a question about boxes
abbrev pub asking : Question → List ℤ → Command
asking Overlap q = Command.Overlap q
asking Inside q = Command.Inside q
asking Cover q = Command.Covers q
