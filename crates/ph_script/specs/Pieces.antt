-- What a script is by its lines, read in pieces.
use Rattle.std.specs.Prelude.{ℕ}
use Rattle.ph_specs.specs.Lines.{words}
use Rattle.ph_specs.specs.Command.{Reading, read_words}
use Rattle.ph_specs.specs.Reply.{Reply as Answer}
use Rattle.ph_script.specs.declared.lines.Line.{Line}
use Rattle.ph_script.specs.declared.lines.Line.TheVariants.{Text, Long}

-- what a line is, by how it is shown
abbrev pub reading_of_line : ℕ → Line → Reading
reading_of_line dims (Text text) = read_words dims (words text.now)
reading_of_line dims Long = Reading.Refused Answer.ErrorLong
