-- How lines are shown to the engine.
use Rattle.std.specs.Prelude.{◌≤◌, length}
use Rattle.ph_script.specs.declared.lines.Line.{Line}
use Rattle.ph_script.specs.declared.lines.Line.TheVariants.{Text, Long}

-- a text is short enough to be read
abbrev pub IsShort : Line → Type 0
IsShort (Text text) = length text.now ≤ 4096
IsShort Long = Unit {0}
