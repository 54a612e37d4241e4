-- Lines that are read in pieces, and how they are shown.
use Rattle.std.specs.Prelude.{◌≡◌, ◌<◌, ◌≤◌, ◌==◌, nat_lt, if◌then◌else◌, ℕ, Bool, List, [], ◌++◌, length, take}
use Rattle.std.specs.List.{position_or_len, before_first}
use Rattle.std.specs.Str.Lines.{strip_carriage_return}
use Rattle.ph_specs.specs.Lines.{LF}
use Rattle.ph_script.specs.declared.lines.Line.{Line}
use Rattle.ph_script.specs.declared.lines.Line.TheVariants.{Text, Long}

abbrev pub is_feed : ℕ → Bool
is_feed b = b == LF

-- where the first line feed stands, or how many bytes there are where none does; and the bytes before it
abbrev pub feed_at : List ℕ → ℕ
feed_at bytes = position_or_len is_feed bytes

abbrev pub before_feed : List ℕ → List ℕ
before_feed bytes = before_first is_feed bytes

-- what is kept of a line that has not ended: its length tells whether it is too long
abbrev pub kept : List ℕ → List ℕ
kept line = take 4097 line

-- what is kept of the last line behind a line that has not ended and bytes up to their first line feed
abbrev pub unended : List ℕ → List ℕ → List ℕ
unended line bytes = if nat_lt (feed_at bytes) (length bytes) then [] else kept (line ++ bytes)

-- how the bytes before a line feed are shown
abbrev pub IsLine : List ℕ → Line → Type 0
IsLine line (Text text) = (length line ≤ 4096) × (text.now ≡ strip_carriage_return line)
IsLine line Long = 4096 < length line
