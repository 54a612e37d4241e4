-- Whatever pieces a script comes in, its lines are those that are shown, and their readings too.
use Rattle.std.proofs.Common.{◌≡◌, ℕ, ◌<◌, ◌≤◌, List, ◌++◌, length, false, refl, sym, ap, ◌∙◌, subst, arith}
use Rattle.std.specs.Prelude.{nat_lt}
use Rattle.std.specs.Str.Lines.{strip_carriage_return}
use Rattle.std.proofs.lemmas.Bool.{lt-ltb}
use Rattle.std.proofs.lemmas.Bool.Decides.{nat_tests}
use Rattle.ph_specs.specs.Lines.{words}
use Rattle.ph_specs.specs.Command.{Reading, reading, reading_by, Form, forms, read_words_by}
use Rattle.ph_specs.specs.Reply.{Reply as Answer}
use Rattle.ph_script.specs.declared.lines.Line.{Line}
use Rattle.ph_script.specs.declared.lines.Line.TheVariants.{Text, Long}
use Rattle.ph_script.specs.Shown.{kept, IsLine}
use Rattle.ph_script.specs.Pieces.{reading_of_line}
use Rattle.ph_script.proofs.LinePieces.{line-kept, kept-line, take-kept}

-- what is kept of a line and of more is kept of what is kept and of more
pub kept-append : (line more : List ℕ) → kept (kept line ++ more) ≡ kept (line ++ more)
kept-append line more = take-kept 4097 line more

-- a line is shown as what is kept of its front, and the rest, would be
pub line-from_kept : (line more : List ℕ) (shown : Line) → IsLine (kept line ++ more) shown → IsLine (line ++ more) shown
line-from_kept line more shown h = line-kept (line ++ more) shown (subst (λ xs. IsLine xs shown) (kept-append line more) (kept-line (kept line ++ more) shown h))

-- a line by its length
reading-short : (known : List Form) (line : List ℕ) → length line ≤ 4096 → reading_by known line ≡ read_words_by known (words (strip_carriage_return line))
reading-short known line h =
    let t : nat_lt 4096 (length line) ≡ false = grind (arith, nat_tests) in
    rw t refl

reading-long : (known : List Form) (line : List ℕ) → 4096 < length line → reading_by known line ≡ Reading.Refused Answer.ErrorLong
reading-long known line h = rw (lt-ltb 4096 (length line) h) refl

-- the reading of a line is that of how it is shown, and a text that is shown is short enough to be read
pub line-reading : (dims : ℕ) (line : List ℕ) (shown : Line) → IsLine line shown → reading dims line ≡ reading_of_line dims shown
line-reading dims line (Text text) h = reading-short (forms dims) line h.0 ∙ ap (λ xs. read_words_by (forms dims) (words xs)) (sym h.1)
line-reading dims line Long h = reading-long (forms dims) line h
