-- What the lines of a script are once a line that was handed out is dropped.
use Rattle.std.specs.Prelude.{◌≡◌, ℕ, List, ⊤}
use Rattle.std.specs.Borrow.{follows_so, MutBor, Fml}
use mathlib.Core.Option.{none}
use Rattle.ph_script.specs.contracts.lines.Lines.{the_row}

-- they are seen so then
abbrev pub Rests : MutBor (List ℕ) → List ℕ → Fml
Rests lines now = follows_so the_row the_row lines.ghost_name none (λ _ _. ⊤) (λ last. last ≡ now)
