use Rattle.std.proofs.Common.{◌≡◌, ℕ, ◌+◌, ◌-◌, ◌*◌, ◌/◌, ◌%◌, subst, arith}
use Rattle.ph_linear.specs.Edited.{IsOver}
use Rattle.ph_linear.proofs.Overs.{over-put}
use Rattle.ph_linear.proofs.tables.clear_word.Goals as goal

-- how many digits there are up to the end of a word
rest : (n : ℕ) → (64 - n % 64) % 64 ≡ 64 * ((n + 63) / 64) - n
rest n = omega arith

pub returns-clause-over : goal.returns-clause-over
returns-clause-over c =
    subst (λ t. IsOver c.args.words.now c.args.from t 0 c.set_field.new.words) (rest c.args.from)
    (over-put c.args.words.now c.set_field.new.words c.args.from ((64 - c.args.from % 64) % 64) 0 c.set_field.ensures)
