use Rattle.std.proofs.Common.{◌∙◌, ◌-◌, ap}
use Rattle.std.specs.Prelude.{bit_and}
use Rattle.std.proofs.lemmas.Nat.{one_shl, and_mask}
use Rattle.ph_digits.proofs.words.digits_below.Goals as goal

pub returns : goal.returns
returns c = ap (λ n. bit_and c.args.word (n - 1)) (one_shl c.args.place 64 c.requires) ∙ and_mask c.args.word c.args.place
