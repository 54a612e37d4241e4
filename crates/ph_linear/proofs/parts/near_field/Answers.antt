use Rattle.std.proofs.Common.{◌≡◌, ◌≤◌, ◌<◌, ◌+◌, ◌-◌, ◌/◌, ◌%◌, ◌^◌, ℕ, List, length, slice_index_or, sym, ◌∙◌, arith}
use Rattle.std.specs.List.{AllByRecursion as Each}
use Rattle.ph_model.specs.Digits.{digits_at}
use Rattle.ph_model.proofs.laws.WordDigits.{each-fits, digits-one}
use Rattle.ph_linear.proofs.parts.near_field.Goals as goal

near : (ws : List ℕ) (f w : ℕ) → f + w ≤ 64 → 1 < length ws → Each (λ x. x < 2 ^ 64) ws → slice_index_or ws 1 0 / 2 ^ (64 - f - w) % 2 ^ w ≡ digits_at ws (64 + f) w
near ws f w l m h = sym (digits-one ws 1 f w (64 - f - w) (omega (arith, l)) m h)

pub returns : goal.returns
returns c =
    let ws = c.args.words.now in
    c.part_of.ensures ∙ near ws c.args.front c.args.width c.requires.near c.requires.inside (each-fits ws c.type_inv.words)
