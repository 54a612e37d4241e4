use Rattle.std.proofs.Common.{◌≡◌, ◌<◌, ℕ, arith}
use Rattle.ph_model.proofs.laws.WordDigits.{each-fits}
use Rattle.ph_bits.proofs.FieldReads.{field-read}
use Rattle.ph_bits.proofs.fields.field.Goals as goal

pub returns : goal.returns
returns c =
    field-read c.args.words.now c.args.at c.args.width c.requires.width (above c.args.width c.if-width-eq0.false)
    c.requires.inside (each-fits c.args.words.now c.type_inv.words)
  where
    above : (n : ℕ) → (n ≡ 0 → ⊥) → 0 < n
    above n h = omega (arith, h)
