use Rattle.std.proofs.Common.{◌+◌, ◌*◌, ℕ, false, sym, subst}
use Rattle.ph_model.specs.Layout.{entries_as}
use Rattle.ph_specs.specs.Record.{first_in}
use Rattle.ph_model.proofs.laws.WordDigits.{each-fits}
use Rattle.ph_bits.specs.Packed.{IsBodyAt}
use Rattle.ph_linear.proofs.Bodies.{begins}
use Rattle.ph_linear.proofs.reads.body_at.Goals as goal

pub returns : goal.returns
returns c =
    let words = c.args.words.now in
    let d : ℕ = c.args.dims in
    let i : ℕ = c.args.i in
    let n : ℕ = c.count_in-count.result in
    subst (λ t. IsBodyAt d (first_in words).level words (entries_as false d words) i (64 + (n + n * d) + i * d * t)) (sym c.level_in-level.ensures)
    (subst (λ t. IsBodyAt d (first_in words).level words (entries_as false d words) i (64 + (t + t * d) + i * d * (first_in words).level)) (sym c.count_in-count.ensures)
    (begins d words i c.requires.record (each-fits words c.type_inv.words) c.requires.within))
