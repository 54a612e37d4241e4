use Rattle.std.proofs.Common.{◌≡◌, ◌+◌, ◌∙◌, ap, sym, refl, false, eq-eqb, ne_eqb}
use Rattle.std.specs.Prelude.{◌&&◌, ◌==◌}
use Rattle.ph_specs.specs.Record.{First, rises_from}
use Rattle.ph_model.proofs.laws.WordDigits.{each-fits}
use Rattle.ph_bits.specs.Fields.{digits_row}
use Rattle.ph_snap.proofs.Framed.{long-as}
use Rattle.ph_snap.proofs.Rules.{linear-is}
use Rattle.ph_snap.proofs.tables.linear_fits.Goals as goal

pub returns-then-ones_before-from : goal.returns-then-ones_before-from
returns-then-ones_before-from c =
    let dims = c.args.dims in
    let words = c.args.words.now in
    let rise = c.addresses_rise.result in
    ap (λ t. t && rise) (sym (eq-eqb c.ones_before.result c.from.result c.if-ones_before-from.true))
    ∙ linear-is dims words c.from-count.result c.from.result c.ones_before.result rise
    (long-as dims words false c.requires.layout c.requires.framed) (each-fits words c.type_inv.words)
    (c.from-count.ensures ∙ ap (λ (t : First). t.entries) c.requires.first)
    (c.from.ensures ∙ ap (λ (t : First). t.children) c.requires.first) c.ones_before.ensures c.addresses_rise.ensures

pub returns-else-ones_before-from : goal.returns-else-ones_before-from
returns-else-ones_before-from c =
    let dims = c.args.dims in
    let words = c.args.words.now in
    let n = c.from-count.result in
    let rise = rises_from 0 (digits_row words (64 + n) dims n) in
    let z : (c.ones_before.result == c.from.result) ≡ false = ne_eqb c.ones_before.result c.from.result c.if-ones_before-from.false in
    z ∙ ap (λ t. t && rise) (sym z)
    ∙ linear-is dims words n c.from.result c.ones_before.result rise
    (long-as dims words false c.requires.layout c.requires.framed) (each-fits words c.type_inv.words)
    (c.from-count.ensures ∙ ap (λ (t : First). t.entries) c.requires.first)
    (c.from.ensures ∙ ap (λ (t : First). t.children) c.requires.first) c.ones_before.ensures refl
