use Rattle.std.proofs.Common.{◌*◌, ◌%◌, ◌^◌, ◌+◌, ◌∙◌, ap, refl, true, false}
use Rattle.ph_specs.specs.Record.{First, absent_are_zero}
use Rattle.ph_model.proofs.laws.WordDigits.{each-fits}
use Rattle.ph_bits.specs.Fields.{digits_row}
use Rattle.ph_snap.specs.Columns.{body_rows}
use Rattle.ph_snap.proofs.Framed.{long-as}
use Rattle.ph_snap.proofs.Rules.{cube-is, shifted}
use Rattle.ph_snap.proofs.tables.cube_fits.Goals as goal

pub returns-then-kinds_fit : goal.returns-then-kinds_fit
returns-then-kinds_fit c =
    let dims = c.args.dims in
    let words = c.args.words.now in
    let f = c.args.first.now in
    cube-is dims words (1 * 2 ^ dims % 2 ^ 64) f.entries f.children f.level true c.absent_bodies_are_zero.result
    (long-as dims words true c.requires.layout c.requires.framed) (each-fits words c.type_inv.words)
    (shifted dims c.requires.framed.few) (ap (λ (t : First). t.entries) c.requires.first)
    (ap (λ (t : First). t.children) c.requires.first) (ap (λ (t : First). t.level) c.requires.first)
    c.if-kinds_fit.ensures c.absent_bodies_are_zero.ensures

pub returns-else-kinds_fit : goal.returns-else-kinds_fit
returns-else-kinds_fit c =
    let dims = c.args.dims in
    let words = c.args.words.now in
    let f = c.args.first.now in
    let absent = absent_are_zero (digits_row words 64 2 (2 ^ dims)) (body_rows words (64 + 2 ^ dims * 2) f.level dims (2 ^ dims)) in
    c.if-kinds_fit.false
    ∙ cube-is dims words (1 * 2 ^ dims % 2 ^ 64) f.entries f.children f.level false absent
    (long-as dims words true c.requires.layout c.requires.framed) (each-fits words c.type_inv.words)
    (shifted dims c.requires.framed.few) (ap (λ (t : First). t.entries) c.requires.first)
    (ap (λ (t : First). t.children) c.requires.first) (ap (λ (t : First). t.level) c.requires.first)
    c.if-kinds_fit.ensures refl
