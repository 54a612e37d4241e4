use Rattle.std.proofs.Common.{◌≡◌, ℕ, sym, ◌∙◌, ap, arith, slice_index_or, eq-eqb, ne_eqb, false}
use Rattle.std.specs.Prelude.{◌==◌, Some}
use Rattle.ph_model.proofs.laws.WordDigits.{each-fits}
use Rattle.ph_cube.specs.Cube.{kinds}
use Rattle.ph_cube.proofs.Columns.{kind-digits}
use Rattle.ph_cube.proofs.Places.{present}
use Rattle.ph_cube.proofs.Ranks.{present-ones}
use Rattle.ph_cube.proofs.Stood.{none-stands, one-stands, place}
use Rattle.ph_cube.proofs.searches.search.Goals as goal

pub returns-then-field-eq0-clause-absent : goal.returns-then-field-eq0-clause-absent
returns-then-field-eq0-clause-absent c =
    let words = c.args.words.now in
    let e : slice_index_or (kinds c.args.dims words) c.args.addr 0 ≡ 0 = kind-digits c.args.dims words c.args.addr
    c.requires.record (each-fits words c.type_inv.words) c.requires.address ∙ sym c.field.ensures ∙ c.if-field-eq0.true in
    sym (none-stands c.args.dims words c.args.addr c.requires.address (eq-eqb (slice_index_or (kinds c.args.dims words) c.args.addr 0) 0 e))

pub returns-else-field-eq0-clause-found : goal.returns-else-field-eq0-clause-found
returns-else-field-eq0-clause-found c =
    let words = c.args.words.now in
    let d : ℕ = c.args.dims in
    let a : ℕ = c.args.addr in
    let h = each-fits words c.type_inv.words in
    let e : (slice_index_or (kinds d words) a 0 == 0) ≡ false = ne_eqb (slice_index_or (kinds d words) a 0) 0
    (λ q. c.if-field-eq0.false (c.field.ensures ∙ sym (kind-digits d words a c.requires.record h c.requires.address) ∙ q)) in
    let i : c.ones_before-i.result ≡ present (kinds d words) a =
    c.ones_before-i.ensures ∙ present-ones d words a c.requires.record h (omega (arith, c.requires.address)) in
    ap Some i ∙ sym (one-stands d words a c.requires.address e)

pub returns-then-field-eq0-clause-place : goal.returns-then-field-eq0-clause-place
returns-then-field-eq0-clause-place c =
    sym (place c.args.dims c.args.words.now c.args.addr c.ones_before-i.result c.requires.record
    (each-fits c.args.words.now c.type_inv.words) c.requires.address c.ones_before-i.ensures)
