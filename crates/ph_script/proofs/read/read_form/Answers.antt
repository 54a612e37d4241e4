use Rattle.std.proofs.Common.{rules, sym, ◌∙◌, eq-eqb, length}
use Rattle.ph_specs.specs.Lines.{words}
use Rattle.ph_script.specs.Forms.{spread_of}
use Rattle.ph_script.proofs.FormRooms.{is-same, is-other, coords-at, counts-at, read-at, form-at, form-other, forms-left, rows-left, none-left}
use Rattle.ph_script.proofs.FormsOfWord.{names-own}
use Rattle.ph_script.proofs.read.read_form.Goals as goal

pub read_places-requires-clause-coords : goal.read_places-requires-clause-coords
read_places-requires-clause-coords c =
    rw c.new-places.ensures (coords-at c.forms-form-items.result.now c.forms.form-index _ (search rules)
    c.forms.invariant.rows c.args.dims c.requires.dims)

pub read_places-requires-clause-counts : goal.read_places-requires-clause-counts
read_places-requires-clause-counts c =
    rw c.new-places.ensures (counts-at c.forms-form-items.result.now c.forms.form-index _ (search rules)
    c.forms.invariant.rows c.args.dims)

pub returns-in-Ok : goal.returns-in-Ok
returns-in-Ok c =
    let read = c.in-Ok.ensures in
    let ws = words c.args.text.now in
    let sized = eq-eqb (length (spread_of c.new-places.result)) (length ws) read.0 in (
      sym c.forms.invariant.value ∙ form-at c.forms-form-items.result.now c.forms.form-index _ (search rules)
          c.forms.invariant.rows c.args.dims c.forms.refused c.args.word.now ws (spread_of c.new-places.result)
          (is-same _ (sym c.ne.ensures ∙ c.if-ne.false)) c.new-places.ensures sized (names-own _ ws read.2),
      read-at c.forms-form-items.result.now c.forms.form-index _ (search rules) c.forms.invariant.rows c.args.dims _ ws _ _ _ _ _ c.new-places.ensures read,
    )

pub returns-in-Err-refused_by : goal.returns-in-Err-refused_by
returns-in-Err-refused_by c =
    let left = forms-left c.forms-form-items.result.now c.forms.form-index _ (search rules) c.forms.invariant.rows
    c.args.dims c.forms.refused c.args.word.now (words c.args.text.now) in
    sym c.forms.invariant.value ∙ left ∙ c.in-Err-refused_by.ensures _ c.args.word.now _ (sym c.new-places.ensures) (is-same _ (sym c.ne.ensures ∙ c.if-ne.false))

pub forms-preserved-then-ne : goal.forms-preserved-then-ne
forms-preserved-then-ne c = record {
  value = sym (form-other c.forms-form-items.result.now c.forms.form-index _ (search rules) c.forms.invariant.rows
      c.args.dims c.forms.refused c.args.word.now (words c.args.text.now)
      (is-other _ (sym c.ne.ensures ∙ c.if-ne.true))) ∙ c.forms.invariant.value;
  rows = rows-left c.forms-form-items.result.now c.forms.form-index c.forms.invariant.rows;
  coords = c.forms.invariant.coords;
  counts = c.forms.invariant.counts;
  name = c.forms.invariant.name;
  file = c.forms.invariant.file;
  second = c.forms.invariant.second;
}

pub returns : goal.returns
returns c = sym c.forms.invariant.value ∙ none-left c.forms-form-items.result.now c.forms.form-index c.args.dims
    c.forms.refused c.args.word.now (words c.args.text.now) (search rules)
