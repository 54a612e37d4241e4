use Rattle.std.proofs.Common.{take, length, rules, ap, sym, ◌∙◌, arith}
use Rattle.std.specs.Prelude.{is_some}
use Rattle.std.proofs.lemmas.List.{length-take-le}
use Rattle.csv.specs.Records.{fields_of}
use Rattle.ph_specs.specs.Table.{row}
use Rattle.ph_csv.specs.Faults.{row_answer}
use Rattle.ph_csv.proofs.FieldNumbers.{field-there}
use Rattle.ph_csv.proofs.RecordRows.{read-bad-front, read-bad-value, read-numbers, answer-far, numbers-length}
use Rattle.ph_csv.proofs.row.read_row.Goals as goal

pub unreachable-requires : goal.unreachable-requires
unreachable-requires g c =
    let there = field-there (fields_of c.args.fields.now) g.row.D (omega arith) in
    let none = rw c.in_default.is at c.get.ensures.value in
    cc (ap is_some none, there)

pub returns-in_default-read_value-clause-err : goal.returns-in_default-read_value-clause-err
returns-in_default-read_value-clause-err g c =
    read-bad-value c.args.w g.row.D c.args.kind c.args.n (fields_of c.args.fields.now) c.in-Some.text.now
    (omega arith) (sym c.in-Some.ensures.value) (rw c.in_default-read_value.is at c.read_value.ensures)

pub returns-in-Not-clause-err : goal.returns-in-Not-clause-err
returns-in-Not-clause-err g c =
    read-bad-front c.args.w g.row.D c.args.kind c.args.n (fields_of c.args.fields.now) c.in-Some.text.now
    (omega arith) (sym c.in-Some.ensures.value) (rw c.in-Not.is at c.read_coords-spelled.ensures)

pub returns-in-Far-clause-err : goal.returns-in-Far-clause-err
returns-in-Far-clause-err g c =
    let far = rw c.in-Far.is at c.read_coords-spelled.ensures in
    read-numbers c.args.w g.row.D c.args.kind c.args.n (fields_of c.args.fields.now) c.in-Some.text.now (omega arith)
    (sym c.in-Some.ensures.value) c.in-Some-read_value.value far.0 c.in-Some-read_value.ensures
    ∙ answer-far c.args.w c.args.kind c.args.n _ (far.1 c.args.w (omega arith))

pub row_of-requires : goal.row_of-requires
row_of-requires g c =
    let near = rw c.in-Near.is at c.read_coords-spelled.ensures in (
      search rules,
      ap length (c.as_slice.ensures.value ∙ near.1) ∙
          numbers-length (take g.row.D (fields_of c.args.fields.now)) near.0 ∙
          length-take-le g.row.D (fields_of c.args.fields.now) (omega arith),
    )

pub returns-in-Near : goal.returns-in-Near
returns-in-Near g c =
    let near = rw c.in-Near.is at c.read_coords-spelled.ensures in
    let same =
    read-numbers c.args.w g.row.D c.args.kind c.args.n (fields_of c.args.fields.now) c.in-Some.text.now (omega arith)
    (sym c.in-Some.ensures.value) c.in-Some-read_value.value near.0 c.in-Some-read_value.ensures
    ∙ ap (λ p. row_answer c.args.w c.args.kind c.args.n (row p c.in-Some-read_value.value)) (sym (c.as_slice.ensures.value ∙ near.1)) in
    record { ok = rw same c.row_of.ensures.ok; err = rw same c.row_of.ensures.err; point = c.row_of.ensures.point; boxed = c.row_of.ensures.boxed }
