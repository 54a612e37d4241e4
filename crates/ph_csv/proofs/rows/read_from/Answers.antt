use Rattle.std.proofs.Common.{◌≡◌, true, false, subst, sym, arith, rules}
use Rattle.std.specs.Prelude.{Some, Result, Ok, Err, IfErr}
use Rattle.std.specs.Result.{is_ok, IsErrAnd}
use Rattle.csv.specs.Records.{fields_of}
use Rattle.ph_specs.specs.Reply.{Reply}
use Rattle.ph_csv.specs.declared.fault.CsvFault.{CsvFault}
use Rattle.ph_csv.specs.Faults.{IsFault}
use Rattle.ph_csv.specs.Left.{IsNext, ReadsNext}
use Rattle.ph_csv.proofs.RowsSoFar.{answer-none, answer-more, answer-fault, each-more}
use Rattle.ph_csv.proofs.rows.read_from.Goals as goal

-- a fault that is handed on
handed-on : {X Y : Type 0} (r : Result X CsvFault) (answer : Result Y Reply) (fault : CsvFault) →
    IsErrAnd r (λ f. f ≡ fault) → IsFault answer fault → IfErr r (λ f. IsFault answer f)
handed-on (Ok _) answer fault h k = tt
handed-on (Err f) answer fault h k = subst (IsFault answer) (sym h) k

pub returns-then-not-branch-clause-ok : goal.returns-then-not-branch-clause-ok
returns-then-not-branch-clause-ok g c =
    let none : ReadsNext (λ s. Some s.now) c.records.reader c.read_next.new.reader false
    (fields_of c.read_next.new.fields) = rw c.if-not-branch.true at c.in_ok-read_next.ensures in
    answer-none _ c.records.rows.items c.args.w g.row.D c.args.kind c.records.n _ c.records.invariant.rows none

pub returns-in_err-row-clause-err : goal.returns-in_err-row-clause-err
returns-in_err-row-clause-err g c =
    let next : IsNext (λ s. Some s.now) c.records.reader c.read_next.new.reader (fields_of c.read_next.new.fields) =
    rw c.if-not-branch.false at c.in_ok-read_next.ensures in
    handed-on c.from_residual-in_err-row.result _ c.in_err-row.field-0.0 c.from_residual-in_err-row.ensures.1
    (answer-fault _ c.records.rows.items c.args.w g.row.D c.args.kind c.records.n (fields_of c.read_next.new.fields) _
    _ c.in_err-row.field-0.0 c.records.invariant.rows next.rest c.in_err-row.ensures.err)

pub records-preserved : goal.records-preserved
records-preserved g c =
    let next : IsNext (λ s. Some s.now) c.records.reader c.read_next.new.reader (fields_of c.read_next.new.fields) =
    rw c.if-not-branch.false at c.in_ok-read_next.ensures in
    let pushed : is_ok c.push.result ≡ true = search rules in
    let items = rw pushed at c.push.ensures.items in
    record {
      reading = next.reading;
      number = omega (arith, next.less, c.records.invariant.number);
      rows = answer-more _ c.records.rows.items _ _ c.args.w g.row.D c.args.kind c.records.n
          (fields_of c.read_next.new.fields) _ _ c.records.invariant.rows next.rest c.in_ok-row.ensures.ok items;
      points = rw items (each-more _ c.records.rows.items c.in_ok-row.row c.records.invariant.points c.in_ok-row.ensures.point);
      boxes = λ h. rw items (each-more _ c.records.rows.items c.in_ok-row.row (c.records.invariant.boxes h) (c.in_ok-row.ensures.boxed h));
    }
