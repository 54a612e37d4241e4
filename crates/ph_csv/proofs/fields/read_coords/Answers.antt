use Rattle.std.proofs.Common.{◌≡◌, ◌+◌, ◌∷◌, [], ◌++◌, take, ap, sym, ◌∙◌, arith, rules, add-one}
use Rattle.std.specs.Prelude.{is_some, filter_map}
use mir.Val.{SFits}
use mir.Syntax.{w64}
use Rattle.std.proofs.lemmas.Int.{to_z-of_z}
use Rattle.csv.specs.Records.{fields_of}
use Rattle.ph_specs.specs.Lines.{number}
use Rattle.ph_csv.proofs.FieldNumbers.{field-more, field-there, numbers-next, numbers-stop, numbers-kept, far-more, far-now, front-short}
use Rattle.ph_csv.proofs.fields.read_coords.Goals.{in-Far, in-Near}
use Rattle.ph_csv.proofs.fields.read_coords.Goals as goal

pub unreachable-requires : goal.unreachable-requires
unreachable-requires c =
    let fields = fields_of c.args.fields.now in
    let there = field-there fields c.loop-i.i (omega (arith, c.requires.fields)) in
    let none = rw c.in_default.is at c.get.ensures.value in
    cc (ap is_some none, there)

pub returns-in-Not : goal.returns-in-Not
returns-in-Not c =
    let fields = fields_of c.args.fields.now in
    let more = field-more fields c.loop-i.i c.in-Some.text.now (sym c.in-Some.ensures.value) in
    front-short fields (c.loop-i.i + 1) c.args.count (omega arith)
    (rw (add-one, more) (numbers-stop (take c.loop-i.i fields) c.in-Some.text.now c.in-Not.ensures))

pub returns-then-far : goal.returns-then-far
returns-then-far c =
    let end : c.loop-i.i ≡ c.args.count = omega arith in
    (rw (← end) c.loop-i.invariant.numbers, λ w h. rw (← end) (c.loop-i.invariant.far c.if-far.true w h))

pub loop-i-preserved : goal.loop-i-preserved
loop-i-preserved c =
    let fields = fields_of c.args.fields.now in
    let front = take c.loop-i.i fields in
    let more = field-more fields c.loop-i.i c.in-Some.text.now (sym c.in-Some.ensures.value) in
    elim c.match-read_coord.branch [
      | in-Far w ↦ let far = w.in-Far.ensures in record {
        room = rw w.coords-is (omega arith);
        numbers = rw (add-one, more) (numbers-next front c.in-Some.text.now far.0 far.1 c.loop-i.invariant.numbers);
        near = λ h. cc (h, w.far-is);
        far = λ h b s. rw (add-one, more, numbers-kept front c.in-Some.text.now far.0 far.1) (far-now b (filter_map number front) far.0 (far.2 b s));
      }
      | in-Near w ↦ record {
        room = rw w.coords-is (omega (arith, w.push.ensures.len));
        numbers = rw (add-one, more) (numbers-next front c.in-Some.text.now w.in-Near.c w.in-Near.ensures c.loop-i.invariant.numbers);
        near = λ h. let fits : SFits w64 w.in-Near.c = search rules in
            rw (
              add-one,
              more,
              numbers-kept front c.in-Some.text.now w.in-Near.c w.in-Near.ensures,
              w.coords-is,
              w.push.ensures.items,
              to_z-of_z w64 w.in-Near.c fits,
            )
            (ap (λ t. t ++ w.in-Near.c ∷ []) (c.loop-i.invariant.near (sym w.far-is ∙ h)));
        far = λ h b s. rw (add-one, more, numbers-kept front c.in-Some.text.now w.in-Near.c w.in-Near.ensures)
            (far-more b (filter_map number front) w.in-Near.c (c.loop-i.invariant.far (sym w.far-is ∙ h) b s));
      }
    ]
