use Rattle.std.proofs.Common.{◌≡◌, ◌*◌, ◌^◌, ◌<◌, ℕ, length, take, map, arith, ◌∙◌, sym, ap, subst, List, get_or}
use Rattle.std.specs.List.{AllByRecursion as Each}
use Rattle.ph_specs.specs.Node.{Flat}
use Rattle.ph_specs.specs.Digits.{field, number_after}
use Rattle.ph_specs.specs.Pack.{bodies}
use Rattle.ph_model.specs.Layout.{AreRising}
use Rattle.ph_model.proofs.lemmas.Columns.{entries-bodies}
use Rattle.ph_bits.specs.Written.{number_by}
use Rattle.ph_linear.specs.Written.{body_list}
use Rattle.ph_linear.proofs.Writing.{given, no_flat, bodies-more, bodies-none, rising-at}
use Rattle.ph_linear.proofs.writes.put_bodies.Given.{Over}
use Rattle.ph_linear.proofs.writes.put_bodies.Goals as goal
use Rattle.ph_linear.proofs.writes.put_bodies.Goals.{After-at-entry}

-- the body that is written is that of the entry, and its fields are small
row : (g : Over) (c : After-at-entry g) →
    ((get_or (g.E.Entries.list c.args.from.now) c.loop-i.i no_flat).body ≡ take g.P.Dims.D c.at-entry.result.body) ×
    Each (λ v. v < 2 ^ c.args.level) (take g.P.Dims.D c.at-entry.result.body)
row g c =
    let es : List Flat = g.E.Entries.list c.args.from.now in
    let p = c.at-entry.result in
    let l : c.loop-i.i < length es = omega (arith, c.loop-i-test.true, c.loop-i.invariant.end) in
    let q = given es c.loop-i.i p.child p.addr (take g.P.Dims.D p.body) l c.at-entry.ensures.entry in
    let b = (rising-at g.P.Dims.D c.args.level 0 es c.loop-i.i c.requires.entries l).1 in
    (q.same_body, subst (Each (λ v. v < 2 ^ c.args.level)) q.same_body b.1)

pub put_row-requires-clause-values : goal.put_row-requires-clause-values
put_row-requires-clause-values g c =
    subst (λ t. Each (λ v. v < 2 ^ c.args.level) (take t c.at-entry.result.body)) (sym c.D.ensures)
    (row g (goal.at.put_row-requires-clause-values g c).After-at-entry).1

pub loop-i-preserved : goal.loop-i-preserved
loop-i-preserved g c =
    let v = c.loop-i.invariant in
    let same = (row g (goal.at.loop-i-preserved g c).After-at-entry).0 in
    let d : ℕ = g.P.Dims.D in
    let w : ℕ = c.args.level in
    let es : List Flat = g.E.Entries.list c.args.from.now in
    let body : List ℕ = c.at-entry.result.body in
    let i : ℕ = c.loop-i.i in
    let r : ℕ = number_by c.args.words.now.words c.args.pen.now in
    let e : c.D.result * w ≡ d * w = ap (λ t. t * w) c.D.ensures in
    record {
      end = v.end;
      mark = c.at-entry.ensures.stands;
      pen = c.put_row.ensures.pen;
      digits = omega (arith, c.put_row.ensures.digits, v.digits, e);
      number =
          c.put_row.ensures.number
          ∙ ap (λ t. number_after (number_by c.loop-i.words.words c.loop-i.pen) (map (field w) (take t body))) c.D.ensures
          ∙ ap (λ t. number_after t (map (field w) (take d body))) v.number
          ∙ ap (λ t. number_after (number_after r (bodies w (body_list (take i es)))) (map (field w) t)) (sym same)
          ∙ sym (bodies-more w r es i (omega (arith, c.loop-i-test.true, v.end)));
      places = (c.put_row.ensures.places.0 ∙ v.places.0, c.put_row.ensures.places.1 ∙ v.places.1);
    }

-- at level 0
pub returns-then-level-eq0-clause-number : goal.returns-then-level-eq0-clause-number
returns-then-level-eq0-clause-number g c =
    let z : c.args.level ≡ 0 = omega (arith, c.if-level-eq0.true) in
    let es : List Flat = g.E.Entries.list c.args.from.now in
    let r : ℕ = number_by c.args.words.now.words c.args.pen.now in
    let rise : AreRising g.P.Dims.D 0 0 (g.E.Entries.list c.args.from.now) = subst (λ t. AreRising g.P.Dims.D t 0 (g.E.Entries.list c.args.from.now)) z c.requires.entries in
    sym (ap (λ t. number_after r (bodies t (body_list es))) z ∙ bodies-none g.P.Dims.D r (body_list es) (entries-bodies g.P.Dims.D 0 0 es rise))
