use Rattle.std.proofs.Common.{◌+◌, ◌*◌, ◌^◌, ◌<◌, ℕ, length, take, arith, ◌∙◌, sym, ap, subst, List}
use Rattle.ph_specs.specs.Node.{Flat}
use Rattle.ph_specs.specs.Digits.{number_after}
use Rattle.ph_bits.specs.Written.{number_by}
use Rattle.ph_linear.specs.Written.{address_fields}
use Rattle.ph_linear.proofs.Writing.{given, addresses-more, rising-at}
use Rattle.ph_linear.proofs.writes.put_addresses.Goals as goal

pub put-requires-clause-value : goal.put-requires-clause-value
put-requires-clause-value g c =
    let es : List Flat = g.E.Entries.list c.args.from.now in
    let p = c.at.result in
    let i : ℕ = c.loop-i.i in
    let l : i < length es = omega (arith, c.loop-i-test.true, c.loop-i.invariant.end) in
    let q = given es i p.child p.addr (take g.P.Dims.D p.body) l c.at.ensures.entry in
    subst (λ t. p.addr < 2 ^ t) (sym c.D.ensures)
    (subst (λ t. t < 2 ^ g.P.Dims.D) q.same_addr (rising-at g.P.Dims.D c.requires.entries.0 0 es i c.requires.entries.1 l).0)

pub loop-i-preserved : goal.loop-i-preserved
loop-i-preserved g c =
    let v = c.loop-i.invariant in
    let d : ℕ = g.P.Dims.D in
    let es : List Flat = g.E.Entries.list c.args.from.now in
    let p = c.at.result in
    let i : ℕ = c.loop-i.i in
    let l : i < length es = omega (arith, c.loop-i-test.true, v.end) in
    let q = given es i p.child p.addr (take g.P.Dims.D p.body) l c.at.ensures.entry in
    let r : ℕ = number_by c.args.words.now.words c.args.pen.now in
    record {
      end = v.end;
      mark = c.at.ensures.stands;
      pen = c.put.ensures.pen;
      digits = omega (arith, c.put.ensures.digits, v.digits, c.D.ensures);
      number =
          c.put.ensures.number
          ∙ ap (λ t. number_by c.loop-i.words.words c.loop-i.pen * 2 ^ t + p.addr) c.D.ensures
          ∙ ap (λ t. t * 2 ^ d + p.addr) v.number
          ∙ ap (λ t. number_after r (address_fields d (take i es)) * 2 ^ d + t) (sym q.same_addr)
          ∙ sym (addresses-more d r es i l);
      places = (c.put.ensures.places.0 ∙ v.places.0, c.put.ensures.places.1 ∙ v.places.1);
    }
