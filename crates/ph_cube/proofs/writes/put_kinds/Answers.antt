use Rattle.std.proofs.Common.{◌≡◌, ◌+◌, ◌-◌, ◌*◌, ◌^◌, ◌<◌, ℕ, length, take, arith, ◌∙◌, sym, ap, List, get_or}
use mir.Val.{bool_byte}
use Rattle.ph_specs.specs.Node.{Flat}
use Rattle.ph_specs.specs.Pack.{at_address}
use Rattle.ph_bits.specs.Written.{number_by}
use Rattle.ph_linear.proofs.Writing.{Given, no_flat, given, byte, byte-few, child-counted}
use Rattle.ph_cube.proofs.Standing.{Coming, coming, absent-behind}
use Rattle.ph_cube.proofs.PlaceRuns.{kind_number, kinds_to, kinds-run, kinds-next}
use Rattle.ph_cube.proofs.writes.put_kinds.Given.{Over}
use Rattle.ph_cube.proofs.writes.put_kinds.Goals as goal
use Rattle.ph_cube.proofs.writes.put_kinds.Goals.{After-at-entry}

-- the entry that was read comes next
inside : (g : Over) (c : After-at-entry g) → c.loop-i.i < length (g.E.Entries.list c.args.from.now)
inside g c = omega (arith, c.loop-i-test.true, c.loop-i.invariant.end)

read : (g : Over) (c : After-at-entry g) →
    Given (get_or (g.E.Entries.list c.args.from.now) c.loop-i.i no_flat) c.at-entry.result.child c.at-entry.result.addr
    (take g.P.Dims.D c.at-entry.result.body)
read g c =
    given (g.E.Entries.list c.args.from.now) c.loop-i.i c.at-entry.result.child c.at-entry.result.addr
    (take g.P.Dims.D c.at-entry.result.body) (inside g c) c.at-entry.ensures.entry

next : (g : Over) (c : After-at-entry g) →
    Coming g.P.Dims.D c.loop-i.invariant.at.0 c.loop-i.passed c.loop-i.i c.at-entry.result.addr (g.E.Entries.list c.args.from.now)
next g c =
    coming g.P.Dims.D c.loop-i.invariant.at.0 c.loop-i.passed c.loop-i.i c.at-entry.result.addr (g.E.Entries.list c.args.from.now)
    (inside g c) (read g c).same_addr c.loop-i.invariant.at.1

pub overflow_sub-addr : goal.overflow_sub-addr
overflow_sub-addr g c = (next g (goal.at.overflow_sub-addr g c).After-at-entry).order

pub put_zeros-requires-clause-inside : goal.put_zeros-requires-clause-inside
put_zeros-requires-clause-inside g c =
    let n = next g (goal.at.put_zeros-requires-clause-inside g c).After-at-entry in
    let v = c.loop-i.invariant in
    omega (arith, v.digits, v.places.0, c.requires.inside, n.order, n.limit)

pub put-requires-clause-inside : goal.put-requires-clause-inside
put-requires-clause-inside g c =
    let n = next g (goal.at.put-requires-clause-inside g c).After-at-entry in
    let v = c.loop-i.invariant in
    omega (arith, c.put_zeros.ensures.digits, c.put_zeros.ensures.places.0, v.digits, v.places.0, c.requires.inside, n.order, n.limit)

pub loop-i-preserved : goal.loop-i-preserved
loop-i-preserved g c =
    let at = (goal.at.loop-i-preserved g c).After-at-entry in
    let v = c.loop-i.invariant in
    let es : List Flat = g.E.Entries.list c.args.from.now in
    let p = c.at-entry.result in
    let k : ℕ = 1 + bool_byte p.child in
    let before : ℕ = c.loop-i.passed in
    let r : ℕ = number_by c.args.words.now.words c.args.pen.now in
    let n = next g at in
    let kind : 1 + bool_byte p.child ≡ kind_number (at_address p.addr es) =
    ap (λ t. 1 + t) (byte p.child ∙ sym (read g at).same_kind) ∙ sym (ap kind_number n.there) in
    record {
      end = v.end;
      at = (v.at.0, n.passed);
      few = omega (arith, v.few, byte-few p.child);
      children = child-counted es c.loop-i.i p.child p.addr (take g.P.Dims.D p.body) (inside g at) c.at-entry.ensures.entry _ v.children;
      pen = c.put.ensures.pen;
      digits = omega (arith, c.put.ensures.digits, c.put_zeros.ensures.digits, v.digits, n.order);
      number =
          c.put.ensures.number
          ∙ ap (λ t. t * 2 ^ 2 + k) (c.put_zeros.ensures.number ∙ ap (λ t. t * 2 ^ (2 * (p.addr - before))) v.number)
          ∙ kinds-next r before p.addr k es n.order n.absent kind;
      places = (c.put.ensures.places.0 ∙ c.put_zeros.ensures.places.0 ∙ v.places.0, c.put.ensures.places.1 ∙ c.put_zeros.ensures.places.1 ∙ v.places.1);
      mark = c.at-entry.ensures.stands;
    }

pub returns-clause-number : goal.returns-clause-number
returns-clause-number g c =
    let v = c.loop-i.invariant in
    let d : ℕ = g.P.Dims.D in
    let es : List Flat = g.E.Entries.list c.args.from.now in
    let before : ℕ = c.loop-i.passed in
    let r : ℕ = number_by c.args.words.now.words c.args.pen.now in
    let all : c.addresses.result ≡ 2 ^ g.P.Dims.D = c.addresses.ensures ∙ ap (λ t. 2 ^ t) c.D.ensures in
    c.put_zeros-2.ensures.number
    ∙ ap (λ t. t * 2 ^ (2 * (c.addresses.result - before))) v.number
    ∙ ap (λ t. kinds_to r before es * 2 ^ (2 * (t - before))) all
    ∙ kinds-run r before (2 ^ d) es v.at.1.limit
    (absent-behind d v.at.0 before c.loop-i.i (2 ^ d) es (omega (arith, c.loop-i-test.false, v.end)) v.at.1)
