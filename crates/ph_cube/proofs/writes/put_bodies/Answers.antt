use Rattle.std.proofs.Common.{◌≡◌, ◌+◌, ◌-◌, ◌*◌, ◌^◌, ◌<◌, ◌≤◌, ℕ, length, take, map, arith, ◌∙◌, sym, ap, subst, List, get_or}
use Rattle.std.specs.List.{AllByRecursion as Each}
use Rattle.std.proofs.Math.Nat.{mul-le-mul_left}
use Rattle.ph_specs.specs.Node.{Flat}
use Rattle.ph_specs.specs.Digits.{field, number_after}
use Rattle.ph_specs.specs.Pack.{at_address, places, place_body}
use Rattle.ph_model.specs.Layout.{AreRising}
use Rattle.ph_model.proofs.lemmas.Cubes.{places-bodies}
use Rattle.ph_bits.specs.Block.{room_of}
use Rattle.ph_bits.specs.Written.{digits_by, number_by}
use Rattle.ph_linear.proofs.Writing.{Given, no_flat, given, bodies-none}
use Rattle.ph_cube.proofs.Standing.{Coming, coming, absent-behind}
use Rattle.ph_cube.proofs.PlaceRuns.{bodies_to, bodies-run, bodies-next, run-digits}
use Rattle.ph_cube.proofs.writes.put_bodies.Given.{Over}
use Rattle.ph_cube.proofs.writes.put_bodies.Goals as goal
use Rattle.ph_cube.proofs.writes.put_bodies.Goals.{After-at-entry}

-- the entry that was read comes next
inside : (g : Over) (c : After-at-entry g) → c.loop-i.i < length (g.E.Entries.list c.args.from.now)
inside g c = omega (arith, c.loop-i-test.true, c.loop-i.invariant.end)

read : (g : Over) (c : After-at-entry g) →
    Given (get_or (g.E.Entries.list c.args.from.now) c.loop-i.i no_flat) c.at-entry.result.child c.at-entry.result.addr
    (take g.P.Dims.D c.at-entry.result.body)
read g c =
    given (g.E.Entries.list c.args.from.now) c.loop-i.i c.at-entry.result.child c.at-entry.result.addr
    (take g.P.Dims.D c.at-entry.result.body) (inside g c) c.at-entry.ensures.entry

next : (g : Over) (c : After-at-entry g) →
    Coming g.P.Dims.D c.args.level c.loop-i.passed c.loop-i.i c.at-entry.result.addr (g.E.Entries.list c.args.from.now)
next g c =
    coming g.P.Dims.D c.args.level c.loop-i.passed c.loop-i.i c.at-entry.result.addr (g.E.Entries.list c.args.from.now)
    (inside g c) (read g c).same_addr c.loop-i.invariant.at

-- the digits up to the next entry, and those with its body
run : (g : Over) (c : After-at-entry g) →
    digits_by c.loop-i.words.words c.loop-i.pen + c.D-dims.result * c.args.level * (c.at-entry.result.addr - c.loop-i.passed)
    ≡ digits_by c.args.words.now.words c.args.pen.now + c.at-entry.result.addr * (g.P.Dims.D * c.args.level)
run g c =
    run-digits (digits_by c.args.words.now.words c.args.pen.now) (digits_by c.loop-i.words.words c.loop-i.pen) c.D-dims.result g.P.Dims.D c.args.level
    c.loop-i.passed c.at-entry.result.addr c.D-dims.ensures (next g c).order c.loop-i.invariant.digits

room : (g : Over) (c : After-at-entry g) →
    digits_by c.args.words.now.words c.args.pen.now + c.at-entry.result.addr * (g.P.Dims.D * c.args.level) + g.P.Dims.D * c.args.level
    ≤ 64 * room_of c.args.words.now
room g c =
    let w : ℕ = g.P.Dims.D * c.args.level in
    let m : g.P.Dims.D * c.args.level * (c.at-entry.result.addr + 1) ≤ g.P.Dims.D * c.args.level * 2 ^ g.P.Dims.D =
    mul-le-mul_left w (omega (arith, (next g c).limit)) in
    omega (arith, m, c.requires.inside)

pub overflow_sub-addr : goal.overflow_sub-addr
overflow_sub-addr g c = (next g (goal.at.overflow_sub-addr g c).After-at-entry).order

pub put_zeros-requires-clause-inside : goal.put_zeros-requires-clause-inside
put_zeros-requires-clause-inside g c =
    let at = (goal.at.put_zeros-requires-clause-inside g c).After-at-entry in
    omega (arith, run g at, room g at, c.loop-i.invariant.places.0)

pub put_row-requires-clause-inside : goal.put_row-requires-clause-inside
put_row-requires-clause-inside g c =
    let at = (goal.at.put_row-requires-clause-inside g c).After-at-entry in
    let row : c.D-dims.result * c.args.level ≡ g.P.Dims.D * c.args.level = ap (λ t. t * c.args.level) c.D-dims.ensures in
    omega (arith, c.put_zeros.ensures.digits, c.put_zeros.ensures.places.0, run g at, room g at, row, c.loop-i.invariant.places.0)

pub put_row-requires-clause-values : goal.put_row-requires-clause-values
put_row-requires-clause-values g c =
    let at = (goal.at.put_row-requires-clause-values g c).After-at-entry in
    subst (λ t. Each (λ v. v < 2 ^ c.args.level) (take t c.at-entry.result.body)) (sym c.D-dims.ensures)
    (subst (Each (λ v. v < 2 ^ c.args.level)) (read g at).same_body (next g at).body.1)

pub loop-i-preserved : goal.loop-i-preserved
loop-i-preserved g c =
    let at = (goal.at.loop-i-preserved g c).After-at-entry in
    let v = c.loop-i.invariant in
    let d : ℕ = g.P.Dims.D in
    let w : ℕ = c.args.level in
    let es : List Flat = g.E.Entries.list c.args.from.now in
    let p = c.at-entry.result in
    let before : ℕ = c.loop-i.passed in
    let r : ℕ = number_by c.args.words.now.words c.args.pen.now in
    let n = next g at in
    let row : c.D-dims.result * c.args.level ≡ g.P.Dims.D * c.args.level = ap (λ t. t * w) c.D-dims.ensures in
    let body : place_body g.P.Dims.D (at_address p.addr es) ≡ take g.P.Dims.D p.body = ap (place_body d) n.there ∙ (read g at).same_body in
    record {
      end = v.end;
      at = n.passed;
      pen = c.put_row.ensures.pen;
      digits = omega (arith, c.put_row.ensures.digits, c.put_zeros.ensures.digits, run g at, row);
      number =
          c.put_row.ensures.number
          ∙ ap (λ t. number_after t (map (field w) (take c.D-dims.result p.body))) (c.put_zeros.ensures.number
          ∙ ap (λ t. t * 2 ^ (c.D-dims.result * w * (p.addr - before))) v.number)
          ∙ ap (λ t. number_after (bodies_to d w r before es * 2 ^ (t * w * (p.addr - before))) (map (field w) (take t p.body))) c.D-dims.ensures
          ∙ bodies-next d w r before p.addr (take d p.body) es n.order n.absent body;
      places = (c.put_row.ensures.places.0 ∙ c.put_zeros.ensures.places.0 ∙ v.places.0, c.put_row.ensures.places.1 ∙ c.put_zeros.ensures.places.1 ∙ v.places.1);
      mark = c.at-entry.ensures.stands;
    }

-- at level 0
pub returns-then-level-eq0-clause-number : goal.returns-then-level-eq0-clause-number
returns-then-level-eq0-clause-number g c =
    let d : ℕ = g.P.Dims.D in
    let z : c.args.level ≡ 0 = omega (arith, c.if-level-eq0.true) in
    let es : List Flat = g.E.Entries.list c.args.from.now in
    let r : ℕ = number_by c.args.words.now.words c.args.pen.now in
    let rise : AreRising g.P.Dims.D 0 0 (g.E.Entries.list c.args.from.now) = subst (λ t. AreRising g.P.Dims.D t 0 (g.E.Entries.list c.args.from.now)) z c.requires.entries in
    sym (ap (λ t. bodies_to d t r (2 ^ d) es) z ∙ bodies-none d r (map (place_body d) (places (2 ^ d) 0 es)) (places-bodies d 0 0 (2 ^ d) 0 es rise))

-- behind the last entry
pub put_zeros-requires-2-clause-inside : goal.put_zeros-requires-2-clause-inside
put_zeros-requires-2-clause-inside g c =
    let v = c.loop-i.invariant in
    let all : c.addresses.result ≡ 2 ^ g.P.Dims.D = c.addresses.ensures ∙ ap (λ t. 2 ^ t) c.D-dims.ensures in
    let last = run-digits (digits_by c.args.words.now.words c.args.pen.now) (digits_by c.loop-i.words.words c.loop-i.pen) c.D-dims.result g.P.Dims.D c.args.level
    c.loop-i.passed c.addresses.result c.D-dims.ensures (omega (arith, all, v.at.limit)) v.digits in
    omega (arith, last, ap (λ t. t * (g.P.Dims.D * c.args.level)) all, v.places.0, c.requires.inside)

pub returns-clause-digits : goal.returns-clause-digits
returns-clause-digits g c =
    let v = c.loop-i.invariant in
    let r : ℕ = digits_by c.args.words.now.words c.args.pen.now in
    let all : c.addresses.result ≡ 2 ^ g.P.Dims.D = c.addresses.ensures ∙ ap (λ t. 2 ^ t) c.D-dims.ensures in
    c.put_zeros-2.ensures.digits
    ∙ run-digits r (digits_by c.loop-i.words.words c.loop-i.pen) c.D-dims.result g.P.Dims.D c.args.level
    c.loop-i.passed c.addresses.result c.D-dims.ensures (omega (arith, all, v.at.limit)) v.digits
    ∙ ap (λ t. r + t * (g.P.Dims.D * c.args.level)) all

pub returns-clause-number : goal.returns-clause-number
returns-clause-number g c =
    let v = c.loop-i.invariant in
    let d : ℕ = g.P.Dims.D in
    let w : ℕ = c.args.level in
    let es : List Flat = g.E.Entries.list c.args.from.now in
    let before : ℕ = c.loop-i.passed in
    let r : ℕ = number_by c.args.words.now.words c.args.pen.now in
    let all : c.addresses.result ≡ 2 ^ g.P.Dims.D = c.addresses.ensures ∙ ap (λ t. 2 ^ t) c.D-dims.ensures in
    c.put_zeros-2.ensures.number
    ∙ ap (λ t. t * 2 ^ (c.D-dims.result * w * (c.addresses.result - before))) v.number
    ∙ ap (λ t. bodies_to d w r before es * 2 ^ (t * w * (c.addresses.result - before))) c.D-dims.ensures
    ∙ ap (λ t. bodies_to d w r before es * 2 ^ (d * w * (t - before))) all
    ∙ bodies-run d w r before (2 ^ d) es v.at.limit
    (absent-behind d w before c.loop-i.i (2 ^ d) es (omega (arith, c.loop-i-test.false, v.end)) v.at)
