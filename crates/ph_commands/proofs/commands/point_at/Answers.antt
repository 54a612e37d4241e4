use Rattle.std.proofs.Common.{◌≡◌, arith, sym, ap, ◌∙◌, length, pos, w64, SFits, rules}
use Rattle.std.proofs.lemmas.List.{length-map, get_or-map}
use Rattle.std.proofs.lemmas.Grind.{common_steps}
use Rattle.std.proofs.lemmas.Int.{to_z-of_z}
use Rattle.ph_specs.specs.Coordinate.{IsPoint}
use Rattle.ph_script.specs.Meaning.{number_of_coord, numbers_of}
use Rattle.ph_script.specs.declared.coords.Coord.TheVariants.{Far}
use Rattle.ph_coord.proofs.Filled.{filled-next, filled-all}
use Rattle.ph_commands.proofs.Far.{fits-at, first-whole}
use Rattle.ph_commands.proofs.commands.point_at.Given.{Over}
use Rattle.ph_commands.proofs.commands.point_at.Goals.{In-Some}
use Rattle.ph_commands.proofs.commands.point_at.Goals as goal

pub unreachable-requires : goal.unreachable-requires
unreachable-requires g c =
    let long : length c.as_slice.result.now ≡ g.row.D = ap (λ xs. length xs) c.as_slice.ensures.value ∙ c.requires.dims in
    omega (arith, long, c.in_default.ensures.cases)

-- the coordinates are as many as there are dimensions
same : (g : Over) (c : In-Some g) → c.in-Some.coords.now ≡ c.args.at.now
same g c = first-whole c.as_slice.result.now c.in-Some.coords.now c.args.at.now g.row.D c.in-Some.ensures.cases c.as_slice.ensures.value c.requires.dims

few : (g : Over) (c : In-Some g) → length c.in-Some.coords.now ≡ g.row.D
few g c = ap (λ xs. length xs) (same g c) ∙ c.requires.dims

pub number_at-requires : goal.number_at-requires
number_at-requires g c =
    let found = (goal.at.number_at-requires g c).In-Some in
    fits-at c.args.w c.in-Some.coords.now c.loop-i.i Far (rw (same g found) c.requires.range) (omega (arith, few g found, c.loop-i-test.true))

pub loop-i-preserved : goal.loop-i-preserved
loop-i-preserved g c =
    let coords = c.in-Some.coords.now in
    let few : length coords ≡ g.row.D = few g (goal.at.loop-i-preserved g c).In-Some in
    let long : length (numbers_of coords) ≡ length coords = length-map coords number_of_coord in
    let fits : SFits w64 c.number_at.result = search rules in
    filled-next g.row.D (pos 0) (numbers_of coords) c.loop-i.numbers c.loop-i.i _ (pos 0) c.loop-i.invariant
    (omega (arith, long, few, c.loop-i-test.true)) (omega (arith, long, few))
    (to_z-of_z w64 c.number_at.result fits ∙ c.number_at.ensures
    ∙ sym (get_or-map number_of_coord coords c.loop-i.i Far (pos 0) (omega (arith, few, c.loop-i-test.true))))

pub returns-clause-value : goal.returns-clause-value
returns-clause-value g c =
    let coords = c.in-Some.coords.now in
    let found = (goal.at.returns-clause-value g c).In-Some in
    c.new.ensures
    ∙ filled-all g.row.D (pos 0) (numbers_of coords) c.loop-i.numbers c.loop-i.i c.loop-i.invariant
    (length-map coords number_of_coord ∙ few g found) (omega (arith, few g found, c.loop-i-test.false))
    ∙ ap numbers_of (same g found)

pub returns-clause-point : goal.returns-clause-point
returns-clause-point g c =
    let point : IsPoint c.args.w g.row.D (numbers_of c.args.at.now) = grind (arith, common_steps) in
    rw (returns-clause-value g c) point
