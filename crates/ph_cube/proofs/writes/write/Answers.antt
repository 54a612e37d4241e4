use Rattle.std.proofs.Common.{◌∷◌, [], ◌^◌, ℕ, map, arith, ◌∙◌, ap, List, true}
use Rattle.ph_specs.specs.Node.{Flat}
use Rattle.ph_specs.specs.Digits.{number_after, words_for}
use Rattle.ph_specs.specs.Pack.{bodies, places, place_kind, place_body}
use Rattle.ph_model.proofs.lemmas.LayoutTables.{table-digits}
use Rattle.ph_bits.specs.Fields.{number_in}
use Rattle.ph_cube.proofs.PlaceRuns.{table-number}
use Rattle.ph_cube.proofs.writes.write.Goals as goal

pub close-requires-clause-digits : goal.close-requires-clause-digits
close-requires-clause-digits g c =
    let all = table-digits true g.P.Dims.D c.args.level 0 (g.E.Entries.list c.args.from.now) c.requires.entries in
    omega (arith, c.put_bodies.ensures.digits, c.put_kinds-children.ensures.digits, c.begin-pen.ensures.digits, all)

pub close-requires-clause-number : goal.close-requires-clause-number
close-requires-clause-number g c =
    let es : List Flat = g.E.Entries.list c.args.from.now in
    let d : ℕ = g.P.Dims.D in
    c.put_bodies.ensures.number
    ∙ ap (λ s. number_after s (bodies c.args.level (map (place_body d) (places (2 ^ d) 0 es))))
    (c.put_kinds-children.ensures.number ∙ ap (λ s. number_after s (map place_kind (places (2 ^ d) 0 es))) c.begin-pen.ensures.number)
    ∙ table-number d c.args.level (number_in (0 ∷ [])) es

pub close-requires-clause-room : goal.close-requires-clause-room
close-requires-clause-room g c =
    let all = table-digits true g.P.Dims.D c.args.level 0 (g.E.Entries.list c.args.from.now) c.requires.entries in
    omega (arith, c.requires.room, ap words_for all, c.begin-pen.ensures.places.0, c.put_kinds-children.ensures.places.0, c.put_bodies.ensures.places.0)
