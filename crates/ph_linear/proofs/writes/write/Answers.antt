use Rattle.std.proofs.Common.{◌∷◌, [], arith, ◌∙◌, ap, List, false}
use Rattle.ph_specs.specs.Node.{Flat}
use Rattle.ph_specs.specs.Digits.{number_after, words_for}
use Rattle.ph_specs.specs.Pack.{bodies}
use Rattle.ph_model.proofs.lemmas.LayoutTables.{table-digits}
use Rattle.ph_bits.specs.Fields.{number_in}
use Rattle.ph_linear.specs.Written.{kind_fields, address_fields, body_list}
use Rattle.ph_linear.proofs.Writing.{table-number}
use Rattle.ph_linear.proofs.writes.write.Goals as goal

pub close-requires-clause-digits : goal.close-requires-clause-digits
close-requires-clause-digits g c =
    omega (
      arith,
      c.put_bodies.ensures.digits,
      c.put_addresses.ensures.digits,
      c.put_kinds-children.ensures.digits,
      c.begin-pen.ensures.digits,
      table-digits false g.P.Dims.D c.args.level 0 (g.E.Entries.list c.args.from.now) c.requires.entries,
    )

pub close-requires-clause-number : goal.close-requires-clause-number
close-requires-clause-number g c =
    let es : List Flat = g.E.Entries.list c.args.from.now in
    c.put_bodies.ensures.number
    ∙ ap (λ s. number_after s (bodies c.args.level (body_list es)))
    (c.put_addresses.ensures.number ∙ ap (λ s. number_after s (address_fields g.P.Dims.D es))
    (c.put_kinds-children.ensures.number ∙ ap (λ s. number_after s (kind_fields es)) c.begin-pen.ensures.number))
    ∙ table-number g.P.Dims.D c.args.level (number_in (0 ∷ [])) es

pub close-requires-clause-room : goal.close-requires-clause-room
close-requires-clause-room g c =
    omega (
      arith,
      c.requires.room,
      ap words_for (table-digits false g.P.Dims.D c.args.level 0 (g.E.Entries.list c.args.from.now) c.requires.entries),
      c.begin-pen.ensures.places.0,
      c.put_kinds-children.ensures.places.0,
      c.put_addresses.ensures.places.0,
      c.put_bodies.ensures.places.0,
    )
