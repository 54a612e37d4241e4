use Rattle.std.proofs.Common.{◌≡◌, ◌∷◌, [], List, arith, ◌∙◌, ap}
use Rattle.ph_specs.specs.Node.{Flat}
use Rattle.ph_specs.specs.Digits.{words_of}
use Rattle.ph_specs.specs.Pack.{first_word, table}
use Rattle.ph_model.proofs.lemmas.LayoutTables.{children-few, table-fit}
use Rattle.ph_linear.proofs.Writing.{byte, byte-few, few, finished}
use Rattle.ph_linear.proofs.writes.close.Goals as goal

pub finish-requires-clause-inside : goal.finish-requires-clause-inside
finish-requires-clause-inside g c = omega (arith, c.requires.digits, c.requires.room)

pub put_values-requires : goal.put_values-requires
put_values-requires g c = omega (arith, c.finish.ensures.length, c.requires.digits, c.requires.room, c.finish.ensures.places.0)

pub first_of-first-requires-clause-layout : goal.first_of-first-requires-clause-layout
first_of-first-requires-clause-layout g c = byte-few c.args.cube

pub first_of-first-requires-clause-count : goal.first_of-first-requires-clause-count
first_of-first-requires-clause-count g c =
    omega (arith, c.count.ensures, few g.P.Dims.D c.args.level (g.E.Entries.list c.args.from.now) c.requires.few c.requires.entries)

pub first_of-first-requires-clause-children : goal.first_of-first-requires-clause-children
first_of-first-requires-clause-children g c =
    omega (arith, c.requires.children, c.count.ensures, children-few (g.E.Entries.list c.args.from.now))

pub returns-clause-words : goal.returns-clause-words
returns-clause-words g c =
    let es : List Flat = g.E.Entries.list c.args.from.now in
    let fs = table c.args.cube g.P.Dims.D c.args.level es in
    let whole : c.finish.new.words.words ≡ 0 ∷ words_of fs = c.finish.ensures.table (0 ∷ []) fs (omega arith, tt)
    (table-fit c.args.cube g.P.Dims.D c.args.level 0 es c.requires.entries) (omega (arith, c.requires.digits)) c.requires.number in
    ap (λ t. t.words) c.set.ensures
    ∙ finished c.args.cube g.P.Dims.D c.args.level es c.finish.new.words.words c.put_values.new.words.words c.count.result
    c.args.children c.first_of-first.result whole c.put_values.ensures.words
    (c.first_of-first.ensures ∙ ap (λ t. first_word c.args.level t c.count.result c.args.children) (byte c.args.cube))
    c.count.ensures c.requires.children
