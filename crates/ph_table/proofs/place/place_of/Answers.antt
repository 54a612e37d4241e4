use Rattle.std.proofs.Common.{◌≡◌, true, false, arith, rules}
use Rattle.std.proofs.lemmas.Bool.{and_parts}
use Rattle.ph_specs.specs.Coordinate.{same_point}
use Rattle.ph_table.proofs.Places.{place-there, place-new, other-at}
use Rattle.ph_table.proofs.place.place_of.Goals as goal

pub returns-then-i-rows : goal.returns-then-i-rows
returns-then-i-rows g c =
    place-new c.args.w g.row.D c.args.rows.now c.args.p.now _ (omega arith) c.requires.point
    (and_parts _ _ (and_parts _ _ c.requires.table).1).0 (and_parts _ _ c.requires.table).0
    c.rows_before-i.ensures (λ l d. absurd (omega arith))

pub returns-then-eq : goal.returns-then-eq
returns-then-eq g c =
    let s : same_point c.index-rows-i.result.point c.args.p.now ≡ true = search rules in
    place-there c.args.w c.args.rows.now c.args.p.now _ c.index-rows-i.result c.rows_before-i.ensures (omega arith) c.index-rows-i.is s

pub returns-else-eq : goal.returns-else-eq
returns-else-eq g c =
    let s : same_point c.index-rows-i.result.point c.args.p.now ≡ false = search rules in
    place-new c.args.w g.row.D c.args.rows.now c.args.p.now _ (omega arith) c.requires.point
    (and_parts _ _ (and_parts _ _ c.requires.table).1).0 (and_parts _ _ c.requires.table).0
    c.rows_before-i.ensures (λ l d. other-at c.args.rows.now c.args.p.now _ c.index-rows-i.result d l c.index-rows-i.is s)
