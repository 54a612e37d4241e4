use Rattle.std.proofs.Common.{◌≡◌, ◌+◌, ◌^◌, ◌≤◌, List, length, arith, sym, ap, ◌∙◌, take, true}
use Rattle.std.specs.Prelude.{nat_le}
use Rattle.std.specs.List.{position_or_len}
use Rattle.ph_model.specs.Layout.{entries_as, read_address}
use Rattle.ph_model.specs.NodeSize.{children_in, points_in}
use Rattle.ph_specs.specs.Record.{Read}
use Rattle.ph_model.proofs.laws.TableFields.{both-counts}
use Rattle.ph_model.proofs.laws.WordDigits.{each-fits}
use Rattle.ph_model.proofs.lemmas.ReadColumns.{length-parts}
use Rattle.ph_cube.specs.Cube.{kinds, bodies, twos_in}
use Rattle.ph_cube.proofs.Columns.{length-kinds}
use Rattle.ph_cube.proofs.EditedPlaces.{below-most}
use Rattle.ph_cube.proofs.Places.{place-next, children-at}
use Rattle.ph_cube.proofs.Ranks.{twos-digits}
use Rattle.ph_cube.proofs.edits.points_before.Goals as goal

counted : (c : goal.After-children_before) → c.args.i ≡ c.children_before.result + points_in (take c.args.i (entries_as true c.args.dims c.args.old.now))
counted c =
    let words = c.args.old.now in
    let d = c.args.dims in
    let a = c.args.addr in
    let rs : List Read = entries_as true d words in
    let many : length (bodies d words) ≡ length (kinds d words) = length-parts (2 ^ d) d _ ∙ sym (length-kinds d words) in
    let l : a ≤ length (kinds d words) = omega (arith, c.requires.limit, length-kinds d words) in
    let z : 0 + a ≡ a = omega arith in
    let p = c.requires.place ∙ ap (λ t. position_or_len (λ r. nat_le t (read_address r)) rs) (sym z) ∙ place-next 0 (kinds d words) (bodies d words) a many l in
    let m : c.args.i ≤ length rs = omega (arith, c.requires.place, below-most (λ r. nat_le a (read_address r)) rs) in
    let k : children_in (take c.args.i rs) ≡ twos_in words 64 a =
    ap (λ t. children_in (take t rs)) p ∙ children-at 0 (kinds d words) (bodies d words) a many l ∙
    sym (twos-digits d words a c.requires.record (each-fits words c.type_inv.old) c.requires.limit) in
    omega (arith, both-counts rs c.args.i m, k, c.children_before.ensures)

pub overflow_sub-result : goal.overflow_sub-result
overflow_sub-result c = omega (arith, counted c)

pub returns : goal.returns
returns c = omega (arith, counted c)
