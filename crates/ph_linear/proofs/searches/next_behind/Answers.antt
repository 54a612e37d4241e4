use Rattle.std.proofs.Common.{◌≡◌, ◌+◌, ◌-◌, ◌<◌, ◌∙◌, sym, subst, arith, slice_index_or}
use Rattle.std.specs.Prelude.{nat_le}
use Rattle.ph_linear.specs.Linear.{addresses}
use Rattle.ph_linear.proofs.Columns.{length-addresses}
use Rattle.ph_linear.proofs.Halving.{next_some, place-entries}
use Rattle.ph_linear.proofs.Ranks.{address-is}
use Rattle.ph_linear.proofs.searches.next_behind.Goals as goal

pub near_place-requires-clause-below : goal.near_place-requires-clause-below
near_place-requires-clause-below c =
    let xs = addresses c.args.dims c.args.words.now in
    let is = address-is c.args.dims c.args.words.now c.args.place c.requires.within in
    let less : slice_index_or xs c.args.place 0 < c.args.addr = rw is at c.requires.above in
    let at : c.args.place ≡ c.args.place + 1 - 1 = omega arith in
    subst (λ t. slice_index_or xs t 0 < c.args.addr) at less

pub returns-in-Some : goal.returns-in-Some
returns-in-Some c =
    let words = c.args.words.now in
    next_some (λ x. nat_le c.args.addr x) (addresses c.args.dims words) c.in-Some.i c.in-Some.ensures.value
    (omega (arith, c.in-Some.ensures.within, length-addresses c.args.dims words, c.count_in-count.ensures))
    ∙ sym (place-entries (λ x. nat_le c.args.addr x) c.args.dims words)
