use Rattle.std.proofs.Common.{◌≡◌, ◌≤◌, length, ap, sym, ◌∙◌, arith, lit<}
use Rattle.std.specs.Prelude.{Ok, Err}
use Rattle.std.proofs.Math.ListN.{set}
use Rattle.std.proofs.lemmas.List.{length-set}
use Rattle.ph_slot.specs.Naming.{place, entered_at}
use Rattle.ph_slot.specs.Slots.{named}
use Rattle.ph_slot.proofs.Names.{room-for, refilled}
use Rattle.ph_slot.proofs.Sizes.{small-list, small-offset}
use Rattle.ph_slot.proofs.cursors.enter.Goals as goal

pub offset_bounds-as_mut_slice-i : goal.offset_bounds-as_mut_slice-i
offset_bounds-as_mut_slice-i g c =
    let within = rw c.in-Ok.is at c.place_of.ensures.within in
    record {
      fits = small-offset c.in-Ok.i g.row.D 18446744073709551616 (omega (arith, within, c.as_slice.ensures.fits)) c.requires.limit (lit< tt);
    }

pub insert-requires : goal.insert-requires
insert-requires g c =
    let within = rw c.in-Err.is at c.place_of.ensures.within in
    let at : place c.args.held.name (named c.args.cursors.now.items) ≡ Err c.in-Err.i =
    ap (λ xs. place c.args.held.name (named xs)) (sym c.as_slice.ensures.value) ∙ sym c.place_of.ensures.place ∙
    c.in-Err.is in
    let few : length c.args.cursors.now.items ≤ 16 = omega (arith, c.as_slice.ensures.fits, ap (λ xs. length xs) c.as_slice.ensures.value) in
    let same : length c.as_slice.result.now ≡ length c.args.cursors.now.items = ap (λ xs. length xs) c.as_slice.ensures.value in (
      small-list g.row.D 9223372036854775808 c.requires.limit (lit< tt),
      (
        omega (arith, within, same),
        room-for (λ h. h.name) (λ h. h.cursor) c.args.held.name
            c.args.cursors.now.items c.in-Err.i c.requires.sorted few c.requires.room at,
      ),
    )

pub returns-in-Ok : goal.returns-in-Ok
returns-in-Ok g c =
    let items = c.args.cursors.now.items in
    let at : place c.args.held.name (named items) ≡ Ok c.in-Ok.i = ap (λ xs. place c.args.held.name (named xs))
    (sym c.as_slice.ensures.value) ∙ sym c.place_of.ensures.place ∙ c.in-Ok.is in
    refilled items (set c.as_mut_slice.result.now c.in-Ok.i c.args.held)
    (length-set c.as_mut_slice.result.now c.in-Ok.i c.args.held ∙ ap (λ xs. length xs) c.as_mut_slice.ensures.value)
    ∙ ap (λ xs. set xs c.in-Ok.i c.args.held) c.as_mut_slice.ensures.value ∙ sym (ap (λ r. entered_at r c.args.held items) at)
