use Rattle.std.proofs.Common.{◌+◌, sym, ◌∙◌, ap, arith, drop}
use Rattle.std.specs.Prelude.{◌&&◌}
use Rattle.std.specs.List.{list_all}
use Rattle.ph_specs.specs.Load.{known, box_fits}
use Rattle.ph_specs.specs.Record.{first_in, entries_in}
use Rattle.ph_snap.specs.RecordPlaces.{place_of}
use Rattle.ph_snap.proofs.EntryParts.{all-next, drop-all}
use Rattle.ph_snap.proofs.Framed.{laid-many}
use Rattle.ph_snap.proofs.boxes.are_boxes.Goals as goal

pub returns-then-not-box_fits : goal.returns-then-not-box_fits
returns-then-not-box_fits c =
    let dims = c.args.format.now.dims in
    let p = box_fits c.args.format.now.width (first_in c.args.words.now).level (known dims (place_of dims c.args.place.now)) in
    let es = entries_in dims c.args.words.now in
    let e = c.if-not-box_fits.ensures in
    ap (λ t. t && list_all p (drop (c.loop-i.i + 1) es)) e.2 ∙ sym (all-next p es c.loop-i.i e.0 e.1) ∙ c.loop-i.invariant

pub loop-i-preserved : goal.loop-i-preserved
loop-i-preserved c =
    let dims = c.args.format.now.dims in
    let p = box_fits c.args.format.now.width (first_in c.args.words.now).level (known dims (place_of dims c.args.place.now)) in
    let es = entries_in dims c.args.words.now in
    let e = c.if-not-box_fits.ensures in
    ap (λ t. t && list_all p (drop (c.loop-i.i + 1) es)) e.2 ∙ sym (all-next p es c.loop-i.i e.0 e.1) ∙ c.loop-i.invariant

pub returns : goal.returns
returns c =
    let dims = c.args.format.now.dims in
    let p = box_fits c.args.format.now.width (first_in c.args.words.now).level (known dims (place_of dims c.args.place.now)) in
    let es = entries_in dims c.args.words.now in
    sym (drop-all p es c.loop-i.i (omega (arith, laid-many dims c.args.words.now c.requires.laid, c.count_in-i-end.ensures))) ∙ c.loop-i.invariant
