use Rattle.std.proofs.Common.{◌++◌, [], ◌∷◌, ◌∙◌, ap, take, sym}
use Rattle.ph_specs.specs.Load.{known, places_under, under}
use Rattle.ph_specs.specs.Record.{first_in, entries_in}
use Rattle.ph_snap.specs.RecordPlaces.{place_of}
use Rattle.ph_snap.proofs.EntryParts.{under-entry}
use Rattle.ph_snap.proofs.boxes.place_under.Goals as goal

pub returns-then-not-entry-clause-place : goal.returns-then-not-entry-clause-place
returns-then-not-entry-clause-place c =
    under-entry (known c.args.format.now.dims (place_of c.args.format.now.dims c.args.place.now)) c.entry_at-entry.ensures c.if-not-entry.true

pub returns-clause-place : goal.returns-clause-place
returns-clause-place c =
    let dims = c.args.format.now.dims in
    let level = (first_in c.args.words.now).level in
    let above = known dims (place_of dims c.args.place.now) in
    let front = places_under level above (take c.args.i (entries_in dims c.args.words.now)) in
    under-entry above c.entry_at-entry.ensures c.if-not-entry.false
    ∙ ap (λ t. front ++ under level t ∷ []) (sym c.joined.ensures.known)
    ∙ ap (λ t. front ++ under t (take dims c.joined.result) ∷ []) (sym c.level_in.ensures)
