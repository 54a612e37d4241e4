use Rattle.std.proofs.Common.{length, take, drop}
use Rattle.ph_specs.specs.Load.{known}
use Rattle.ph_specs.specs.Record.{first_in}
use Rattle.ph_snap.specs.RecordPlaces.{place_of}
use Rattle.ph_snap.proofs.Behind.{joined-is}
use Rattle.ph_snap.proofs.boxes.joined.Goals as goal

pub returns : goal.returns
returns c =
    let dims = c.args.format.now.dims in
    let level = (first_in c.args.words.now).level in
    let above = known dims (place_of dims c.args.place.now) in
    let old = take dims c.known-known.result in
    joined-is dims level c.args.entry.now.addr c.args.entry.now.body (length old) c.args.words.now above old
    c.join_row.new.known (drop dims c.known-known.result) c.requires.laid.tables.low c.known-known.ensures.body.0
    c.known-known.ensures.known c.known-known.ensures.body c.requires.clear
    (rw c.level_in.ensures at c.join_row.ensures)
