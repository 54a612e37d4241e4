use Rattle.std.proofs.Common.{sym, ◌∙◌, ap, map}
use Rattle.std.proofs.lemmas.List.{map-set}
use Rattle.ph_io.specs.Storing.{file_of}
use Rattle.ph_io.proofs.Inserts.{map-insert}
use Rattle.ph_io.proofs.stored.keep.Goals as goal

pub returns-in-Ok-clause-files : goal.returns-in-Ok-clause-files
returns-in-Ok-clause-files c =
    let place = c.in-Ok.ensures in
    map-set file_of c.args.stored.now.items c.in-Ok.i c.fill.new.self ∙ rw c.fill.ensures.file (sym (rw c.deref.ensures.value at place.1 c.args.bytes.now))

pub returns-in-Some-clause-files : goal.returns-in-Some-clause-files
returns-in-Some-clause-files c =
    let place = c.in-Err.ensures in
    ap (λ ss. map file_of ss) c.insert_within.ensures.items ∙ map-insert file_of c.args.stored.now.items c.in-Err.i
    c.fill-in-Err.new.self ∙ rw c.fill-in-Err.ensures.file (sym (rw c.deref.ensures.value at place.1 c.args.bytes.now))
