use Rattle.std.specs.Prelude.{Some}
use Rattle.ph_csv.proofs.LeftRecords.{reads-next}
use Rattle.ph_csv.proofs.records.read_next.Goals as goal

pub returns : goal.returns
returns c =
    let reading = c.requires in
    let read = c.in-Ok.ensures.reads reading.untrimmed reading.ready in
    reads-next (λ s. Some s.now) _ _ c.in-Ok.found _ reading read (c.in-Ok.ensures.ready reading.untrimmed)
