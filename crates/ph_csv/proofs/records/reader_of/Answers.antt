use Rattle.std.proofs.Common.{ap}
use Rattle.ph_csv.specs.Left.{known}
use Rattle.ph_csv.proofs.LeftRecords.{strip-short}
use Rattle.ph_csv.proofs.records.reader_of.Goals as goal

pub returns-clause-size : goal.returns-clause-size
returns-clause-size c = rw (ap known c.from_reader.ensures.source) (strip-short c.args.text.now)
