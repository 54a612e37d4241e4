use Rattle.std.proofs.Common.{ap}
use Rattle.std.specs.Prelude.{Err}
use Rattle.ph_commands.specs.Tables.{table_at}
use Rattle.ph_commands.proofs.Imports.{starved-put}
use Rattle.ph_commands.proofs.records.put_read.Goals as goal

pub returns-in-Err-NoMemory-clause-imports : goal.returns-in-Err-NoMemory-clause-imports
returns-in-Err-NoMemory-clause-imports g c =
    let e = c.in-Err-NoMemory.ensures in
    starved-put (table_at g.row.D c.args.kept.now) c.import_rows.new.kept c.args.rows.items c.in-Err-NoMemory.field-0
    e.done.unchanged e.at_once (e.fault (ap Err c.in-Err-NoMemory.field-0-is))
