use Rattle.ph_script.proofs.FileNameBytes.{file_name-text}
use Rattle.ph_script.proofs.file_name.FileName.from_bytes.Goals as goal

pub returns-in-Err : goal.returns-in-Err
returns-in-Err c h = c.in-Err.ensures.cases.0 (file_name-text _ h)
