-- The line that the end of a script ends.
use Rattle.std.proofs.Common.{ℕ, ◌<◌, Bool, ◌||◌, List, length}
use Rattle.std.specs.Prelude.{Result, Ok, Err}
use Rattle.ph_script.specs.declared.lines.Line.{Line}
use Rattle.ph_script.specs.Shown.{IsLine}
use Rattle.ph_engine.specs.ScriptMachine.{script_machine}
use Rattle.ph_engine.specs.Serving.{ServesLine, ServesEnd}
use Rattle.ph_engine.specs.Standing.{Standing}
use Rattle.ph_engine.specs.Statuses.{read_status, stop_status}
use Rattle.ph_engine.specs.declared.status.Status.{Status}
use Rattle.ph_commands.specs.declared.answer.Stop.{Stop}
use Rattle.ph_engine.proofs.Answered.{shown-whole}
use Rattle.ph_engine.proofs.Feeds.{end-said, end-stopped, ends-read}

-- the status of a run by what its last line leads to
abbrev pub end_status : Bool → Result Bool Stop → Status
end_status refused (Ok last) = read_status (refused || last)
end_status refused (Err stop) = stop_status stop

pub line-ends : (file_bytes : ℕ) (st now : Standing) (kept : List ℕ) (line : Line) (refused : Bool) (result : Result Bool Stop) →
    IsLine kept line → 0 < length kept → ServesLine file_bytes st line now result →
    ServesEnd file_bytes st kept refused now (end_status refused result)
line-ends file_bytes st now kept line refused (Ok last) shown some serves known fits =
    let said = serves known fits in (
      said.0,
      λ unended k u.
          let answered = said.1 unended (shown-whole unended kept line k shown) in
          ends-read (script_machine file_bytes) _ unended refused _ _ _ (refused || last)
          (end-said (script_machine file_bytes) _ unended kept refused last answered.met _ _ _ k u some answered.said),
    )
line-ends file_bytes st now kept line refused (Err stop) shown some serves known fits =
    let said = serves known fits in (
      said.0,
      λ unended k u.
          let answered = said.1 unended (shown-whole unended kept line k shown) in
          end-stopped (script_machine file_bytes) _ unended kept refused answered.met _ _ _ stop k u some answered.said,
    )
