-- What commands that ask for no file do, whatever the files are.
use Rattle.std.proofs.Common.{◌≡◌, ℕ, true, false}
use Rattle.std.specs.Prelude.{Some, None, Result, Ok}
use Rattle.std.specs.declared.option.Option.{Option}
use Rattle.ph_io.specs.Giving.{Taken}
use Rattle.ph_specs.specs.declared.Kind.{Kind}
use Rattle.ph_specs.specs.Command.{Command}
use Rattle.ph_specs.specs.Named.{Named}
use Rattle.ph_specs.specs.State.{Slot, Engine, Files}
use Rattle.ph_specs.specs.Window.{Cursor}
use Rattle.ph_script.specs.declared.reply.Reply.{Reply as Told}
use Rattle.ph_script.specs.Meaning.{reply_of}
use Rattle.ph_slot.specs.Beside.{beside_sink}
use Rattle.ph_slot.specs.Doing.{DoneOr, is_on_slot, is_page}
use Rattle.ph_commands.specs.Served.{ServedOr}
use Rattle.ph_slot.specs.Filing.{QuietOr}
use Rattle.ph_slot.specs.Refusing.{early_refusal}
use Rattle.ph_commands.specs.Tables.{AnyTable, slot_of, engine_of}
use Rattle.ph_commands.specs.Telling.{ToldOr}
use Rattle.ph_commands.specs.declared.answer.Answer.{Answer}
use Rattle.ph_commands.specs.declared.answer.Stop.{Stop}
use Rattle.ph_slot.proofs.Filed.{done-filed, filed-begun, filed-served}
use Rattle.ph_slot.proofs.Plain.{IsPlain}
use Rattle.ph_slot.proofs.Refused.{refused-begun}

-- a command that is refused early
pub refused-quiet : {E : Type 0} (s : Slot) (command : Command) (reply : Told) (v c : ℕ) → is_on_slot command ≡ true →
    early_refusal s command ≡ Some (reply_of reply) → QuietOr {E = E} (engine_of s) command v v c c (engine_of s) (Ok reply)
refused-quiet s command reply v c on early = record {
  filed = λ most files filings. filed-begun most s s command (reply_of reply) files filings v c (refused-begun s command (reply_of reply) on early);
}

-- a command about the rows of a table
pub served-quiet : {E : Type 0} (kind : Kind) (t now : AnyTable) (cursors : Named Cursor) (command : Command)
    (result : Result Told E) (v now_v c now_c : ℕ) → IsPlain command →
    early_refusal (slot_of kind t cursors) command ≡ None → ServedOr t command now v now_v c now_c result →
    QuietOr (engine_of (slot_of kind t cursors)) command v now_v c now_c (engine_of (slot_of kind now cursors)) result
served-quiet kind t now cursors command result v now_v c now_c p u h =
    record { filed = λ most files filings. filed-served most kind t now cursors command result files filings v now_v c now_c p u h }

-- a command that asks for no file, once its reply was told
pub done-quiet : {E : Type 0} {e now : Engine} {command : Command} {v now_v c now_c : ℕ} {outcome : Result Told E} (most : ℕ)
    (sink now_sink : Taken) (told : Option Files) (f : ℕ) (result : Result Answer Stop) → is_page command ≡ false →
    QuietOr e command v now_v c now_c now outcome → ToldOr sink now_sink outcome result →
    DoneOr most e command (beside_sink sink told f v c) (beside_sink now_sink told f now_v now_c) now result
done-quiet {e} {now} {command} {v} {now_v} {c} {now_c} {outcome} most sink now_sink told f result page q t =
    done-filed most e now command told told f f v now_v c now_c sink now_sink outcome result page (q.filed most told f) t
