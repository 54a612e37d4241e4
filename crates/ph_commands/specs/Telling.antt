-- What is given to a sink of the reply to a command.
use Rattle.std.specs.Prelude.{◌≡◌, ℕ, Bool, true, false, ◌||◌, List, nat_eq, codes, ◌≤◌, Result, Ok, Err, IsErrOf}
use Rattle.std.specs.List.{starts_with}
use Rattle.ph_io.specs.Giving.{Taken, Given}
use Rattle.ph_specs.specs.Reply.{reply_text}
use Rattle.ph_script.specs.Meaning.{reply_of}
use Rattle.ph_script.specs.declared.reply.Reply.{Reply}
use Rattle.ph_commands.specs.declared.answer.Answer.{Answer}
use Rattle.ph_commands.specs.declared.answer.Answer.TheVariants.{Good, Refused}
use Rattle.ph_commands.specs.declared.answer.Stop.{Stop}
use Rattle.ph_commands.specs.declared.answer.Stop.TheVariants.{WriteFault, NoMemory}
use Rattle.ph_io.specs.Writing.{WritesFront}
use Rattle.ph_io.specs.Causes.{Rose}

-- whether an answer is a refusal
abbrev pub is_refusal : List ℕ → Bool
is_refusal answer = starts_with nat_eq answer (codes "error") || starts_with nat_eq answer (codes "bad")

abbrev pub refuses : Answer → Bool
refuses Good = false
refuses Refused = true

-- the whole reply, or where a write failed a front of it
abbrev pub Tells : Taken → Taken → Reply → Result Answer Stop → Type 0
Tells old new reply (Ok answer) = Given old new (reply_text (reply_of reply)) × (refuses answer ≡ is_refusal (reply_text (reply_of reply)))
Tells old new reply (Err stop) = (stop ≡ WriteFault) × WritesFront old new (reply_text (reply_of reply))

-- and nothing where there is no reply for want of memory
abbrev pub ToldOr : {E : Type 0} → Taken → Taken → Result Reply E → Result Answer Stop → Type 0
ToldOr old new (Ok reply) result = Tells old new reply result
ToldOr old new (Err error) (Ok answer) = ⊥
ToldOr old new (Err error) (Err stop) = (stop ≡ NoMemory) × (new ≡ old)

-- the count did not fall, and a write fault is answered only where it rose
pub record StopHasCause {T : Type 0} (before now : ℕ) (result : Result T Stop) : Type 0 where
  pub later : before ≤ now
  pub write : IsErrOf result WriteFault → Rose before now
