-- Two slots side by side: the pairs of their boxes that overlap, and the table that is made of both.
use Rattle.std.specs.Prelude.{◌≡◌, ◌≤◌, ℕ, ◌+◌, length, Option, Some, None, Result, Ok, Err}
use Rattle.ph_io.specs.Giving.{Taken}
use Rattle.ph_specs.specs.Command.{Command}
use Rattle.ph_specs.specs.declared.SetOperation.{SetOperation}
use Rattle.ph_specs.specs.declared.Which.{Which}
use Rattle.ph_specs.specs.declared.Which.TheVariants.{A, B}
use Rattle.ph_specs.specs.Engine.{pair_listing}
use Rattle.ph_specs.specs.Refusals.{combine_refusal}
use Rattle.ph_specs.specs.Reply.{Reply}
use Rattle.ph_specs.specs.Sets.{pairs, combine}
use Rattle.ph_specs.specs.State.{Slot, Engine, with_new_table}
use Rattle.ph_specs.specs.WorkSets.{all_nodes, join_visits, combine_visits}
use Rattle.ph_join.specs.Joining.{one_of}
use Rattle.ph_script.specs.declared.reply.Reply.{Reply as Told}
use Rattle.ph_script.specs.Meaning.{reply_of}
use Rattle.ph_commands.specs.Listing.{Lists}
use Rattle.ph_slot.specs.Doing.{DoneBeside}
use Rattle.ph_commands.specs.declared.answer.Answer.{Answer}
use Rattle.ph_commands.specs.declared.answer.Stop.{Stop}

-- an engine whose current slot has this name and is the first of two
abbrev pub engine_at : Which → Slot → Slot → Engine
engine_at A s t = record { a = s; b = t; current = A }
engine_at B s t = record { a = t; b = s; current = B }

-- the reply to such a command where the dimensions of the slots differ
abbrev pub differing_reply : Command → Reply
differing_reply Command.Compare = Reply.Differ
differing_reply _ = Reply.ErrorDims

-- the pairs of two slots
abbrev pub JoinsSlots : Slot → Slot → Taken → Taken → ℕ → ℕ → Result Answer Stop → Type 0
JoinsSlots a b sink now_sink visits now_visits result =
    let n = join_visits a.width a.dims a.table b.table in
    Lists (pair_listing (pairs a.table b.table)) (one_of (length (all_nodes a.width a.dims a.table))) n sink now_sink visits now_visits result

-- the same in an engine with these slots, whichever is current, unless they are refused
abbrev pub JoinsBoth : Slot → Slot → Taken → Taken → ℕ → ℕ → Result Answer Stop → Type 0
JoinsBoth a b sink now_sink visits now_visits result =
    (which : Which) → DoneBeside (record { a = a; b = b; current = which }) Command.Join sink now_sink visits now_visits result

-- ---- the table that is made of both

-- the slot that another one is combined into, and the reply, by the refusal if there is one
abbrev pub combined_slot : Option Reply → SetOperation → Slot → Slot → Slot
combined_slot (Some r) operation s t = s
combined_slot None operation s t = with_new_table s (combine operation s.width s.table t.table)

abbrev pub combined_reply : Option Reply → SetOperation → Slot → Slot → Reply
combined_reply (Some r) operation s t = r
combined_reply None operation s t = Reply.Combined (length (combine operation s.width s.table t.table))

-- the changes: a node of the result for each, and none where the slots are refused
abbrev pub combined_changes : Option Reply → SetOperation → Slot → Slot → ℕ
combined_changes (Some r) operation s t = 0
combined_changes None operation s t = length (all_nodes s.width s.dims (combine operation s.width s.table t.table))

pub record SlotsCombined (operation : SetOperation) (s t now : Slot) (reply : Reply) (changes now_changes : ℕ) : Type 0 where
  pub slot : now ≡ combined_slot (combine_refusal operation s t) operation s t
  pub said : reply ≡ combined_reply (combine_refusal operation s t) operation s t
  pub nodes : now_changes ≡ changes + combined_changes (combine_refusal operation s t) operation s t

-- memory was missing, in slots that are not refused
pub record SlotsKept (operation : SetOperation) (s t now : Slot) (changes now_changes : ℕ) : Type 0 where
  pub stays : now ≡ s
  pub together : combine_refusal operation s t ≡ None
  pub few : now_changes ≤ changes + length (all_nodes s.width s.dims (combine operation s.width s.table t.table))

abbrev pub CombinesSlots : {E : Type 0} → SetOperation → Slot → Slot → Slot → ℕ → ℕ → Result Told E → Type 0
CombinesSlots operation s t now changes now_changes (Ok reply) = SlotsCombined operation s t now (reply_of reply) changes now_changes
CombinesSlots operation s t now changes now_changes (Err error) = SlotsKept operation s t now changes now_changes

-- exactly as many visits as it takes where the slots are combined
abbrev pub SeesAll : {E : Type 0} → SetOperation → Slot → Slot → ℕ → ℕ → Result Told E → Type 0
SeesAll operation s t visits now_visits (Ok reply) =
    combine_refusal operation s t ≡ None → now_visits ≡ visits + combine_visits operation s.width s.dims s.table t.table
SeesAll operation s t visits now_visits (Err error) = Unit {0}

-- so many visits at most
pub record VisitsSlots (operation : SetOperation) (s t : Slot) (visits now_visits : ℕ) : Type 0 where
  pub later : visits ≤ now_visits
  pub few : now_visits ≤ visits + combine_visits operation s.width s.dims s.table t.table
