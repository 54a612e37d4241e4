-- Two tables side by side: the pairs of their boxes that overlap, and the table that is made of both.
use Rattle.std.specs.Prelude.{◌≡◌, ◌≤◌, ℕ, ◌+◌, true, false, length, Result, Ok, Err, OnOk}
use Rattle.ph_io.specs.Giving.{Taken}
use Rattle.ph_set.specs.declared.error.SetFault.{SetFault}
use Rattle.ph_set.specs.declared.error.SetFault.TheVariants.{Full, NoMemory}
use Rattle.ph_specs.specs.declared.SetOperation.{SetOperation}
use Rattle.ph_specs.specs.Engine.{pair_listing}
use Rattle.ph_specs.specs.Refusals.{has_too_many}
use Rattle.ph_specs.specs.Reply.{Reply}
use Rattle.ph_specs.specs.Sets.{pairs, combine}
use Rattle.ph_specs.specs.Past.{without_past}
use Rattle.ph_specs.specs.Table.{Row}
use Rattle.ph_specs.specs.WorkSets.{all_nodes, join_visits, combine_visits}
use Rattle.ph_join.specs.Joining.{one_of}
use Rattle.ph_commands.specs.Listing.{Lists}
use Rattle.ph_commands.specs.Tables.{AnyTable, table_at}
use Rattle.ph_commands.specs.declared.answer.Answer.{Answer}
use Rattle.ph_commands.specs.declared.answer.Stop.{Stop}

-- ---- pairs

-- the reply to a pair
abbrev pub pair_said : Row × Row → Reply
pair_said p = Reply.PairIs p.0 p.1

-- the pairs of two tables, for at most the visits of their join, and at least the root of the first
abbrev pub ListsPairs : AnyTable → AnyTable → Taken → Taken → ℕ → ℕ → Result Answer Stop → Type 0
ListsPairs t u sink now_sink visits now_visits result =
    let n = join_visits t.tree.width t.dims t.tree.table u.tree.table in
    Lists (pair_listing (pairs t.tree.table u.tree.table)) (one_of (length (all_nodes t.tree.width t.dims t.tree.table))) n sink now_sink visits now_visits result

-- ---- set operations

-- the table that is made of two
abbrev pub combined_table : SetOperation → AnyTable → AnyTable → AnyTable
combined_table operation t u = table_at t.dims (without_past t.tree (combine operation t.tree.width t.tree.table u.tree.table))

-- the nodes of its tree
abbrev pub combined_nodes : SetOperation → AnyTable → AnyTable → ℕ
combined_nodes operation t u = length (all_nodes t.tree.width t.dims (combine operation t.tree.width t.tree.table u.tree.table))

-- the first table has become what was made of both, and has so many rows
pub record MadeOf (operation : SetOperation) (t u now : AnyTable) (count changes now_changes : ℕ) : Type 0 where
  pub table : now ≡ combined_table operation t u
  pub rows : count ≡ length now.tree.table
  pub fits : has_too_many operation t.tree.width t.tree.max t.tree.table u.tree.table ≡ false
  pub nodes : now_changes ≡ changes + combined_nodes operation t u

-- it is as before, since there are too many rows
pub record TooMany (operation : SetOperation) (t u now : AnyTable) (changes now_changes : ℕ) : Type 0 where
  pub stays : now ≡ t
  pub full : has_too_many operation t.tree.width t.tree.max t.tree.table u.tree.table ≡ true
  pub none : now_changes ≡ changes

-- it is as before for want of memory, and there are not too many rows
pub record Unmade (operation : SetOperation) (t u now : AnyTable) (changes now_changes : ℕ) : Type 0 where
  pub stays : now ≡ t
  pub fits : has_too_many operation t.tree.width t.tree.max t.tree.table u.tree.table ≡ false
  pub few : now_changes ≤ changes + combined_nodes operation t u

abbrev pub MadeOr : SetOperation → AnyTable → AnyTable → AnyTable → ℕ → ℕ → Result ℕ SetFault → Type 0
MadeOr operation t u now changes now_changes (Ok count) = MadeOf operation t u now count changes now_changes
MadeOr operation t u now changes now_changes (Err Full) = TooMany operation t u now changes now_changes
MadeOr operation t u now changes now_changes (Err NoMemory) = Unmade operation t u now changes now_changes

-- the visits that it takes
abbrev pub combined_visits : SetOperation → AnyTable → AnyTable → ℕ
combined_visits operation t u = combine_visits operation t.tree.width t.dims t.tree.table u.tree.table

-- exactly so many visits where the table was made, and at most so many else; none is taken back
pub record VisitsBoth (operation : SetOperation) (t u : AnyTable) (visits now_visits : ℕ) (result : Result ℕ SetFault) : Type 0 where
  pub later : visits ≤ now_visits
  pub few : now_visits ≤ visits + combined_visits operation t u
  pub all : OnOk result (now_visits ≡ visits + combined_visits operation t u)
