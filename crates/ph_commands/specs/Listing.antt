-- Replies that list rows, or the sizes of a tree.
use Rattle.std.specs.Prelude.{◌≡◌, ◌<◌, ◌≤◌, ◌+◌, ℕ, Bool, true, false, List, [], ◌∷◌, ◌++◌, length, map, drop, ℤ, filter, Result, Ok, Err}
use Rattle.ph_io.specs.Giving.{Taken, Given}
use Rattle.ph_specs.specs.Coordinate.{low_corner, high_corner}
use Rattle.ph_specs.specs.Distance.{near, within}
use Rattle.ph_specs.specs.Reply.{Reply, replies_text}
use Rattle.ph_specs.specs.Stats.{Stats, stats}
use Rattle.ph_specs.specs.Table.{Row}
use Rattle.ph_specs.specs.Engine.{listing, hit_listing, row_replies, page_end}
use Rattle.ph_specs.specs.Window.{Cursor, window, rest, page, has_more, next_cursor}
use Rattle.ph_specs.specs.WorkSets.{all_nodes, meets, reach, ball}
use Rattle.ph_box.specs.Questions.{asks, low_bound, high_bound}
use Rattle.ph_box.specs.declared.question.Question.{Question}
use Rattle.ph_table.specs.Hits.{TableHit}
use Rattle.ph_window.specs.Page.{IsLast}
use Rattle.ph_window.specs.declared.page.Tail.{Tail}
use Rattle.ph_window.specs.declared.page.Tail.TheVariants.{More, End}
use Rattle.ph_commands.specs.Tables.{AnyTable}
use Rattle.ph_commands.specs.Working.{most_to_resume, least_to_resume}
use Rattle.ph_io.specs.Writing.{WritesFront}
use Rattle.ph_commands.specs.declared.answer.Answer.{Answer}
use Rattle.ph_commands.specs.declared.answer.Answer.TheVariants.{Good}
use Rattle.ph_commands.specs.declared.answer.Stop.{Stop}
use Rattle.ph_commands.specs.declared.answer.Stop.TheVariants.{WriteFault, NoMemory}

-- the nodes that a window meets
abbrev pub met : AnyTable → List ℤ → List ℤ → ℕ
met t lo hi = length (meets t.tree.width t.dims t.tree.table lo hi)

-- these replies were given, and at least and at most so many nodes visited for them
pub record Listed (replies : List Reply) (least most : ℕ) (sink now_sink : Taken) (visits now_visits : ℕ) (answer : Answer) : Type 0 where
  pub told : Given sink now_sink (replies_text replies)
  pub good : answer ≡ Good
  pub enough : visits + least ≤ now_visits
  pub few : now_visits ≤ visits + most

-- a write failed in a reply, for which no more nodes were visited than for the whole
pub record FrontListed (replies : List Reply) (most : ℕ) (sink now_sink : Taken) (visits now_visits : ℕ) (stop : Stop) : Type 0 where
  pub front : WritesFront sink now_sink (replies_text replies)
  pub fault : stop ≡ WriteFault
  pub visited : now_visits ≤ visits + most

abbrev pub Lists : List Reply → ℕ → ℕ → Taken → Taken → ℕ → ℕ → Result Answer Stop → Type 0
Lists replies least most sink now_sink visits now_visits (Ok answer) = Listed replies least most sink now_sink visits now_visits answer
Lists replies least most sink now_sink visits now_visits (Err stop) = FrontListed replies most sink now_sink visits now_visits stop

-- the same of rows, for exactly so many visits
abbrev pub ListsRows : List Row → ℕ → Taken → Taken → ℕ → ℕ → Result Answer Stop → Type 0
ListsRows rows n sink now_sink visits now_visits result = Lists (listing rows) n n sink now_sink visits now_visits result

-- the rows of a window, with the visits that it takes
abbrev pub ListsWindow : AnyTable → List ℤ → List ℤ → Taken → Taken → ℕ → ℕ → Result Answer Stop → Type 0
ListsWindow t lo hi sink now_sink visits now_visits result = ListsRows (window lo hi t.tree.table) (met t lo hi) sink now_sink visits now_visits result

-- the nodes of the tree of a table
abbrev pub node_count : AnyTable → ℕ
node_count t = length (all_nodes t.tree.width t.dims t.tree.table)

-- the sizes of the tree of a table
abbrev pub sizes_at : AnyTable → Stats
sizes_at t = stats t.tree.width t.dims t.tree.table

-- the same as a reply, for a visit of each node
abbrev pub ListsSizes : AnyTable → Taken → Taken → ℕ → ℕ → Result Answer Stop → Type 0
ListsSizes t sink now_sink visits now_visits result =
    Lists (Reply.StatsAre (sizes_at t) ∷ []) (node_count t) (node_count t) sink now_sink visits now_visits result

-- ---- questions about boxes

-- the rows that a question lists
abbrev pub answered : Question → List ℤ → List Row → List Row
answered question q table = filter (λ r. asks question q r.point) table

-- the nodes that its window takes
abbrev pub met_by : Question → AnyTable → List ℤ → ℕ
met_by question t q = met t (low_bound question t.tree.width (low_corner q) (high_corner q)) (high_bound question t.tree.width (low_corner q) (high_corner q))

-- the boxes that a question lists, with the visits that its window takes
abbrev pub ListsBoxes : Question → AnyTable → List ℤ → Taken → Taken → ℕ → ℕ → Result Answer Stop → Type 0
ListsBoxes question t q sink now_sink visits now_visits result =
    ListsRows (answered question q t.tree.table) (met_by question t q) sink now_sink visits now_visits result

-- ---- distances

abbrev pub hit_said : TableHit → Reply
hit_said h = Reply.HitIs h.distance h.row

-- the replies that list rows with their distances
abbrev pub hit_replies : List TableHit → List Reply
hit_replies hits = map hit_said hits ++ Reply.End (length hits) ∷ []

-- the rows within a radius, with exactly the visits of the ball
abbrev pub ListsBall : AnyTable → List ℤ → ℕ → Taken → Taken → ℕ → ℕ → Result Answer Stop → Type 0
ListsBall t q r sink now_sink visits now_visits result =
    let n = length (ball t.tree.width t.dims t.tree.table q r) in Lists (hit_listing q (within q r t.tree.table)) n n sink now_sink visits now_visits result

-- the nodes that the search for the nearest rows may have to see
abbrev pub reached : AnyTable → List ℤ → ℕ → ℕ
reached t q n = length (reach t.tree.width t.dims t.tree.table q n)

-- memory was missing before anything was written, for some rows that were asked for of a table that has some
pub record Unlisted (asked held most : ℕ) (sink now_sink : Taken) (visits now_visits : ℕ) : Type 0 where
  pub some : 0 < asked
  pub filled : 0 < held
  pub unwritten : now_sink ≡ sink
  pub few : now_visits ≤ visits + most

-- the nearest rows, or what stands where memory was missing for them
abbrev pub ListsNear : AnyTable → List ℤ → ℕ → Taken → Taken → ℕ → ℕ → Result Answer Stop → Type 0
ListsNear t q n sink now_sink visits now_visits (Err NoMemory) = Unlisted n (length t.tree.table) (reached t q n) sink now_sink visits now_visits
ListsNear t q n sink now_sink visits now_visits result = Lists (hit_listing q (near q n t.tree.table)) 0 (reached t q n) sink now_sink visits now_visits result

-- ---- pages

-- the replies of a page
abbrev pub page_replies : AnyTable → Cursor → ℕ → List Reply
page_replies t c n =
    let rows = page t.tree.width c n t.tree.table in
    row_replies rows ++ page_end (has_more t.tree.width c n t.tree.table) (length rows) ∷ []

-- the next rows of a cursor were listed, and it stands behind them
pub record PageListed (t : AnyTable) (c : Cursor) (n : ℕ) (sink now_sink : Taken) (visits now_visits : ℕ) (behind : Cursor) : Type 0 where
  pub told : Given sink now_sink (replies_text (page_replies t c n))
  pub next : behind ≡ next_cursor t.tree.width c n t.tree.table
  pub rest_behind : rest t.tree.width behind t.tree.table ≡ drop n (rest t.tree.width c t.tree.table)
  pub last : IsLast t.tree.width t.dims behind.last
  pub grows : visits + least_to_resume t.tree.table c.last ≤ now_visits
  pub visited : now_visits ≤ visits + (most_to_resume t.tree.width t.dims t.tree.table c.last + met t c.lo c.hi)

abbrev pub ListsPage : AnyTable → Cursor → ℕ → Taken → Taken → ℕ → ℕ → Result Cursor Stop → Type 0
ListsPage t c n sink now_sink visits now_visits (Ok behind) = PageListed t c n sink now_sink visits now_visits behind
ListsPage t c n sink now_sink visits now_visits (Err stop) =
    FrontListed (page_replies t c n) (most_to_resume t.tree.width t.dims t.tree.table c.last + met t c.lo c.hi) sink now_sink visits now_visits stop

abbrev pub is_more : Tail → Bool
is_more More = true
is_more End = false
