-- What the commands that list rows do, and those of cursors.
use Rattle.std.proofs.Common.{◌≡◌, ◌<◌, ◌≤◌, ◌+◌, ℕ, Bool, true, false, List, [], ◌∷◌, ◌++◌, length, get_or, refl, rules, ap, sym, ◌∙◌, subst, arith}
use Rattle.std.specs.Prelude.{ℤ, Option, Some, None, Result, Ok, Err, ◌&&◌, not, nat_le, MatchResult}
use Rattle.std.specs.List.{list_all}
use Rattle.std.proofs.lemmas.Grind.{common_steps}
use Rattle.ph_io.specs.Giving.{Taken}
use Rattle.ph_specs.specs.declared.Kind.{Kind}
use Rattle.ph_specs.specs.declared.Kind.TheVariants.{Points, Boxes}
use Rattle.ph_specs.specs.Command.{Command}
use Rattle.ph_specs.specs.Coordinate.{fits, low_corner, high_corner, IsPoint}
use Rattle.ph_specs.specs.Engine.{effect, opened_dims, unless_refused, page_outcome, listing, hit_listing, row_replies, page_end}
use Rattle.ph_specs.specs.Distance.{distance, near, within}
use Rattle.ph_specs.specs.Named.{Named, lookup, enter, has_name}
use Rattle.ph_specs.specs.Reply.{Reply, reply_text, replies_text}
use Rattle.ph_specs.specs.Refusals.{refusal, refuse_if, has_wrong_dims, has_wrong_kind, boxes_of}
use Rattle.ph_specs.specs.State.{Engine, Slot, Files, empty_slot, outcome}
use Rattle.ph_specs.specs.Past.{Past}
use Rattle.ph_specs.specs.Table.{Row}
use Rattle.ph_specs.specs.Stats.{stats}
use Rattle.ph_specs.specs.WorkSets.{all_nodes, ball, meets}
use Rattle.ph_specs.specs.Window.{Cursor, next_cursor, page, has_more, window}
use Rattle.ph_undo.specs.Kept.{tree_of}
use Rattle.ph_script.specs.declared.command.Command.{Command as Written}
use Rattle.ph_script.specs.Meaning.{command_of}
use Rattle.ph_slot.specs.Asking.{asking}
use Rattle.ph_slot.specs.Beside.{beside_sink}
use Rattle.ph_slot.specs.Doing.{is_on_slot, Begun, DoneOr, DoneWith, is_page}
use Rattle.ph_commands.specs.Served.{Does}
use Rattle.ph_commands.specs.Listing.{Lists, ListsNear, reached, FrontListed, PageListed, page_replies, met, answered}
use Rattle.ph_commands.specs.Telling.{is_refusal}
use Rattle.ph_slot.specs.Refusing.{early_refusal, late_refusal}
use Rattle.ph_slot.specs.Naming.{place}
use Rattle.ph_commands.specs.Tables.{AnyTable, table_at, tree_at, slot_of, engine_of, IsOfKind}
use Rattle.ph_slot.specs.Slots.{named}
use Rattle.std.proofs.lemmas.Bool.{lt-ltb}
use Rattle.ph_commands.specs.Working.{work, engine_bounds, most_to_resume}
use Rattle.ph_box.specs.Questions.{low_bound, high_bound}
use Rattle.ph_box.specs.declared.question.Question.{Question}
use Rattle.ph_box.specs.declared.question.Question.TheVariants.{Overlap, Inside, Cover}
use Rattle.ph_commands.specs.declared.answer.Answer.{Answer}
use Rattle.ph_commands.specs.declared.answer.Answer.TheVariants.{Good}
use Rattle.ph_commands.specs.declared.answer.Stop.{Stop}
use Rattle.ph_commands.specs.declared.answer.Stop.TheVariants.{WriteFault, NoMemory}
use Rattle.ph_slot.specs.declared.cursors.Held.{Held}
use Rattle.ph_io.proofs.Appending.{given_none}
use Rattle.ph_slot.proofs.Commanded.{Most, done-all, no-faults, told-told}
use Rattle.ph_slot.proofs.Names.{found-in}
use Rattle.ph_slot.proofs.Refused.{unrefused, unrefused-arm, in-range, has-room, has-cursor}

-- ---- a cursor

both-true : (a b : Bool) → not (a && (b && true)) ≡ false → (a ≡ true) × (b ≡ true)
both-true true true h = (refl, refl)
both-true true false h = absurd cc
both-true false b h = absurd cc

-- the corners of a cursor that is not refused are in range
pub corners-in : (s : Slot) (name : List ℕ) (lo hi : List ℤ) → early_refusal s (Command.Cursor name lo hi) ≡ None →
    (list_all (fits s.width) lo ≡ true) × (list_all (fits s.width) hi ≡ true)
corners-in s name lo hi h = both-true (list_all (fits s.width) lo) (list_all (fits s.width) hi) (in-range s (Command.Cursor name lo hi) h)

pub point-in : (w d : ℕ) (p : List ℤ) → length p ≡ d → list_all (fits w) p ≡ true → IsPoint w d p
point-in w d p h k = grind (arith, common_steps)

-- and where there is no room, one of its name is there
room-or : (b : Bool) (n : ℕ) → (not b && nat_le 16 n) ≡ false → n ≡ 16 → b ≡ true
room-or true n h k = refl
room-or false n h k = absurd (let f : nat_le 16 16 ≡ false = ap (nat_le 16) (sym k) ∙ h in cc)

pub room-in : (s : Slot) (name : List ℕ) (lo hi : List ℤ) → early_refusal s (Command.Cursor name lo hi) ≡ None → length s.cursors ≡ 16 → has_name name s.cursors ≡ true
room-in s name lo hi h k = room-or (has_name name s.cursors) (length s.cursors) (has-room s (Command.Cursor name lo hi) h) k

pub cursor-begun : (s : Slot) (name : List ℕ) (lo hi : List ℤ) (cursors : Named Cursor) →
    early_refusal s (Command.Cursor name lo hi) ≡ None →
    cursors ≡ enter name (record { lo = lo; hi = hi; last = None }) s.cursors →
    Begun s (Command.Cursor name lo hi) (record s { cursors = cursors }) Reply.Ready
cursor-begun s name lo hi cursors h e =
    let command = Command.Cursor name lo hi in
    record {
      does = λ most files fault. ap (λ r. unless_refused r (engine_of s) files command)
          (unrefused most s files fault command refl h refl) ∙
          ap (λ x. outcome (engine_of (record s { cursors = x })) files (Reply.Ready ∷ [])) (sym e);
      most = λ visits changes most files fault. record { few_visits = omega arith; few_changes = omega arith };
      least = λ visits changes most files fault. rw (unrefused most s files fault command refl h refl)
          (record { enough_visits = omega arith; enough_changes = omega arith });
    }

-- ---- a slot that is opened

kind-of-begin : (own kind : Kind) (k width max : ℕ) →
    (has_wrong_kind own (Command.Begin kind k width max) ≡ false) × (boxes_of own (Command.Begin kind k width max) ≡ [])
kind-of-begin Points kind k width max = (refl, refl)
kind-of-begin Boxes kind k width max = (refl, refl)

begin-early : (s : Slot) (kind : Kind) (k width max : ℕ) → has_wrong_dims (Command.Begin kind k width max) ≡ false →
    early_refusal s (Command.Begin kind k width max) ≡ None
begin-early s kind k width max h = let own = kind-of-begin s.kind kind k width max in rw (h, own.0, own.1) refl

pub slot-begun : (s now : Slot) (kind : Kind) (k width max : ℕ) → has_wrong_dims (Command.Begin kind k width max) ≡ false →
    now ≡ empty_slot kind (opened_dims kind k) width max → Begun s (Command.Begin kind k width max) now Reply.Opened
slot-begun s now kind k width max h e =
    let command = Command.Begin kind k width max in
    let early : early_refusal s command ≡ None = begin-early s kind k width max h in
    record {
      does = λ most files fault. ap (λ r. unless_refused r (engine_of s) files command)
          (unrefused most s files fault command refl early refl) ∙
          ap (λ x. outcome (engine_of x) files (Reply.Opened ∷ [])) (sym e);
      most = λ visits changes most files fault. record { few_visits = omega arith; few_changes = omega arith };
      least = λ visits changes most files fault. rw (unrefused most s files fault command refl early refl)
          (record { enough_visits = omega arith; enough_changes = omega arith });
    }

-- ---- a page

is-there : (b : Bool) → not b ≡ false → b ≡ true
is-there true h = refl
is-there false h = absurd cc

-- the cursor of a page that is not refused is there
pub cursor-there : (s : Slot) (name : List ℕ) (n : ℕ) → early_refusal s (Command.Page name n) ≡ None → has_name name s.cursors ≡ true
cursor-there s name n h = is-there (has_name name s.cursors) (has-cursor s (Command.Page name n) h)

-- the cursor at its place is the one that is found under the name
pub found-there : {D : ℕ} (name : List ℕ) (items first second : List (Held D)) (r : Result ℕ ℕ) (i : ℕ) (d : Held D) →
    first ≡ items → second ≡ items → r ≡ place name (named first) → r ≡ Ok i →
    MatchResult r (λ j. j < length first) (λ j. j ≤ length first) →
    lookup name (named items) ≡ Some (get_or second i d).cursor
found-there name items first second r i d e f p is within =
    let at : place name (named second) ≡ Ok i = ap (λ xs. place name (named xs)) (f ∙ sym e) ∙ sym p ∙ is in
    let short : i < length second = omega (arith, rw is at within, ap (λ xs. length xs) (e ∙ sym f)) in
    subst (λ xs. lookup name (named xs) ≡ Some (get_or second i d).cursor) f (found-in (λ h. h.name) (λ h. h.cursor) name second i d at short)

good-row : (r : Row) (text : List ℕ) → is_refusal (reply_text (Reply.RowIs r) ++ text) ≡ false
good-row r text = elim r.point as (λ p. is_refusal (reply_text (Reply.RowIs (record { point = p; value = r.value })) ++ text) ≡ false) [ [] ↦ refl | x ∷ p ↦ refl ]

good-end : (b : Bool) (n : ℕ) → is_refusal (replies_text (page_end b n ∷ [])) ≡ false
good-end true n = refl
good-end false n = refl

good-rows : (rows : List Row) (b : Bool) (n : ℕ) → is_refusal (replies_text (row_replies rows ++ page_end b n ∷ [])) ≡ false
good-rows [] b n = good-end b n
good-rows (r ∷ rows) b n = good-row r (replies_text (row_replies rows ++ page_end b n ∷ []))

page-does : (kind : Kind) (t : AnyTable) (cursors after : Named Cursor) (name : List ℕ) (n : ℕ) (c : Cursor) →
    early_refusal (slot_of kind t cursors) (Command.Page name n) ≡ None → lookup name cursors ≡ Some c →
    after ≡ enter name (next_cursor t.tree.width c n t.tree.table) cursors →
    Does (engine_of (slot_of kind t cursors)) (Command.Page name n) (engine_of (slot_of kind t after)) (page_replies t c n)
page-does kind t cursors after name n c h there e most files fault =
    let s = slot_of kind t cursors in
    let command = Command.Page name n in
    ap (λ r. unless_refused r (engine_of s) files command) (unrefused most s files fault command refl h refl)
    ∙ ap (page_outcome (engine_of s) files name n) there
    ∙ ap (λ x. outcome (engine_of (slot_of kind t x)) files (page_replies t c n)) (sym e)

-- a page of a tree is one of the table with its past
pub kept-listed : (d : ℕ) (k : Past) (c : Cursor) (n : ℕ) (sink now_sink : Taken) (v now_v : ℕ) (behind : Cursor) →
    PageListed (tree_at d (tree_of k)) c n sink now_sink v now_v behind → PageListed (table_at d k) c n sink now_sink v now_v behind
kept-listed d k c n sink now_sink v now_v behind h =
    record { told = h.told; next = h.next; rest_behind = h.rest_behind; last = h.last; grows = h.grows; visited = h.visited }

-- a page that was listed, whose cursor was moved
pub page-done : (kind : Kind) (t : AnyTable) (cursors after : Named Cursor) (name : List ℕ) (n : ℕ)
    (c behind : Cursor) (sink now_sink : Taken) (v now_v : ℕ) →
    early_refusal (slot_of kind t cursors) (Command.Page name n) ≡ None → lookup name cursors ≡ Some c →
    after ≡ enter name behind cursors → PageListed t c n sink now_sink v now_v behind →
    DoneWith (slot_of kind t cursors) (Command.Page name n) sink now_sink v now_v (slot_of kind t after) (Ok Good)
page-done kind t cursors after name n c behind sink now_sink v now_v h there e listed =
    let s = slot_of kind t cursors in
    let command = Command.Page name n in
    let rows = page t.tree.width c n t.tree.table in
    record {
      done = λ most files filings changes. done-all most (engine_of s) (engine_of (slot_of kind t after))
          (engine_of (slot_of kind t after)) command (page_replies t c n) (beside_sink sink files filings v changes)
          (beside_sink now_sink files filings now_v changes) (Ok Good) (record { files = refl; filings = refl }) refl
          refl tt (page-does kind t cursors after name n c h there (e ∙ ap (λ x. enter name x cursors) listed.next))
          (λ most files fault. rw there (record { few_visits = listed.visited; few_changes = omega arith }))
          (λ most files fault. rw (unrefused most s files fault command refl h refl, there)
          (record { enough_visits = omega (arith, listed.grows); enough_changes = omega arith }))
          (sym (good-rows rows (has_more t.tree.width c n t.tree.table) (length rows))) listed.told tt tt;
    }

-- a page in which a write failed
pub page-stopped : (kind : Kind) (t : AnyTable) (cursors : Named Cursor) (name : List ℕ) (n : ℕ) (c : Cursor)
    (sink now_sink : Taken) (v now_v : ℕ) (stop : Stop) →
    early_refusal (slot_of kind t cursors) (Command.Page name n) ≡ None → lookup name cursors ≡ Some c →
    FrontListed (page_replies t c n) (most_to_resume t.tree.width t.dims t.tree.table c.last + met t c.lo c.hi) sink now_sink v now_v
    stop → DoneWith (slot_of kind t cursors) (Command.Page name n) sink now_sink v now_v (slot_of kind t cursors) (Err stop)
page-stopped kind t cursors name n c sink now_sink v now_v stop h there listed =
    let s = slot_of kind t cursors in
    let after = enter name (next_cursor t.tree.width c n t.tree.table) cursors in
    record {
      done = λ most files filings changes. done-all most (engine_of s) (engine_of (slot_of kind t after))
          (engine_of s) (Command.Page name n) (page_replies t c n) (beside_sink sink files filings v changes)
          (beside_sink now_sink files filings now_v changes) (Err stop) (record { files = refl; filings = refl }) refl
          tt refl (page-does kind t cursors after name n c h there refl)
          (λ most files fault. rw there (record { few_visits = listed.visited; few_changes = omega arith })) tt tt tt
          listed.fault listed.front;
    }

-- ---- listings

-- a command that lists what it found in an engine, and is not refused
module _ (e : Engine) (command : Command) (replies : List Reply) (least most_visits : ℕ) (sink now_sink : Taken)
    (files : Option Files) (filings v now_v changes : ℕ) (h : (most : ℕ) (files : Files) (fault : Bool) →
    refusal most e files fault command ≡ None) (is : (files : Files) →
    effect e files command ≡ outcome e files replies) (w : (files : Files) →
    engine_bounds e files command ≡ work most_visits least 0 0) where
  does : Does e command e replies
  does most files fault = ap (λ r. unless_refused r e files command) (h most files fault) ∙ is files

  most-of : now_v ≤ v + most_visits → Most e command (beside_sink sink files filings v changes) (beside_sink now_sink files filings now_v changes)
  most-of few most files fault = rw (w files) (record { few_visits = few; few_changes = omega arith })

  pub listing-beside : (most : ℕ) (result : Result Answer Stop) → is_page command ≡ false →
      is_refusal (replies_text replies) ≡ false → Lists replies least most_visits sink now_sink v now_v result →
      DoneOr most e command (beside_sink sink files filings v changes) (beside_sink now_sink files filings now_v changes) e result
  listing-beside most (Ok answer) page good listed =
      done-all most e e e command replies (beside_sink sink files filings v changes)
      (beside_sink now_sink files filings now_v changes) (Ok answer) (record { files = refl; filings = refl })
      refl refl tt does (most-of listed.few)
      (λ most files fault. rw (h most files fault, w files) (record { enough_visits = listed.enough; enough_changes = omega arith }))
      (rw listed.good (sym good)) listed.told tt tt
  listing-beside most (Err stop) page good listed =
      done-all most e e e command replies (beside_sink sink files filings v changes)
      (beside_sink now_sink files filings now_v changes) (Err stop) (record { files = refl; filings = refl }) refl
      tt (rw page refl) does (most-of listed.visited)
      tt tt tt listed.fault listed.front

-- the same on a slot
pub listing-done : (s : Slot) (command : Command) (replies : List Reply) (least most_visits : ℕ)
    (sink now_sink : Taken) (files : Option Files) (filings v now_v changes : ℕ) → early_refusal s command ≡ None →
    is_on_slot command ≡ true → ((most : ℕ) (files : Files) (fault : Bool) →
    late_refusal most s files fault command ≡ None) →
    ((files : Files) → effect (engine_of s) files command ≡ outcome (engine_of s) files replies) →
    ((files : Files) → engine_bounds (engine_of s) files command ≡ work most_visits least 0 0) →
    (most : ℕ) (result : Result Answer Stop) → is_page command ≡ false → is_refusal (replies_text replies) ≡ false →
    Lists replies least most_visits sink now_sink v now_v result →
    DoneOr most (engine_of s) command (beside_sink sink files filings v changes)
    (beside_sink now_sink files filings now_v changes) (engine_of s) result
listing-done s command replies least most_visits sink now_sink files filings v now_v changes h on late is w most result page good listed =
    listing-beside (engine_of s) command replies least most_visits sink now_sink files filings v now_v changes
    (λ most files fault. unrefused most s files fault command on h (late most files fault)) is w most result page good listed

-- A command lists these replies at a slot, for at least and at most so many visits, where it is not refused early.
pub record IsListing (s : Slot) (command : Command) (replies : List Reply) (least most_visits : ℕ) : Type 0 where
  pub on_slot : is_on_slot command ≡ true
  pub late : (most : ℕ) (files : Files) (fault : Bool) → late_refusal most s files fault command ≡ None
  pub effect : (files : Files) → effect (engine_of s) files command ≡ outcome (engine_of s) files replies
  pub bounds : (files : Files) → engine_bounds (engine_of s) files command ≡ work most_visits least 0 0
  pub no_page : is_page command ≡ false
  pub good : is_refusal (replies_text replies) ≡ false

-- such a command, whatever the files are
pub slot-listed : {s : Slot} {command : Command} {replies : List Reply} {least most_visits : ℕ} {sink now_sink : Taken}
    {v now_v : ℕ} (result : Result Answer Stop) → early_refusal s command ≡ None → IsListing s command replies least most_visits →
    Lists replies least most_visits sink now_sink v now_v result → DoneWith s command sink now_sink v now_v s result
slot-listed {s} {command} {replies} {least} {most_visits} {sink} {now_sink} {v} {now_v} result h k listed = record {
  done = λ most files filings changes. listing-done s command replies least most_visits sink now_sink files
      filings v now_v changes h k.on_slot k.late k.effect k.bounds most result k.no_page k.good listed;
}

-- the same of an arm of the code
pub arm-listed : {s now : Slot} {cmd arm : Written} {replies : List Reply} {least most_visits : ℕ} {sink now_sink : Taken}
    {v now_v : ℕ} (result : Result Answer Stop) → s ≡ now → cmd ≡ arm → early_refusal now (command_of cmd) ≡ None →
    IsListing s (command_of arm) replies least most_visits →
    Lists replies least most_visits sink now_sink v now_v result →
    DoneWith s (command_of arm) sink now_sink v now_v s result
arm-listed {s} {now} {cmd} {arm} result e is h k listed = slot-listed result (unrefused-arm s now cmd arm e is (sym h)) k listed

pub rows-good : (rows : List Row) → is_refusal (replies_text (listing rows)) ≡ false
rows-good rows = good-rows rows false (length rows)

-- the nodes that a window meets in the tree of a slot
abbrev pub window_met : Slot → List ℤ → List ℤ → ℕ
window_met s lo hi = length (meets s.width s.dims s.table lo hi)

pub lists-window : (s : Slot) (lo hi : List ℤ) →
    IsListing s (Command.Window lo hi) (listing (window lo hi s.table)) (window_met s lo hi) (window_met s lo hi)
lists-window s lo hi = search (rules, rows-good)

pub lists-boxes : (question : Question) (s : Slot) (q : List ℤ) →
    let n = window_met s (low_bound question s.width (low_corner q) (high_corner q)) (high_bound question s.width (low_corner q) (high_corner q)) in
    IsListing s (asking question q) (listing (answered question q s.table)) n n
lists-boxes Overlap s q = search (rules, rows-good)
lists-boxes Inside s q = search (rules, rows-good)
lists-boxes Cover s q = search (rules, rows-good)

pub lists-sizes : (s : Slot) → let n = length (all_nodes s.width s.dims s.table) in
    IsListing s Command.Statistics (Reply.StatsAre (stats s.width s.dims s.table) ∷ []) n n
lists-sizes s = search rules

-- a slot that does not refuse a question about boxes has boxes
right-kind : (a b : Bool) (later : Option Reply) → refuse_if a Reply.ErrorDims (refuse_if b Reply.ErrorKind later) ≡ None → b ≡ false
right-kind true b later h = absurd cc
right-kind false true later h = absurd cc
right-kind false false later h = refl

asked-kind : (question : Question) (kind : Kind) (q : List ℤ) → has_wrong_kind kind (asking question q) ≡ false → kind ≡ Boxes
asked-kind Overlap Points q h = absurd (let no : true ≡ false = h in cc)
asked-kind Inside Points q h = absurd (let no : true ≡ false = h in cc)
asked-kind Cover Points q h = absurd (let no : true ≡ false = h in cc)
asked-kind question Boxes q h = refl

pub asked-boxes : (question : Question) (kind : Kind) (t : AnyTable) (cursors : Named Cursor) (now : Slot) (q : List ℤ) →
    slot_of kind t cursors ≡ now → early_refusal now (asking question q) ≡ None → IsOfKind kind t → IsOfKind Boxes t
asked-boxes question kind t cursors now q e h k =
    let command = asking question q in
    let right = right-kind (has_wrong_dims command) (has_wrong_kind kind command) _ (ap (λ s. early_refusal s command) e ∙ h) in
    subst (λ x. IsOfKind x t) (asked-kind question kind q right) k

one-true : (a : Bool) → not (a && true) ≡ false → a ≡ true
one-true true h = refl
one-true false h = absurd cc

-- and the asked one is in range
pub asked-range : (question : Question) (s : Slot) (q : List ℤ) → early_refusal s (asking question q) ≡ None → list_all (fits s.width) q ≡ true
asked-range Overlap s q h = one-true (list_all (fits s.width) q) (in-range s (Command.Overlap q) h)
asked-range Inside s q h = one-true (list_all (fits s.width) q) (in-range s (Command.Inside q) h)
asked-range Cover s q h = one-true (list_all (fits s.width) q) (in-range s (Command.Covers q) h)

-- ---- rows with their distances

good-hit : (d : ℕ) (r : Row) (text : List ℕ) → is_refusal (reply_text (Reply.HitIs d r) ++ text) ≡ false
good-hit d r text = refl

pub hits-good : (q : List ℤ) (rows : List Row) → is_refusal (replies_text (hit_listing q rows)) ≡ false
hits-good q [] = refl
hits-good q (r ∷ rows) = good-hit (distance r.point q) r (replies_text (hit_listing q rows))

pub lists-ball : (s : Slot) (q : List ℤ) (r : ℕ) → let n = length (ball s.width s.dims s.table q r) in
    IsListing s (Command.Within q r) (hit_listing q (within q r s.table)) n n
lists-ball s q r = search (rules, hits-good)

-- the nearest rows, or where memory was missing for them
pub near-done : (most : ℕ) (kind : Kind) (t : AnyTable) (cursors : Named Cursor) (q : List ℤ) (n : ℕ)
    (sink now_sink : Taken) (files : Option Files) (filings v now_v changes : ℕ) (result : Result Answer Stop) →
    early_refusal (slot_of kind t cursors) (Command.Near q n) ≡ None → ListsNear t q n sink now_sink v now_v result →
    DoneOr most (engine_of (slot_of kind t cursors)) (Command.Near q n) (beside_sink sink files filings v changes)
    (beside_sink now_sink files filings now_v changes) (engine_of (slot_of kind t cursors)) result
near-done most kind t cursors q n sink now_sink files filings v now_v changes (Ok answer) h listed =
    listing-done (slot_of kind t cursors) (Command.Near q n) (hit_listing q (near q n t.tree.table)) 0 (reached t q n)
    sink now_sink files filings v now_v changes h refl (λ most files fault. refl) (λ files. refl) (λ files. refl)
    most (Ok answer) refl (hits-good q (near q n t.tree.table)) listed
near-done most kind t cursors q n sink now_sink files filings v now_v changes (Err WriteFault) h listed =
    listing-done (slot_of kind t cursors) (Command.Near q n) (hit_listing q (near q n t.tree.table)) 0 (reached t q n)
    sink now_sink files filings v now_v changes h refl (λ most files fault. refl) (λ files. refl) (λ files. refl)
    most (Err WriteFault) refl (hits-good q (near q n t.tree.table)) listed
near-done most kind t cursors q n sink now_sink files filings v now_v changes (Err NoMemory) h listed = record {
  unfiled = record {
    fault = false;
    found = None;
    counted = no-faults (Command.Near q n) (beside_sink sink files filings v changes)
        (beside_sink now_sink files filings now_v changes) (record { files = refl; filings = refl });
    part = 0;
    state = λ files k. refl;
    kept = λ known k. told-told files files known refl k;
    wanted = λ files x. rw (h, lt-ltb 0 n listed.some) (lt-ltb 0 (length t.tree.table) listed.filled);
    most_work = λ files k. record { few_visits = listed.few; few_changes = omega arith };
  };
  told = rw listed.unwritten (given_none sink);
}

-- the same whatever the files are
pub near-listed : (kind : Kind) (t : AnyTable) (cursors : Named Cursor) (q : List ℤ) (n : ℕ) (sink now_sink : Taken)
    (v now_v : ℕ) (result : Result Answer Stop) → early_refusal (slot_of kind t cursors) (Command.Near q n) ≡ None →
    ListsNear t q n sink now_sink v now_v result →
    DoneWith (slot_of kind t cursors) (Command.Near q n) sink now_sink v now_v (slot_of kind t cursors) result
near-listed kind t cursors q n sink now_sink v now_v result h listed =
    record { done = λ most files filings changes. near-done most kind t cursors q n sink now_sink files filings v now_v changes result h listed }
