-- A run of generated commands, one more at a time, from what each of them answers.
use Rattle.std.proofs.Common.{◌≡◌, ◌≤◌, ◌<◌, ◌+◌, ◌-◌, ◌%◌, ◌^◌, ℕ, zero, suc, inl, inr, arith, Bool, true, false, List, [], ◌∷◌, ◌++◌, length}
use Rattle.std.proofs.Common.{refl, ap, sym, ◌∙◌, append_assoc, append-nil}
use Rattle.std.specs.Prelude.{Option, Some, None, nat_le, ◌&&◌, slice_index_or, codes, decimal, pos, ◌+ℤ◌}
use Rattle.std.specs.List.{list_all}
use Rattle.std.proofs.lemmas.Bool.Decides.{nat_tests}
use Rattle.ph_io.specs.Giving.{Taken, Given, Grew}
use Rattle.ph_io.specs.Writing.{WritesFront}
use Rattle.ph_io.proofs.Appending.{given_none, given_both}
use Rattle.ph_specs.specs.declared.Which.{Which}
use Rattle.ph_specs.specs.declared.Which.TheVariants.{A, B}
use Rattle.ph_specs.specs.Command.{Command}
use Rattle.ph_specs.specs.Generator.{generate, generate_from, next_state, draw_of, command_of_draws, small_coordinate}
use Rattle.ph_specs.specs.Program.{act_all, counted, opened, soak_line}
use Rattle.ph_specs.specs.Reply.{Reply, replies_text, line_of, stats_words}
use Rattle.ph_specs.specs.Refusals.{refusal}
use Rattle.ph_specs.specs.Past.{Past, put_kept, del_kept, move_kept}
use Rattle.ph_specs.specs.State.{Slot, Engine, Files, outcome, current, slot_at, with_slot, with_past, past_in}
use Rattle.ph_specs.specs.Stats.{Stats, stats}
use Rattle.ph_specs.specs.Engine.{act, after, effect, unless_refused}
use Rattle.ph_slot.specs.Beside.{Beside, alone, beside, Tells}
use Rattle.ph_slot.specs.Doing.{Done, Undone, Unfiled, Leads, Knows, HoldsFound, file_read, starved_engine, wants_memory, is_on_slot, is_begin}
use Rattle.ph_commands.specs.Working.{Work, one_if, work_of, nodes_of, IsAtMost, IsAtLeast}
use Rattle.ph_engine.specs.Soaking.{is_drawn, AreDrawn, sum_work, visits_most, Soaked, SoakedInPart, SoakDone}
use Rattle.ph_commands.specs.declared.answer.Answer.{Answer}
use Rattle.ph_engine.specs.declared.status.Status.TheVariants.{Clean, WriteFault}
use Rattle.ph_commands.proofs.Replies.{texts-append}

-- ---- the commands that are drawn

both-first : (a b : Bool) → (a && b) ≡ true → a ≡ true
both-first true b h = refl
both-first false b h = h

both-rest : (a b : Bool) → (a && b) ≡ true → b ≡ true
both-rest true b h = h
both-rest false b h = absurd cc

some-drawn : (commands : List Command) (i : ℕ) (default : Command) → AreDrawn commands → is_drawn default ≡ true → is_drawn (slice_index_or commands i default) ≡ true
some-drawn [] i default h k = k
some-drawn (c ∷ commands) zero default h k = both-first (is_drawn c) (list_all is_drawn commands) h
some-drawn (c ∷ commands) (suc i) default h k = some-drawn commands i default (both-rest (is_drawn c) (list_all is_drawn commands) h) k

both : (a b : Bool) → a ≡ true → b ≡ true → (a && b) ≡ true
both true b h k = k
both false b h k = absurd cc

draws-drawn : (t u v r : ℕ) → is_drawn (command_of_draws t u v r) ≡ true
draws-drawn t u v r =
    let x = small_coordinate u in
    let y = small_coordinate v in
    let p = x ∷ y ∷ [] in
    let put = Command.Put p r in
    some-drawn (put ∷ put ∷ put ∷ Command.Get p ∷ Command.Del p ∷ Command.Relocate p (y ∷ x ∷ []) ∷
    Command.Window p ((x +ℤ pos 7) ∷ (y +ℤ pos 7) ∷ []) ∷ Command.Near p 4 ∷ []) (t % 8) put refl refl

pub all_drawn : (n state : ℕ) → AreDrawn (generate_from n state)
all_drawn zero state = refl
all_drawn (suc n) state =
    let t = next_state state in
    let u = next_state t in
    let v = next_state u in
    let r = next_state v in
    both (is_drawn (command_of_draws (draw_of t) (draw_of u) (draw_of v) (draw_of r)))
    (list_all is_drawn (generate_from n r)) (draws-drawn (draw_of t) (draw_of u) (draw_of v) (draw_of r)) (all_drawn n r)

-- they are about the current slot, and leave its number of dimensions
pub drawn_on_slot : (command : Command) → is_drawn command ≡ true → is_on_slot command ≡ true
drawn_on_slot (Command.Select which) h = absurd cc
drawn_on_slot Command.Compare h = absurd cc
drawn_on_slot Command.Join h = absurd cc
drawn_on_slot (Command.Combine operation) h = absurd cc
drawn_on_slot command h = refl

pub drawn_leaves : (command : Command) → is_drawn command ≡ true → is_begin command ≡ false
drawn_leaves (Command.Begin kind k width max) h = absurd cc
drawn_leaves command h = refl

-- they read no file
drawn-reads : (command : Command) → is_drawn command ≡ true → file_read command ≡ None
drawn-reads (Command.Load name) h = absurd cc
drawn-reads (Command.Import name header) h = absurd cc
drawn-reads command h = refl

drawn-starved : (e : Engine) (files : Files) (command : Command) (part : ℕ) → is_drawn command ≡ true → starved_engine e files command part ≡ e
drawn-starved e files (Command.Import name header) part h = absurd cc
drawn-starved e files (Command.Back asked) part h = absurd cc
drawn-starved e files command part h = refl

-- they leave the files
effect-files : (e : Engine) (files : Files) (command : Command) → is_drawn command ≡ true → (effect e files command).files ≡ files
effect-files e files (Command.Put p v) h = refl
effect-files e files (Command.Get p) h = refl
effect-files e files (Command.Del p) h = refl
effect-files e files (Command.Relocate p q) h = refl
effect-files e files (Command.Window lo hi) h = refl
effect-files e files (Command.Near q n) h = refl
effect-files e files command h = absurd cc

unless-files : (r : Option Reply) (e : Engine) (files : Files) (command : Command) →
    (effect e files command).files ≡ files → (unless_refused r e files command).files ≡ files
unless-files (Some r) e files command h = refl
unless-files None e files command h = h

drawn-files : (most : ℕ) (e : Engine) (files : Files) (command : Command) → is_drawn command ≡ true → (act most e files false command).files ≡ files
drawn-files most e files command h = unless-files (refusal most e files false command) e files command (effect-files e files command h)

-- and which slot is current and how many dimensions it has
abbrev frame : Engine → Which × ℕ
frame e = (e.current, (current e).dims)

past-frame : (which : Which) (a b : Slot) (k : Past) → let e : Engine = record { a = a; b = b; current = which } in
    frame (with_slot e (with_past (current e) k)) ≡ frame e
past-frame A a b k = refl
past-frame B a b k = refl

effect-frame : (e : Engine) (files : Files) (command : Command) → is_drawn command ≡ true → frame (effect e files command).engine ≡ frame e
effect-frame e files (Command.Put p v) h = past-frame e.current e.a e.b (put_kept (past_in (current e)) p v)
effect-frame e files (Command.Get p) h = refl
effect-frame e files (Command.Del p) h = past-frame e.current e.a e.b (del_kept (past_in (current e)) p)
effect-frame e files (Command.Relocate p q) h = past-frame e.current e.a e.b (move_kept (past_in (current e)) p q)
effect-frame e files (Command.Window lo hi) h = refl
effect-frame e files (Command.Near q n) h = refl
effect-frame e files command h = absurd cc

unless-frame : (r : Option Reply) (e : Engine) (files : Files) (command : Command) →
    frame (effect e files command).engine ≡ frame e → frame (unless_refused r e files command).engine ≡ frame e
unless-frame (Some r) e files command h = refl
unless-frame None e files command h = h

drawn-frame : (most : ℕ) (e : Engine) (files : Files) (command : Command) → is_drawn command ≡ true →
    frame (act most e files false command).engine ≡ frame e
drawn-frame most e files command h = unless-frame (refusal most e files false command) e files command (effect-frame e files command h)

first-dims : (e : Engine) → e.current ≡ A → (current e).dims ≡ e.a.dims
first-dims e h = ap (λ which. (slot_at which e).dims) h

-- ---- the fold over commands

act_all-append : (most : ℕ) (e : Engine) (files : Files) (xs ys : List Command) →
    act_all most e files (xs ++ ys) ≡ after (act_all most e files xs).replies
    (act_all most (act_all most e files xs).engine (act_all most e files xs).files ys)
act_all-append most e files [] ys = refl
act_all-append most e files (c ∷ xs) ys =
    let o = act most e files false c in
    let rest = act_all most o.engine o.files xs in
    let last = act_all most rest.engine rest.files ys in
    ap (after o.replies) (act_all-append most o.engine o.files xs ys) ∙ ap (outcome last.engine last.files) (sym (append_assoc o.replies rest.replies last.replies))

sum-append : (bound : Work → ℕ) (most : ℕ) (e : Engine) (files : Files) (xs ys : List Command) →
    sum_work bound most e files (xs ++ ys) ≡ sum_work bound most e files xs + sum_work bound most
    (act_all most e files xs).engine (act_all most e files xs).files ys
sum-append bound most e files [] ys = omega arith
sum-append bound most e files (c ∷ xs) ys = let o = act most e files false c in omega (arith, sum-append bound most o.engine o.files xs ys)

-- the same of a command and those behind it, in the state that the first commands lead to
sum-behind : (bound : Work → ℕ) (most : ℕ) (e now : Engine) (files : Files) (xs : List Command) (c : Command)
    (ys : List Command) → now ≡ (act_all most e files xs).engine → files ≡ (act_all most e files xs).files →
    sum_work bound most e files xs + bound (work_of most now files false c) ≤ sum_work bound most e files (xs ++ c ∷ ys)
sum-behind bound most e now files xs c ys l k =
    let before = act_all most e files xs in
    let s : bound (work_of most now files false c) ≡ bound (work_of most before.engine before.files false c) =
    ap (λ x. bound (work_of most x files false c)) l ∙ ap (λ x. bound (work_of most before.engine x false c)) k in
    omega (arith, sum-append bound most e files xs (c ∷ ys), s)

sum-more : (bound : Work → ℕ) (most : ℕ) (e now : Engine) (files : Files) (xs : List Command) (c : Command) →
    now ≡ (act_all most e files xs).engine → files ≡ (act_all most e files xs).files →
    sum_work bound most e files (xs ++ c ∷ []) ≡ sum_work bound most e files xs + bound (work_of most now files false c)
sum-more bound most e now files xs c l k =
    let before = act_all most e files xs in
    let s : bound (work_of most now files false c) ≡ bound (work_of most before.engine before.files false c) =
    ap (λ x. bound (work_of most x files false c)) l ∙ ap (λ x. bound (work_of most before.engine x false c)) k in
    omega (arith, sum-append bound most e files xs (c ∷ []), s)

-- ---- commands that were done

soaked-none : (most : ℕ) (e : Engine) (files : Files) (b : Beside) → Soaked most e files [] b b e
soaked-none most e files b = record {
  led = refl;
  kept = refl;
  told = given_none b.sink;
  most_visits = omega arith;
  most_changes = omega arith;
  least_visits = omega arith;
  least_changes = omega arith;
}

no-fault : (fault : Bool) → Tells 0 0 (one_if fault) → fault ≡ false
no-fault false h = refl
no-fault true (inl h) = absurd (omega (arith, h))
no-fault true (inr h) = absurd (omega (arith, h))

-- files that are not told are known well enough
drawn-knows : (command : Command) (told : Option Files) (found : Option (List ℕ)) (files : Files) → is_drawn command ≡ true → Knows command told found files
drawn-knows command told found files h = inr (let at : HoldsFound None files found = tt in rw (drawn-reads command h) at)

soaked-more : (most : ℕ) (e now next : Engine) (files : Files) (commands : List Command) (command : Command)
    (start b now_b : Beside) (answer : Answer) → is_drawn command ≡ true → b.files ≡ None → b.filings ≡ 0 →
    now_b.filings ≡ 0 → Soaked most e files commands start b now → Done most now command b now_b next answer →
    Soaked most e files (commands ++ command ∷ []) start now_b next
soaked-more most e now next files commands command start b now_b answer drawn untold none stand h d =
    let knows = drawn-knows command b.files d.found files drawn in
    let f : d.fault ≡ false = no-fault d.fault (let t : Tells b.filings now_b.filings (one_if d.fault) = d.filings.told in rw (none, stand) at t) in
    let l : Leads (act most now files d.fault command) next files b.files now_b.files d.replies = d.does files knows in
    let led : act most now files false command ≡ outcome next l.after d.replies = ap (λ x. act most now files x command) (sym f) ∙ l.is in
    let same : files ≡ l.after = sym (drawn-files most now files command drawn) ∙ ap (λ x. x.files) led in
    let before = act_all most e files commands in
    let o : act most before.engine before.files false command ≡ outcome next files d.replies =
    ap (λ x. act most x before.files false command) (sym h.led) ∙ ap (λ x. act most now x false command)
    (sym h.kept) ∙ led ∙ ap (λ x. outcome next x d.replies) (sym same) in
    let all : act_all most e files (commands ++ command ∷ []) ≡ outcome next files (before.replies ++ (d.replies ++ [])) =
    act_all-append most e files commands (command ∷ []) ∙ ap (λ x. after before.replies (after x.replies (outcome x.engine x.files []))) o in
    let most_done : IsAtMost (work_of most now files false command) b.visits now_b.visits b.changes now_b.changes = (let w = d.most_work files knows in rw f at w) in
    let least_done : IsAtLeast (work_of most now files false command) b.visits now_b.visits b.changes now_b.changes = (let w = d.least_work files knows in rw f at w) in
    record {
      led = ap (λ x. x.engine) (sym all);
      kept = ap (λ x. x.files) (sym all);
      told = let g : Given start.sink now_b.sink (replies_text before.replies ++ replies_text d.replies) = given_both start.sink b.sink now_b.sink _ _ h.told d.told in
          let t : replies_text (act_all most e files (commands ++ command ∷ [])).replies ≡ replies_text before.replies ++ replies_text d.replies =
          ap (λ x. replies_text x.replies) all ∙ texts-append before.replies (d.replies ++ []) ∙
          ap (λ x. replies_text before.replies ++ replies_text x) (append-nil d.replies) in
          rw t g;
      most_visits = omega (arith, h.most_visits, most_done.few_visits, sum-more (λ w. w.most_visits) most e now files commands command h.led h.kept);
      most_changes = omega (arith, h.most_changes, most_done.few_changes, sum-more (λ w. w.most_changes) most e now files commands command h.led h.kept);
      least_visits = omega (arith, h.least_visits, least_done.enough_visits, sum-more (λ w. w.least_visits) most e now files commands command h.led h.kept);
      least_changes = omega (arith, h.least_changes, least_done.enough_changes, sum-more (λ w. w.least_changes) most e now files commands command h.led h.kept);
    }

-- ---- while commands are left

-- Of all commands some first were done, and the rest is left.
pub record SoakedSoFar (most : ℕ) (e : Engine) (all : List Command) (b now_b : Beside) (now : Engine) (rest : List Command) : Type 0 where
  pub finished : List Command
  pub cut : finished ++ rest ≡ all
  pub drawn : AreDrawn rest
  pub first : now.current ≡ A
  pub two : now.a.dims ≡ 2
  pub soaked : (files : Files) → Soaked most e files finished b now_b now

-- its next command is a drawn one
pub next_drawn : {most : ℕ} {e now : Engine} {all : List Command} {b now_b : Beside} (command : Command) (rest : List Command) →
    SoakedSoFar most e all b now_b now (command ∷ rest) → is_drawn command ≡ true
next_drawn command rest h = both-first (is_drawn command) (list_all is_drawn rest) h.drawn

pub soak_begun : (most : ℕ) (e : Engine) (all : List Command) (b : Beside) → AreDrawn all → e.current ≡ A → e.a.dims ≡ 2 → SoakedSoFar most e all b b e all
soak_begun most e all b drawn first two =
    record { finished = []; cut = refl; drawn = drawn; first = first; two = two; soaked = λ files. soaked-none most e files b }

pub soak_next : (most : ℕ) (e now next : Engine) (all : List Command) (command : Command) (rest : List Command)
    (start b now_b : Beside) (answer : Answer) → b.files ≡ None → b.filings ≡ 0 → now_b.filings ≡ 0 →
    SoakedSoFar most e all start b now (command ∷ rest) → Done most now command b now_b next answer →
    SoakedSoFar most e all start now_b next rest
soak_next most e now next all command rest start b now_b answer untold none stand h d =
    let drawn = both-first (is_drawn command) (list_all is_drawn rest) h.drawn in
    let soaked = λ (files : Files). soaked-more most e now next files h.finished command start b now_b answer drawn untold none stand (h.soaked files) d in
    let l : Leads (act most now [] d.fault command) next [] b.files now_b.files d.replies = d.does [] (drawn-knows command b.files d.found [] drawn) in
    let f : d.fault ≡ false = no-fault d.fault (let t : Tells b.filings now_b.filings (one_if d.fault) = d.filings.told in rw (none, stand) at t) in
    let led : act most now [] false command ≡ outcome next l.after d.replies = ap (λ x. act most now [] x command) (sym f) ∙ l.is in
    let kept : frame next ≡ frame now = sym (ap (λ x. frame x.engine) led) ∙ drawn-frame most now [] command drawn in
    let first : next.current ≡ A = ap (λ x. x.0) kept ∙ h.first in
    record {
      finished = h.finished ++ command ∷ [];
      cut = append_assoc h.finished (command ∷ []) rest ∙ h.cut;
      drawn = both-rest (is_drawn command) (list_all is_drawn rest) h.drawn;
      first = first;
      two = sym (first-dims next first) ∙ ap (λ x. x.1) kept ∙ first-dims now h.first ∙ h.two;
      soaked = soaked;
    }

-- the command for which memory was missing wants it
starved-wants : (most : ℕ) (now : Engine) (command : Command) (b now_b : Beside) (next : Engine) (files : Files) →
    b.files ≡ None → b.filings ≡ 0 → now_b.filings ≡ 0 → is_drawn command ≡ true → Unfiled most now command b now_b next →
    wants_memory most now files false command ≡ true
starved-wants most now command b now_b next files untold none stand drawn d =
    let f : d.fault ≡ false = no-fault d.fault (let t : Tells b.filings now_b.filings (one_if d.fault) = d.counted.told in rw (none, stand) at t) in
    ap (λ x. wants_memory most now files x command) (sym f) ∙ d.wanted files (drawn-knows command b.files d.found files drawn)

pub soak_starved : (most : ℕ) (e now next : Engine) (all : List Command) (command : Command) (rest : List Command)
    (start b now_b : Beside) → b.files ≡ None → b.filings ≡ 0 → now_b.filings ≡ 0 →
    SoakedSoFar most e all start b now (command ∷ rest) →
    Undone most now command b now_b next → SoakedInPart most e all start now_b next
soak_starved most e now next all command rest start b now_b untold none stand h d =
    let drawn = both-first (is_drawn command) (list_all is_drawn rest) h.drawn in
    let knows = λ (files : Files). drawn-knows command b.files d.unfiled.found files drawn in
    let stays : next ≡ now = d.unfiled.state [] (knows []) ∙ drawn-starved now [] command d.unfiled.part drawn in
    record {
      stopped = record {
        finished = h.finished;
        next = command;
        rest = rest;
        all = sym h.cut;
        led = λ files. stays ∙ (h.soaked files).led;
        wanted = λ files. rw stays (starved-wants most now command b now_b next files untold none stand drawn d.unfiled);
      };
      most_visits = λ files.
          let s = h.soaked files in
          let w = d.unfiled.most_work files (knows files) in
          let behind = sum-behind (λ w. w.most_visits) most e now files h.finished command rest s.led s.kept in
          omega (arith, s.most_visits, w.few_visits, behind, ap (sum_work (λ w. w.most_visits) most e files) h.cut);
      most_changes = λ files.
          let s = h.soaked files in
          let w = d.unfiled.most_work files (knows files) in
          let behind = sum-behind (λ w. w.most_changes) most e now files h.finished command rest s.led s.kept in
          omega (arith, s.most_changes, w.few_changes, behind, ap (sum_work (λ w. w.most_changes) most e files) h.cut);
    }

-- ---- the line

-- the number that a sink shows that only counts, from 0 on
counted-is : (n len : ℕ) → n ≤ 2 ^ 64 - 1 → Grew (Some 0) (Some n) len → n ≡ counted len
counted-is n len l h = by-test (nat_le (2 ^ 64) len) refl
  where
    by-test : (t : Bool) → nat_le (2 ^ 64) len ≡ t → n ≡ counted len
    by-test true e = let k : 2 ^ 64 ≤ len = grind (arith, nat_tests) in rw e (omega (arith, l, h, k))
    by-test false e = let k : len < 2 ^ 64 = grind (arith, nat_tests) in rw e (omega (arith, l, h, k))

-- the line with these sizes and a number of bytes, and with the sizes of a slot
abbrev pub sizes_line : ℕ → Stats → ℕ → List ℕ
sizes_line n sizes bytes = line_of (codes "soak" ∷ decimal n ∷ stats_words sizes ++ codes "bytes" ∷ decimal bytes ∷ [])

abbrev pub slot_line : ℕ → Slot → ℕ → List ℕ
slot_line n s bytes = sizes_line n (stats s.width s.dims s.table) bytes

pub sizes_line_is : (n : ℕ) (sizes : Stats) (s slot : Slot) (taken bytes : ℕ) → sizes ≡ stats s.width s.dims s.table →
    s ≡ slot → taken ≡ bytes → sizes_line n sizes taken ≡ slot_line n slot bytes
sizes_line_is n sizes s slot taken bytes sized same counted = ap (λ x. sizes_line n x taken)
    (sized ∙ ap (λ x. stats x.width x.dims x.table) same) ∙ ap (slot_line n slot) counted

-- ---- how a soak ends

-- All commands were done, the sizes were counted, and the line is about them.
pub record HasSoaked (most n start : ℕ) (e now : Engine) (line : List ℕ) (visits now_visits changes now_changes : ℕ) : Type 0 where
  pub bytes : ℕ
  pub counted_visits : ℕ
  pub soaked : (files : Files) → Soaked most (opened e []) files (generate n start)
      (beside None (Some 0) None 0 visits changes) (beside None (Some bytes) None 0 counted_visits now_changes) now
  pub fits : bytes ≤ 2 ^ 64 - 1
  pub sized : now_visits ≡ counted_visits + nodes_of now.a
  pub said : line ≡ slot_line n now.a bytes

module _ {most n start : ℕ} {e now : Engine} {line : List ℕ} {visits now_visits changes now_changes : ℕ}
    (h : HasSoaked most n start e now line visits now_visits changes now_changes) where
  line-is : (files : Files) → line ≡ soak_line most e files n start
  line-is files =
      let s = h.soaked files in
      let all = act_all most (opened e []) files (generate n start) in
      h.said ∙ ap (λ x. slot_line n x.a h.bytes) s.led
      ∙ ap (slot_line n all.engine.a) (counted-is h.bytes (length (replies_text all.replies)) h.fits s.told.amount)

  few-visits : (files : Files) →
      now_visits ≤ visits + visits_most most (opened e []) files (generate n start) + nodes_of
      (act_all most (opened e []) files (generate n start)).engine.a
  few-visits files = let s = h.soaked files in omega (arith, s.most_visits, h.sized, ap (λ x. nodes_of x.a) s.led)

  pub soak_clean : {sink now_sink : Taken} → Given sink now_sink line →
      SoakDone most n start e now (alone sink visits changes) (alone now_sink now_visits now_changes) Clean
  soak_clean given = record {
    ends = inl refl;
    told = λ files s. rw (sym (line-is files)) given;
    cut = λ files s. absurd cc;
    none = λ s. absurd cc;
    engine = λ files s. (h.soaked files).led;
    stopped = λ s. absurd cc;
    most_visits = few-visits;
    most_changes = λ files. (h.soaked files).most_changes;
    least_visits = λ files s. omega (arith, (h.soaked files).least_visits, h.sized);
    least_changes = λ files s. (h.soaked files).least_changes;
  }

  pub soak_cut : {sink now_sink : Taken} → WritesFront sink now_sink line →
      SoakDone most n start e now (alone sink visits changes) (alone now_sink now_visits now_changes) WriteFault
  soak_cut front = record {
    ends = inr (inl refl);
    told = λ files s. absurd cc;
    cut = λ files s. rw (sym (line-is files)) front;
    none = λ s. absurd cc;
    engine = λ files s. (h.soaked files).led;
    stopped = λ s. absurd cc;
    most_visits = few-visits;
    most_changes = λ files. (h.soaked files).most_changes;
    least_visits = λ files s. absurd cc;
    least_changes = λ files s. absurd cc;
  }
