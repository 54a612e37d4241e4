-- Listings, row by row.
use Rattle.std.proofs.Common.{◌≡◌, ◌≤◌, ◌+◌, ℕ, zero, suc, Bool, true, false, List, [], ◌∷◌, ◌++◌, length, map, take, drop, refl, ap, sym, ◌∙◌, subst}
use Rattle.std.proofs.Common.{arith}
use Rattle.std.specs.Prelude.{◌↔◌, ◌<◌, ◌≢◌, IsSome, IfSome, ℤ, Option, Some, None, Ok, Err, Result, IfOk, IfErr, OnOk, OnErr, slice_get, filter}
use Rattle.std.specs.Prelude.{if◌then◌else◌}
use Rattle.std.specs.List.{list_all}
use Rattle.std.proofs.lemmas.Bool.{and_parts}
use Rattle.ph_io.specs.Giving.{Taken, Given}
use Rattle.ph_io.specs.declared.streams.Sink.{Ghosts as SinkTells}
use Rattle.ph_specs.specs.Coordinate.{is_point}
use Rattle.ph_specs.specs.Table.{Row, IsTable}
use Rattle.ph_specs.specs.WorkSets.{path}
use Rattle.ph_window.specs.Window.{meets_behind}
use Rattle.ph_specs.specs.Reply.{Reply, reply_text, replies_text}
use Rattle.ph_specs.specs.Engine.{row_replies, page_end}
use Rattle.ph_specs.specs.Window.{Cursor, is_between, is_after, window, rest, page, has_more, last_listed, next_cursor}
use Rattle.ph_specs.proofs.laws.Pages.{more-left, rest-behind-page}
use Rattle.ph_window.specs.Page.{IsLast}
use Rattle.ph_window.specs.declared.page.Tail.{Tail}
use Rattle.ph_window.specs.declared.page.Tail.TheVariants.{More, End}
use Rattle.ph_commands.specs.Telling.{refuses, is_refusal}
use Rattle.ph_commands.specs.Listing.{FrontListed, PageListed, Lists, met, page_replies, is_more}
use Rattle.ph_commands.specs.Tables.{AnyTable}
use Rattle.ph_commands.specs.Told.{taken_by}
use Rattle.ph_commands.specs.Working.{most_to_resume, least_to_resume}
use Rattle.ph_io.specs.Writing.{WritesFront}
use Rattle.ph_commands.specs.declared.answer.Answer.{Answer}
use Rattle.ph_commands.specs.declared.answer.Answer.TheVariants.{Good, Refused}
use Rattle.ph_commands.specs.declared.answer.Stop.{Stop}
use Rattle.ph_commands.specs.declared.answer.Stop.TheVariants.{WriteFault}
use Rattle.ph_commands.proofs.Backward.{within-both}
use Rattle.ph_commands.proofs.Replies.{IsGiven, none_given, one_given, all_given, front_given, next-is}

-- replies of one kind, one for each item, and further ones behind them
module _ {X : Type 0} (f : X → Reply) where
  -- one was written, or a front of it
  pub item-given : (all tail : List Reply) (xs next : List X) (x : X) (a b c : Taken) →
      IsGiven all (map f xs ++ tail) a b → xs ≡ x ∷ next → Given b c (reply_text (f x)) → IsGiven all (map f next ++ tail) a c
  item-given all tail xs next x a b c h e k = one_given all (map f xs ++ tail) (map f next ++ tail) (f x) a b c h (ap (λ ys. map f ys ++ tail) e) k

  pub item-front : (all tail : List Reply) (xs next : List X) (x : X) (a b c : Taken) →
      IsGiven all (map f xs ++ tail) a b → xs ≡ x ∷ next → WritesFront b c (reply_text (f x)) → WritesFront a c (replies_text all)
  item-front all tail xs next x a b c h e k = front_given all (map f xs ++ tail) (map f next ++ tail) (f x) a b c h (ap (λ ys. map f ys ++ tail) e) k

  -- the last reply was written, or a front of it
  pub last-given : (all : List Reply) (xs : List X) (r : Reply) (a b c : Taken) →
      IsGiven all (map f xs ++ r ∷ []) a b → xs ≡ [] → Given b c (reply_text r) → Given a c (replies_text all)
  last-given all xs r a b c h e k =
      all_given all [] a c (one_given all (map f xs ++ r ∷ []) [] r a b c h (ap (λ ys. map f ys ++ r ∷ []) e) k) refl

  pub last-front : (all : List Reply) (xs : List X) (r : Reply) (a b c : Taken) →
      IsGiven all (map f xs ++ r ∷ []) a b → xs ≡ [] → WritesFront b c (reply_text r) → WritesFront a c (replies_text all)
  last-front all xs r a b c h e k = front_given all (map f xs ++ r ∷ []) [] r a b c h (ap (λ ys. map f ys ++ r ∷ []) e) k

is-good : (a : Answer) → refuses a ≡ false → a ≡ Good
is-good Good h = refl
is-good Refused h = cc

-- what is left where the next one is missing
pub none-left : {X : Type 0} (xs : List X) → None ≡ slice_get xs 0 → xs ≡ []
none-left [] h = refl
none-left (x ∷ xs) h = cc

-- ---- listings that go to their end

-- All items were listed, and what comes behind them was said.
pub items-said : {X : Type 0} (f : X → Reply) (all xs : List X) (n count least most v0 v : ℕ) (a b c : Taken)
    (result : Result Answer Stop) → IsGiven (map f all ++ Reply.End n ∷ []) (map f xs ++ Reply.End n ∷ []) a b →
    xs ≡ [] → count ≡ n → IfOk result (λ answer. refuses answer ≡ is_refusal (reply_text (Reply.End count))) →
    OnOk result (Given b c (reply_text (Reply.End count))) → IfErr result (λ stop. stop ≡ WriteFault) →
    OnErr result (WritesFront b c (reply_text (Reply.End count))) → v0 + least ≤ v → v ≤ v0 + most →
    Lists (map f all ++ Reply.End n ∷ []) least most a c v0 v result
items-said f all xs n count least most v0 v a b c (Ok answer) h none counted good told fault front enough few =
    let k : Given b c (reply_text (Reply.End n)) = rw counted at told in
    record { told = last-given f (map f all ++ Reply.End n ∷ []) xs (Reply.End n) a b c h none k; good = is-good answer good; enough = enough; few = few }
items-said f all xs n count least most v0 v a b c (Err stop) h none counted good told fault front enough few =
    let k : WritesFront b c (reply_text (Reply.End n)) = rw counted at front in
    record { front = last-front f (map f all ++ Reply.End n ∷ []) xs (Reply.End n) a b c h none k; fault = fault; visited = few }

-- A loop lists items: the replies to some are given, those to the others are still to come, and so are so many visits.
pub record IsListed {X : Type 0} (f : X → Reply) (all left : List X) (count : ℕ) (a b : Taken) (faults now_faults v due now_v now_due : ℕ) : Type 0 where
  pub later : faults ≤ now_faults
  pub given : IsGiven (map f all ++ Reply.End (length all) ∷ []) (map f left ++ Reply.End (length all) ∷ []) a b
  pub counted : count + length left ≡ length all
  pub cost : now_v + now_due ≡ v + due

-- the same of a sink, as it was when the loop began and as it is now
abbrev pub IsListedBy : {O X : Type 0} → SinkTells O → (X → Reply) → List X → List X → ℕ → O → O → ℕ → ℕ → ℕ → ℕ → Type 0
IsListedBy sink f all left count out now_out v due now_v now_due =
    IsListed f all left count (taken_by sink out) (taken_by sink now_out) (sink.faults out) (sink.faults now_out) v due now_v now_due

pub none_listed : {X : Type 0} (f : X → Reply) (all : List X) (a : Taken) (faults v due : ℕ) → IsListed f all all 0 a a faults faults v due v due
none_listed f all a faults v due = record { later = omega arith; given = none_given _ a; counted = omega arith; cost = refl }

-- what is left is shorter by the next one
pub next_shorter : {X : Type 0} (xs : List X) {next : List X} {x : X} → Some x ≡ slice_get xs 0 → next ≡ drop 1 xs → length next < length xs
next_shorter xs {next} {x} h e = omega (arith, ap (λ ys. length ys) (next-is xs next x h e))

module _ {X : Type 0} {f : X → Reply} {all left : List X} {count : ℕ} {a b : Taken} {faults now_faults v due now_v now_due : ℕ}
    (l : IsListed f all left count a b faults now_faults v due now_v now_due) where
  -- one more is listed
  pub one_listed : {next : List X} {x : X} {c : Taken} {later_faults later_v later_due : ℕ} → Some x ≡ slice_get left 0 →
      next ≡ drop 1 left → Given b c (reply_text (f x)) → now_faults ≤ later_faults → later_v + later_due ≡ now_v + now_due →
      IsListed f all next (count + 1) a c faults later_faults v due later_v later_due
  one_listed {next} {x} {c} h rest told later cost =
      let e = next-is left next x h rest in
      record {
        later = omega (arith, l.later, later);
        given = item-given f _ _ left next x a b c l.given e told;
        counted = omega (arith, l.counted, ap (λ xs. length xs) e);
        cost = cost ∙ l.cost;
      }

  -- before one more there are fewer than all
  pub few_listed : {next : List X} {x : X} → Some x ≡ slice_get left 0 → next ≡ drop 1 left → count + 1 ≤ length all
  few_listed {next} {x} h rest = omega (arith, l.counted, ap (λ xs. length xs) (next-is left next x h rest))

  -- a front of one more is written
  pub listed_cut : (later_due : ℕ) {next : List X} {x : X} {c : Taken} {stop : Stop} {later_v : ℕ} → Some x ≡ slice_get left 0 →
      next ≡ drop 1 left → WritesFront b c (reply_text (f x)) → stop ≡ WriteFault → later_v + later_due ≡ now_v + now_due →
      FrontListed (map f all ++ Reply.End (length all) ∷ []) due a c v later_v stop
  listed_cut later_due {next} {x} {c} h rest front fault cost = record {
    front = item-front f _ _ left next x a b c l.given (next-is left next x h rest) front;
    fault = fault;
    visited = omega (arith, l.cost, cost);
  }

  -- All are listed, and what comes behind them was said.
  pub all_listed : (c : Taken) (later_v : ℕ) {later_due : ℕ} (result : Result Answer Stop) → None ≡ slice_get left 0 →
      later_v + later_due ≡ now_v + now_due → later_due ≡ 0 →
      IfOk result (λ answer. refuses answer ≡ is_refusal (reply_text (Reply.End count))) →
      OnOk result (Given b c (reply_text (Reply.End count))) → IfErr result (λ stop. stop ≡ WriteFault) →
      OnErr result (WritesFront b c (reply_text (Reply.End count))) →
      Lists (map f all ++ Reply.End (length all) ∷ []) due due a c v later_v result
  all_listed c later_v result h cost end good told fault front =
      let none = none-left left h in
      items-said f all left (length all) count due due v later_v a b c result l.given none
      (omega (arith, l.counted, ap (λ xs. length xs) none)) good told fault front
      (omega (arith, l.cost, cost, end)) (omega (arith, l.cost, cost, end))

-- ---- pages

-- one row more of a page
pub page-step : (rows next : List Row) (left left' : ℕ) (r : Row) → rows ≡ r ∷ next → left ≡ suc left' → take left rows ≡ r ∷ take left' next
page-step rows next left left' r e f = rw (e, f) refl

pub page-rest : (rows next : List Row) (left left' : ℕ) (r : Row) → rows ≡ r ∷ next → left ≡ suc left' → drop left rows ≡ drop left' next
page-rest rows next left left' r e f = rw (e, f) refl

-- rows are left behind a page exactly where some are left of the window once the page is full
left-over : (rows : List Row) (left : ℕ) → take left rows ≡ [] → drop left rows ≡ rows
left-over rows zero h = refl
left-over [] (suc left) h = refl
left-over (r ∷ rows) (suc left) h = cc

same-test : (a b : Bool) (P : Type 0) → (a ≡ true) ↔ P → (b ≡ true) ↔ P → a ≡ b
same-test true true P h k = refl
same-test false false P h k = refl
same-test true false P h k = sym (k.1 (h.0 refl))
same-test false true P h k = h.1 (k.0 refl)

pub more-is : (w : ℕ) (c : Cursor) (n : ℕ) (table : List Row) (rows0 rows : List Row) (left : ℕ) (more : Bool) →
    rows0 ≡ rest w c table → drop left rows ≡ drop n rows0 → take left rows ≡ [] → (more ≡ true) ↔ (rows ≡ [] → ⊥) →
    more ≡ has_more w c n table
more-is w c n table rows0 rows left more e d none h =
    let same : rows ≡ drop n (rest w c table) = sym (left-over rows left none) ∙ d ∙ ap (drop n) e in
    same-test more (has_more w c n table) (rows ≡ [] → ⊥) h (rw same (more-left w c n table))

-- the points that are listed are points of the table
pub last-point : (w d : ℕ) (last : Option (List ℤ)) (rows : List Row) → IsLast w d last →
    list_all (λ r. is_point w d r.point) rows ≡ true → IsLast w d (last_listed last rows)
last-point w d last [] h k = h
last-point w d last (r ∷ rows) h k = last-point w d (Some r.point) rows (and_parts _ _ k).0 (and_parts _ _ k).1

all-taken : {A : Type 0} (p : A → Bool) (n : ℕ) (xs : List A) → list_all p xs ≡ true → list_all p (take n xs) ≡ true
all-taken p zero xs h = refl
all-taken p (suc n) [] h = refl
all-taken p (suc n) (x ∷ xs) h = let k = and_parts (p x) (list_all p xs) h in rw (k.0) (all-taken p n xs k.1)

all-filtered : {A : Type 0} (p q : A → Bool) (xs : List A) → list_all p xs ≡ true → list_all p (filter q xs) ≡ true
all-filtered p q [] h = refl
all-filtered p q (x ∷ xs) h =
    let k = and_parts (p x) (list_all p xs) h in
    let more = all-filtered p q xs k.1 in
    elim (q x) as (λ b. list_all p (if b then x ∷ filter q xs else filter q xs) ≡ true) [ true ↦ rw k.0 more | false ↦ more ]

same-cursor : (b c : Cursor) → b.lo ≡ c.lo → b.hi ≡ c.hi → b.last ≡ c.last → b ≡ c
same-cursor b c lo hi last = λ i. record { lo = lo i; hi = hi i; last = last i }

-- The rows of a page were given, so many by count, and these are left; more are told exactly where some are left.
pub record IsPaged (t : AnyTable) (c : Cursor) (n : ℕ) (all rows : List Row) (left count : ℕ) (more : Bool) (x y : Taken) : Type 0 where
  pub is : all ≡ rest t.tree.width c t.tree.table
  pub given : (tail : List Reply) → IsGiven (row_replies (take n all) ++ tail) (row_replies (take left rows) ++ tail) x y
  pub none : take left rows ≡ []
  pub behind : drop left rows ≡ drop n all
  pub counted : count ≡ length (take n all)
  pub told : (more ≡ true) ↔ (rows ≡ [] → ⊥)

module _ {t : AnyTable} {c : Cursor} {n : ℕ} {all rows : List Row} {left count : ℕ} {more : Bool} {x y : Taken}
    (p : IsPaged t c n all rows left count more x y) where
  -- the replies of a page are its rows and then its end
  page-ended : row_replies (take n all) ++ page_end more count ∷ [] ≡ page_replies t c n
  page-ended =
      let w = t.tree.width in
      let listed : take n all ≡ page w c n t.tree.table = ap (take n) p.is in
      ap (λ b. row_replies (take n all) ++ page_end b count ∷ []) (more-is w c n t.tree.table all rows left more p.is p.behind p.none p.told)
      ∙ ap (λ k. row_replies (take n all) ++ page_end (has_more w c n t.tree.table) k ∷ []) p.counted
      ∙ ap (λ rs. row_replies rs ++ page_end (has_more w c n t.tree.table) (length rs) ∷ []) listed

  -- the whole page was given, and then its end
  pub page-said : {z : Taken} (v0 v : ℕ) (behind : Cursor) → behind.lo ≡ c.lo → behind.hi ≡ c.hi →
      last_listed behind.last (take left rows) ≡ last_listed c.last (take n all) → IsLast t.tree.width t.dims c.last →
      IsTable t.tree.width t.dims t.tree.table → v0 + least_to_resume t.tree.table c.last ≤ v →
      v ≤ v0 + (most_to_resume t.tree.width t.dims t.tree.table c.last + met t c.lo c.hi) → Given y z (reply_text (page_end more count)) →
      PageListed t c n x z v0 v behind
  page-said {z} v0 v behind lo hi last start whole grows cost told =
      let w = t.tree.width in
      let points = (and_parts _ _ (and_parts _ _ whole).1).0 in
      let next : behind ≡ next_cursor w c n t.tree.table = same-cursor behind (next_cursor w c n t.tree.table) lo hi
      (ap (last_listed behind.last) (sym p.none) ∙ last ∙ ap (λ rs. last_listed c.last (take n rs)) p.is) in
      let stands : behind.last ≡ last_listed c.last (take n all) = ap (last_listed behind.last) (sym p.none) ∙ last in
      let inside : list_all (λ r. is_point w t.dims r.point) (take n all) ≡ true =
      all-taken (λ r. is_point w t.dims r.point) n all
      (rw p.is (all-filtered (λ r. is_point w t.dims r.point) (λ r. is_after w c.last r.point)
      (window c.lo c.hi t.tree.table)
      (all-filtered (λ r. is_point w t.dims r.point) (λ r. is_between c.lo c.hi r.point) t.tree.table points))) in
      record {
        told = subst (λ rs. Given x z (replies_text rs)) page-ended
            (last-given Reply.RowIs _ (take left rows) (page_end more count) x y z (p.given (page_end more count ∷ [])) p.none told);
        next = next;
        rest_behind = ap (λ x. rest w x t.tree.table) next ∙ rest-behind-page w t.dims c n t.tree.table whole;
        last = rw stands (last-point w t.dims c.last (take n all) start inside);
        grows = grows;
        visited = cost;
      }

  -- the rows of the page were given, and a front of its end
  pub page-cut : {z : Taken} → WritesFront y z (reply_text (page_end more count)) → WritesFront x z (replies_text (page_replies t c n))
  page-cut {z} front =
      subst (λ rs. WritesFront x z (replies_text rs)) page-ended
      (last-front Reply.RowIs _ (take left rows) (page_end more count) x y z (p.given (page_end more count ∷ [])) p.none front)

-- how many nodes are visited before its rows
pub few-to-resume : (w d : ℕ) (table : List Row) (lo hi : List ℤ) (left v now_v : ℕ) (last : Option (List ℤ)) → (last ≡ None → now_v ≡ v) →
    IfSome last (λ p. (now_v ≤ v + length (path w d table p)) × (left ≤ length (meets_behind w d table lo hi p))) →
    now_v ≤ v + w → now_v ≤ v + most_to_resume w d table last
few-to-resume w d table lo hi left v now_v None h way k = let e = h refl in omega (arith, e)
few-to-resume w d table lo hi left v now_v (Some last) h way k = within-both v now_v (length (path w d table last)) w way.0 k

pub some-to-resume : (rows : List Row) (v now_v : ℕ) (last : Option (List ℤ)) → v ≤ now_v → (IsSome last → rows ≢ [] → v < now_v) → v + least_to_resume rows last ≤ now_v
some-to-resume rows v now_v None k h = omega (arith, k)
some-to-resume [] v now_v (Some last) k h = omega (arith, k)
some-to-resume (r ∷ rows) v now_v (Some last) k h = let less : v < now_v = h refl (λ e. cc) in omega (arith, less)

-- whether more is left, by what the walk tells
pub more-by : (tail : Tail) (P : Type 0) → (tail ≡ More) ↔ P → (is_more tail ≡ true) ↔ P
more-by More P h = (λ e. h.0 refl, λ p. refl)
more-by End P h = (λ e. cc, λ p. absurd (let f : End ≡ More = h.1 p in cc))

-- a window has no more rows than its table
pub few-filtered : {A : Type 0} (q : A → Bool) (xs : List A) → length (filter q xs) ≤ length xs
few-filtered q [] = omega arith
few-filtered q (x ∷ xs) =
    let more = few-filtered q xs in
    elim (q x) as (λ b. length (if b then x ∷ filter q xs else filter q xs) ≤ suc (length xs)) [ true ↦ omega (arith, more) | false ↦ omega (arith, more) ]

pub few-rows : (lo hi : List ℤ) (table : List Row) → length (window lo hi table) ≤ length table
few-rows lo hi table = few-filtered (λ r. is_between lo hi r.point) table
