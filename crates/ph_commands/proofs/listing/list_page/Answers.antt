use Rattle.std.proofs.Common.{◌≡◌, ◌≤◌, ◌+◌, List, [], ◌∷◌, ◌++◌, length, take, drop, ap, sym, ◌∙◌, subst, refl, arith}
use Rattle.std.specs.Prelude.{◌↔◌}
use Rattle.std.proofs.lemmas.Result.{err_from_is_err_and}
use Rattle.ph_io.specs.Writing.{WritesFront}
use Rattle.ph_specs.specs.Reply.{Reply, replies_text}
use Rattle.ph_specs.specs.Engine.{row_replies, page_end}
use Rattle.ph_specs.specs.Window.{page, has_more, last_listed}
use Rattle.ph_window.specs.declared.page.Tail.TheVariants.{More}
use Rattle.ph_commands.specs.Listing.{is_more, met}
use Rattle.ph_commands.specs.Tables.{tree_at}
use Rattle.ph_commands.specs.Told.{taken_by}
use Rattle.ph_commands.specs.Working.{most_to_resume}
use Rattle.ph_commands.proofs.Replies.{none_given}
use Rattle.ph_commands.proofs.Listed.{IsPaged, item-given, item-front, none-left, page-step, page-rest, page-said, page-cut, more-by, few-to-resume}
use Rattle.ph_commands.proofs.Listed.{some-to-resume}
use Rattle.ph_commands.proofs.listing.list_page.Given.{Over}
use Rattle.ph_commands.proofs.listing.list_page.Goals.{After-page-page, After-tail}
use Rattle.ph_commands.proofs.listing.list_page.Goals as goal

pub rows-init : goal.rows-init
rows-init g c = record {
  later = omega arith;
  given = λ tail. none_given _ _;
  counted = omega arith;
  behind = refl;
  lo = refl;
  hi = refl;
  last = refl;
  grows = omega arith;
  cost = refl;
}

pub rows-preserved : goal.rows-preserved
rows-preserved g c =
    let old = c.rows.page in
    let new = c.next.new.self in
    let goes = c.in-Some.ensures.goes in
    let e = page-step old.rows new.rows old.left new.left c.in-Some.row goes.0 goes.1 in
    record {
      later = omega (arith, c.rows.invariant.later, c.in_ok-say_row.ensures.cause.later);
      given = λ tail. item-given Reply.RowIs _ tail (take old.left old.rows) (take new.left new.rows) c.in-Some.row _
          _ _ (c.rows.invariant.given tail) e c.in_ok-say_row.ensures.told;
      counted = omega (arith, c.rows.invariant.counted, ap (λ rs. length rs) e);
      behind = sym (page-rest old.rows new.rows old.left new.left c.in-Some.row goes.0 goes.1) ∙ c.rows.invariant.behind;
      lo = ap (λ x. x.lo) goes.2 ∙ c.rows.invariant.lo;
      hi = ap (λ x. x.hi) goes.2 ∙ c.rows.invariant.hi;
      last = ap (λ x. last_listed x.last (take new.left new.rows)) goes.2 ∙ sym (ap (last_listed old.cursor.last) e) ∙ c.rows.invariant.last;
      grows = omega (arith, c.rows.invariant.grows, c.next.ensures.grows);
      cost = c.next.ensures.cost ∙ c.rows.invariant.cost;
    }

-- how many nodes are visited to begin the page and to list it
resumed : (g : Over) (c : After-page-page g) → let cursor = c.args.cursor.now in
    c.page-page.new.visits + c.page-page.result.visits ≤
    c.args.visits.now + (most_to_resume c.args.tree.now.width g.row.D c.args.tree.now.table cursor.last + met (tree_at g.row.D c.args.tree.now) cursor.lo cursor.hi)
resumed g c =
    let cursor = c.args.cursor.now in
    let few : c.page-page.result.visits ≤ met (tree_at g.row.D c.args.tree.now) cursor.lo cursor.hi = c.page-page.ensures.visits in
    let start = few-to-resume c.args.tree.now.width g.row.D c.args.tree.now.table cursor.lo cursor.hi c.page-page.result.visits
    _ _ cursor.last c.page-page.ensures.first c.page-page.ensures.way c.page-page.ensures.cost in
    omega (arith, few, start)

pub returns-in_err-say_row-clause-lists : goal.returns-in_err-say_row-clause-lists
returns-in_err-say_row-clause-lists g c =
    let t = tree_at g.row.D c.args.tree.now in
    let cursor = c.args.cursor.now in
    let first = c.page-page.result in
    let old = c.rows.page in
    let new = c.next.new.self in
    let goes = c.in-Some.ensures.goes in
    let e = page-step old.rows new.rows old.left new.left c.in-Some.row goes.0 goes.1 in
    let listed = page t.tree.width cursor c.args.n t.tree.table in
    let tail : List Reply = page_end (has_more t.tree.width cursor c.args.n t.tree.table) (length listed) ∷ [] in
    let whole : take first.left first.rows ≡ listed = ap (λ k. take k first.rows) c.page-page.ensures.left ∙ ap (take c.args.n) c.page-page.ensures.rows in
    let is = err_from_is_err_and c.from_residual.result c.from_residual.ensures.1 in
    rw (is.1, is.2)
    (record {
      front = subst (λ rs. WritesFront (taken_by g.O.Sink c.args.out.now) (taken_by g.O.Sink c.say_row.new.out)
          (replies_text (row_replies rs ++ tail))) whole
          (item-front Reply.RowIs _ tail (take old.left old.rows) (take new.left new.rows) c.in-Some.row _ _ _
          (c.rows.invariant.given tail) e c.in_err-say_row.ensures.front);
      fault = c.in_err-say_row.ensures.err;
      visited = omega (arith, c.rows.invariant.cost, c.next.ensures.cost, resumed g (goal.at.returns-in_err-say_row-clause-lists g c).After-page-page);
    })

-- the rows of the page are given where its end is said
paged : (g : Over) (c : After-tail g) → IsPaged (tree_at g.row.D c.args.tree.now) c.args.cursor.now c.args.n c.page-page.result.rows
    c.rows.page.rows c.rows.page.left c.rows.count (is_more c.tail.result) (taken_by g.O.Sink c.args.out.now) (taken_by g.O.Sink c.rows.out)
paged g c =
    let rows = c.rows.page.rows in
    let first = c.page-page.result in
    let n = c.page-page.ensures.left in
    let none = none-left (take c.rows.page.left rows) c.in_default.ensures.row in
    record {
      is = c.page-page.ensures.rows;
      given = λ tail. rw (← n) (c.rows.invariant.given tail);
      none = none;
      behind = c.rows.invariant.behind ∙ ap (λ k. drop k first.rows) n;
      counted = rw (← n) (omega (arith, c.rows.invariant.counted, ap (λ rs. length rs) none));
      told = more-by c.tail.result (rows ≡ [] → ⊥)
          (subst (λ rs. (c.tail.result ≡ More) ↔ (rs ≡ [] → ⊥)) c.in_default.ensures.goes.0 c.tail.ensures.more);
    }

pub returns-clause-lists : goal.returns-clause-lists
returns-clause-lists g c =
    let cursor = c.args.cursor.now in
    let first = c.page-page.result in
    let old = c.rows.page in
    let same = c.cursor-behind.ensures ∙ c.in_default.ensures.goes.2 in
    let start = resumed g (goal.at.returns-clause-lists g c).After-page-page in
    page-said (paged g (goal.at.returns-clause-lists g c).After-tail) c.args.visits.now c.tail.new.visits c.cursor-behind.result
    (ap (λ x. x.lo) same ∙ c.rows.invariant.lo ∙ ap (λ x. x.lo) c.page-page.ensures.cursor)
    (ap (λ x. x.hi) same ∙ c.rows.invariant.hi ∙ ap (λ x. x.hi) c.page-page.ensures.cursor)
    (ap (λ x. last_listed x.last (take old.left old.rows)) same ∙
    c.rows.invariant.last ∙ ap (λ x. last_listed x.last (take first.left first.rows)) c.page-page.ensures.cursor ∙
    ap (λ k. last_listed cursor.last (take k first.rows)) c.page-page.ensures.left)
    c.requires.last
    c.root-root.ensures.table
    (omega (
      arith,
      some-to-resume c.args.tree.now.table _ _ cursor.last c.page-page.ensures.grows c.page-page.ensures.resumed,
      c.rows.invariant.grows,
      c.next.ensures.grows,
      c.tail.ensures.grows,
    ))
    (omega (arith, c.rows.invariant.cost, c.next.ensures.cost, c.tail.ensures.cost, start))
    (rw (← c.page_end.ensures) c.in_ok-say.ensures.told)

pub returns-in_err-say-clause-lists : goal.returns-in_err-say-clause-lists
returns-in_err-say-clause-lists g c =
    let is = err_from_is_err_and c.from_residual-in_err-say.result c.from_residual-in_err-say.ensures.1 in
    let start = resumed g (goal.at.returns-in_err-say-clause-lists g c).After-page-page in
    rw (is.1, is.2)
    (record {
      front = page-cut (paged g (goal.at.returns-in_err-say-clause-lists g c).After-tail) (rw (← c.page_end.ensures) c.in_err-say.ensures.front);
      fault = c.in_err-say.ensures.err;
      visited = omega (arith, c.rows.invariant.cost, c.next.ensures.cost, c.tail.ensures.cost, start);
    })
