use Rattle.std.proofs.Common.{◌≡◌, ℕ, List, refl, sym, subst, ◌∷◌, [], ◌++◌, take, drop, ◌∙◌, ap, arith, rules}
use Rattle.ph_specs.specs.Lines.{LF}
use Rattle.ph_script.specs.Shown.{before_feed, IsLine}
use Rattle.ph_engine.specs.Machine.{KEPT}
use Rattle.std.specs.Prelude.{Bool, false, Result, Ok, Err}
use Rattle.ph_slot.specs.Desks.{beside_at}
use Rattle.ph_engine.specs.Feeding.{Fed}
use Rattle.ph_script.specs.declared.lines.Line.{Line}
use Rattle.ph_engine.specs.Answering.{SaysOr}
use Rattle.ph_slot.specs.Beside.{Beside}
use Rattle.ph_commands.specs.declared.answer.Stop.{Stop}
use Rattle.ph_engine.specs.ScriptMachine.{Whole, whole, told_now, script_machine}
use Rattle.ph_engine.proofs.Feeds.{fed-none, line-said, line-stopped, then-fed, then-stopped, then-part}
use Rattle.ph_engine.proofs.Scans.{feed-unbroken, none-unbroken, feed-next, feed-within, whole as whole-piece, unended-feed, unended-none}
use Rattle.ph_engine.proofs.Answered.{known-on, known-right, known-left, known-still, shown-behind}
use Rattle.ph_engine.proofs.run.feed.Given.{Over}
use Rattle.ph_engine.proofs.run.feed.Goals.{In-Some}
use Rattle.ph_engine.proofs.run.feed.Goals as goal

-- what a line answers, from what is known of the files behind the lines before it
abbrev Says : (file_bytes : ℕ) → Line → Whole → Beside → Beside → Result Bool Stop → Whole → Type 0
Says file_bytes line s b now_b result now = (bytes : List ℕ) → IsLine bytes line → SaysOr (script_machine file_bytes) s bytes b now_b now result

-- the next line, behind an unended one whose kept bytes these are
shown : (g : Over) (c : In-Some g) (now : List ℕ) → c.lines.lines ≡ take KEPT now →
    IsLine (now ++ before_feed (drop c.lines.at c.args.piece.now)) c.in-Some.line
shown g c now kept = shown-behind now (before_feed (drop c.lines.at c.args.piece.now)) c.lines.lines c.in-Some.line kept c.in-Some.ensures.given.1

pub lines-preserved : goal.lines-preserved
lines-preserved g c =
    let given = c.in-Some.ensures.given in
    let place = c.in-Some.ensures.place in
    let middle = g.F.Files.files c.lines.desk.files.now in
    let empty : c.next_line.follows.lender-at-none ≡ [] = c.next_line.follows.holds-at-none ∙ unended-feed c.lines.lines (drop c.lines.at c.args.piece.now) given.0 in
    record {
      within = feed-within c.args.piece.now c.lines.at c.next_line.new.at c.lines.invariant.within given.0 place;
      later = omega (arith, c.lines.invariant.later, c.in-Ok.ensures.cause.later);
      filings = omega (arith, c.lines.invariant.filings, c.in-Ok.ensures.filings);
      begun = λ none. c.in-Ok.ensures.begun (c.lines.invariant.begun none);
      same = search rules;
      file = search rules;
      fed = λ known fits.
          let fed = c.lines.invariant.fed known fits in
          let line = known-on (Says c.args.desk.now.limits.now.file_bytes c.in-Some.line
          (whole c.lines.eng (told_now known middle)) _ _ (Ok c.in-Ok.some)) c.answer.new.eng known middle
          (g.F.Files.files c.answer.new.desk.files.now) fed.0
          ((rw c.lines.invariant.same.limits at c.in-Ok.ensures.answered) (told_now known middle) (known-right known middle fed.0)) in (
            line.0,
            λ unended k u.
                let before = fed.1 unended k u in
                let answered = λ (now : List ℕ) (kept : c.lines.lines ≡ take KEPT now). line.1 _ (shown g (goal.at.lines-preserved g c).In-Some now kept) in
                then-fed (script_machine c.args.desk.now.limits.now.file_bytes) _ unended (take c.lines.at c.args.piece.now)
                (before_feed (drop c.lines.at c.args.piece.now) ++ LF ∷ []) (take c.next_line.new.at c.args.piece.now)
                c.lines.lines c.next_line.follows.lender-at-none _ _ _ _ _ c.lines.refused c.in-Ok.some c.either-refused.result before
                (λ now kept free. rw empty (line-said (script_machine c.args.desk.now.limits.now.file_bytes) _ now
                (before_feed (drop c.lines.at c.args.piece.now)) (answered now kept).met _ _ _ c.in-Ok.some free
                (feed-unbroken (drop c.lines.at c.args.piece.now) given.0)
                (answered now kept).said))
                (feed-next c.args.piece.now c.lines.at c.next_line.new.at given.0 place) c.either-refused.ensures,
          );
    }

pub returns-in-Err-clause-fed : goal.returns-in-Err-clause-fed
returns-in-Err-clause-fed g c known fits =
    let given = c.in-Some.ensures.given in
    let place = c.in-Some.ensures.place in
    let middle = g.F.Files.files c.lines.desk.files.now in
    let fed = c.lines.invariant.fed known fits in
    let line = known-on (Says c.args.desk.now.limits.now.file_bytes c.in-Some.line (whole c.lines.eng (told_now known middle))
    _ _ (Err c.in-Err.stop)) c.answer.new.eng known middle (g.F.Files.files c.answer.new.desk.files.now) fed.0
    ((rw c.lines.invariant.same.limits at c.in-Err.ensures.answered) (told_now known middle) (known-right known middle fed.0)) in (
      line.0,
      λ unended k u.
          let before = fed.1 unended k u in
          let answered = λ (now : List ℕ) (kept : c.lines.lines ≡ take KEPT now). line.1 _ (shown g (goal.at.returns-in-Err-clause-fed g c).In-Some now kept) in
          then-stopped (script_machine c.args.desk.now.limits.now.file_bytes) _ unended (take c.lines.at c.args.piece.now)
          (before_feed (drop c.lines.at c.args.piece.now) ++ LF ∷ []) (drop c.next_line.new.at c.args.piece.now)
          c.args.piece.now
          c.lines.lines c.next_line.follows.lender-at-none _ _ _ _ _ c.lines.refused c.in-Err.stop before
          (λ now kept free. line-stopped (script_machine c.args.desk.now.limits.now.file_bytes) _ now
          (before_feed (drop c.lines.at c.args.piece.now)) (answered now kept).met _ _ free
          (feed-unbroken (drop c.lines.at c.args.piece.now) given.0) c.next_line.follows.lender-at-none _
          c.in-Err.stop (answered now kept).said)
          (ap (λ t. t ++ drop c.next_line.new.at c.args.piece.now)
          (feed-next c.args.piece.now c.lines.at c.next_line.new.at given.0 place) ∙
          whole-piece c.args.piece.now c.next_line.new.at),
    )

pub returns-clause-fed : goal.returns-clause-fed
returns-clause-fed g c known fits =
    let fed = c.lines.invariant.fed known fits in (
      fed.0,
      λ unended k u.
          let given = c.in_default.ensures.given in
          let rests = c.next_line.follows.holds-at-none ∙ unended-none c.lines.lines (drop c.lines.at c.args.piece.now) given in
          then-part (script_machine c.args.desk.now.limits.now.file_bytes) _ unended (take c.lines.at c.args.piece.now) (drop c.lines.at c.args.piece.now) c.args.piece.now
          c.lines.lines c.next_line.follows.lender-at-none _ _ _ c.lines.refused (fed.1 unended k u)
          (none-unbroken (drop c.lines.at c.args.piece.now) given) rests (whole-piece c.args.piece.now c.lines.at),
    )

pub lines-init : goal.lines-init
lines-init g c = record {
  within = omega arith;
  later = omega arith;
  filings = omega arith;
  begun = λ none. none;
  same = search rules;
  file = c.requires;
  fed = λ known fits. (
    known-left known _ _ fits refl,
    λ unended k u.
        let s = whole c.args.eng.now known in
        let b = beside_at g.O.Sink g.F.Files c.args.desk.now in
        let same : told_now known (g.F.Files.files c.args.desk.now.files.now) ≡ known = known-still known _ _ fits refl in
        subst (λ x. Fed (script_machine c.args.desk.now.limits.now.file_bytes) s unended [] b b (whole c.args.eng.now x)
        c.args.lines.now false) (sym same)
        (fed-none (script_machine c.args.desk.now.limits.now.file_bytes) s unended c.args.lines.now _ k u),
  );
}
