use Rattle.std.proofs.Common.{◌≡◌, take, refl, ap, arith, rules}
use Rattle.std.specs.Prelude.{Bool, Option, Result, Ok, Err}
use Rattle.ph_specs.specs.State.{Files}
use Rattle.ph_slot.specs.Desks.{beside_at}
use Rattle.ph_engine.specs.Feeding.{Feeds, Ends}
use Rattle.ph_engine.specs.ScriptMachine.{whole, told_now, script_machine}
use Rattle.ph_engine.specs.Serving.{StaysKnown, ServesPiece}
use Rattle.ph_commands.specs.declared.answer.Stop.{Stop}
use Rattle.ph_engine.proofs.Answered.{known-on, known-right, known-left}
use Rattle.ph_engine.proofs.Known.{reached-known}
use Rattle.ph_engine.proofs.Runs.{interrupted, at-end, stopped, exceeded, reached-more}
use Rattle.ph_engine.proofs.run.run_pieces.Given.{Over}
use Rattle.ph_engine.proofs.run.run_pieces.Goals.{After-feed}
use Rattle.ph_engine.proofs.run.run_pieces.Goals as goal

-- what a piece leads to, from what is known of the files behind those before it
fed_on : (g : Over) (c : After-feed g) (known : Option Files) → let middle = g.F.Files.files c.pieces.desk.files.now in
    let b = beside_at g.O.Sink g.F.Files c.pieces.desk in
    let now_b = beside_at g.O.Sink g.F.Files c.feed.new.desk in
    StaysKnown known middle → (result : Result Bool Stop) →
    ServesPiece c.pieces.desk.limits.now.file_bytes (record { engine = c.pieces.eng; beside = b }) c.pieces.lines
    (take c.min-fresh.result c.fill.new.piece) (record { engine = c.feed.new.eng; beside = now_b }) c.feed.new.lines result →
    StaysKnown known now_b.files × Feeds (script_machine c.args.desk.now.limits.now.file_bytes) (whole c.pieces.eng (told_now known middle))
    c.pieces.lines (take c.min-fresh.result c.fill.new.piece) b now_b (whole c.feed.new.eng (told_now known now_b.files)) c.feed.new.lines result
fed_on g c known stays result fed =
    let middle = g.F.Files.files c.pieces.desk.files.now in
    known-on (λ s. Feeds (script_machine c.args.desk.now.limits.now.file_bytes) (whole c.pieces.eng (told_now known middle)) c.pieces.lines
    (take c.min-fresh.result c.fill.new.piece)
    (beside_at g.O.Sink g.F.Files c.pieces.desk)
    (beside_at g.O.Sink g.F.Files c.feed.new.desk) s
    c.feed.new.lines result) c.feed.new.eng known middle (g.F.Files.files c.feed.new.desk.files.now) stays
    ((rw c.pieces.invariant.same.limits at fed) (told_now known middle) (known-right known middle stays))

pub returns-in_default-clause-outcome : goal.returns-in_default-clause-outcome
returns-in_default-clause-outcome g c known fits =
    let before = c.pieces.invariant.reached known fits in (
      before.0,
      interrupted (script_machine c.args.desk.now.limits.now.file_bytes) c.args.desk.now.limits.now.script_bytes _ _ _ _ _ _ _
          c.pieces.lines c.pieces.refused c.pieces.taken before.1 c.pieces.invariant.within c.in_default.ensures.bytes,
    )

pub returns-then-count-eq0-clause-outcome : goal.returns-then-count-eq0-clause-outcome
returns-then-count-eq0-clause-outcome g c known fits =
    let m = script_machine c.args.desk.now.limits.now.file_bytes in
    let middle = g.F.Files.files c.pieces.desk.files.now in
    let before = c.pieces.invariant.reached known fits in
    let ends = known-on (λ s. Ends m (whole c.pieces.eng (told_now known middle)) c.pieces.lines c.pieces.refused
    (beside_at g.O.Sink g.F.Files c.pieces.desk)
    (beside_at g.O.Sink g.F.Files c.finish.new.desk) s
    c.finish.result) c.finish.new.eng known middle (g.F.Files.files c.finish.new.desk.files.now) before.0
    ((rw c.pieces.invariant.same.limits at c.finish.ensures.ends) (told_now known middle) (known-right known middle before.0)) in (
      ends.0,
      at-end m c.args.desk.now.limits.now.script_bytes _ _ _ _ _ _ _ _ _ c.pieces.lines (take c.in-Ok.count c.fill.new.piece) c.pieces.refused c.pieces.taken c.finish.result
          before.1 c.pieces.invariant.within c.in-Ok.ensures.bytes.0
          (ap (λ n. take n c.fill.new.piece) c.if-count-eq0.true) (c.in-Ok.ensures.end c.if-count-eq0.true) ends.1,
    )

pub returns-in-Err-clause-outcome : goal.returns-in-Err-clause-outcome
returns-in-Err-clause-outcome g c known fits =
    let m = script_machine c.args.desk.now.limits.now.file_bytes in
    let before = c.pieces.invariant.reached known fits in
    let fed = fed_on g (goal.at.returns-in-Err-clause-outcome g c).After-feed known before.0 (Err c.in-Err.stop) c.in-Err.ensures.fed in (
      fed.0,
      rw c.stopped.ensures
          (stopped m c.args.desk.now.limits.now.script_bytes _ _ _ _ _ _ _ _ _ c.pieces.lines c.feed.new.lines c.fill.new.piece
          _ c.pieces.refused c.pieces.taken c.in-Ok.count c.min-fresh.result c.in-Err.stop
          before.1 c.in-Ok.ensures.bytes.0 (omega (arith, c.in-Ok.ensures.room)) (omega (arith, c.min-fresh.ensures))
          refl (omega (arith, c.in-Ok.ensures.most, c.pieces.invariant.within))
          (λ h. omega (arith, h, c.min-fresh.ensures, c.pieces.invariant.within)) (λ h. omega (arith, h, c.min-fresh.ensures)) fed.1),
    )

pub returns-then-fresh-count-clause-outcome : goal.returns-then-fresh-count-clause-outcome
returns-then-fresh-count-clause-outcome g c known fits =
    let m = script_machine c.args.desk.now.limits.now.file_bytes in
    let before = c.pieces.invariant.reached known fits in
    let fed = fed_on g (goal.at.returns-then-fresh-count-clause-outcome g c).After-feed known before.0 (Ok c.in-Ok-feed.some) c.in-Ok-feed.ensures.fed in (
      fed.0,
      exceeded m c.args.desk.now.limits.now.script_bytes _ _ _ _ _ _ _ _ _ c.pieces.lines c.feed.new.lines c.fill.new.piece _
          c.pieces.refused c.in-Ok-feed.some c.pieces.taken c.in-Ok.count c.min-fresh.result
          before.1 c.in-Ok.ensures.bytes.0 (omega (arith, c.in-Ok.ensures.room)) (omega (arith, c.min-fresh.ensures))
          refl (omega (arith, c.in-Ok.ensures.most, c.min-fresh.ensures))
          (omega (arith, c.in-Ok.ensures.most, c.min-fresh.ensures)) fed.1,
    )

pub pieces-preserved : goal.pieces-preserved
pieces-preserved g c = let all : c.min-fresh.result ≡ c.in-Ok.count = omega (arith, c.min-fresh.ensures) in record {
  within = omega (arith, c.min-fresh.ensures);
  reads = omega (arith, c.pieces.invariant.reads, c.in-Ok.ensures.cause.later);
  writes = omega (arith, c.pieces.invariant.writes, c.in-Ok-feed.ensures.cause.later);
  filings = omega (arith, c.pieces.invariant.filings, c.in-Ok-feed.ensures.filings);
  begun = λ none. c.in-Ok-feed.ensures.begun (c.pieces.invariant.begun none);
  same = search rules;
  file = search rules;
  reached = λ known fits.
      let m = script_machine c.args.desk.now.limits.now.file_bytes in
      let before = c.pieces.invariant.reached known fits in
      let fed = fed_on g (goal.at.pieces-preserved g c).After-feed known before.0 (Ok c.in-Ok-feed.some) c.in-Ok-feed.ensures.fed in (
        fed.0,
        reached-more m _ _ _ _ _ _ _ _ _ c.pieces.lines c.feed.new.lines c.fill.new.piece _ c.pieces.refused
            c.in-Ok-feed.some c.either-refused.result c.pieces.taken c.in-Ok.count
            before.1 c.in-Ok.ensures.bytes.0 (omega (arith, c.in-Ok.ensures.room)) (ap (λ n. take n c.fill.new.piece) all) fed.1 c.either-refused.ensures,
      );
}

pub pieces-init : goal.pieces-init
pieces-init g c = record {
  within = omega arith;
  reads = omega arith;
  writes = omega arith;
  filings = omega arith;
  begun = λ none. none;
  same = search rules;
  file = c.requires.file;
  reached = λ known fits. (
    known-left known _ _ fits refl,
    reached-known (script_machine c.args.desk.now.limits.now.file_bytes)
        _ _ c.args.eng.now known _ c.args.lines.now fits c.requires.lines,
  );
}
