use Rattle.std.proofs.Common.{ap, drop, ◌∙◌, ◌++◌, ◌∷◌, [], length, length-append, arith}
use Rattle.ph_script.proofs.PlainLines.{spelled-more}
use Rattle.ph_script.proofs.plain.read_coords.Goals as goal

pub loop-preserved : goal.loop-preserved
loop-preserved c =
    let line = c.args.line.now in
    let pushed = c.push.ensures ∙ ap (λ k. c.loop.coords ++ k ∷ []) c.coord.ensures in
    record {
      spelled = spelled-more (drop c.args.from line) (drop c.loop.at line) (drop c.in-Some.end line) c.loop.coords
          c.push.new.self c.in-Some.short c.loop.invariant.spelled c.in-Some.ensures pushed;
      count = ap length c.push.ensures ∙ length-append c.loop.coords (c.coord.result ∷ []) ∙ omega (arith, c.loop.invariant.count);
    }
