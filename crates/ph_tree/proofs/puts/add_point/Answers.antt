use Rattle.std.proofs.Common.{◌∙◌, arith}
use Rattle.ph_tree.proofs.PutCases.{added}
use Rattle.ph_tree.proofs.Steps.{put_absent}
use Rattle.ph_tree.proofs.puts.add_point.Goals as goal

pub returns-in-Ok-clause-put : goal.returns-in-Ok-clause-put
returns-in-Ok-clause-put g c =
    let put = put_absent c.args.put.now.key.now.width c.args.put.now.key.now.point c.args.cur.now c.args.level _ _
    c.args.put.now.value c.requires.level c.address.ensures.value c.below.ensures.value c.requires.absent in
    added _ _ c.if-not-put.false (c.in-Ok.ensures.ok ∙ put) (omega (arith, c.in-Ok.ensures.cost)) (omega (arith, c.in-Ok.ensures.cost))
