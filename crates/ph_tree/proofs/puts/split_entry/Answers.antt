use Rattle.std.proofs.Common.{◌∙◌, take, arith}
use Rattle.ph_tree.proofs.PutCases.{added}
use Rattle.ph_tree.proofs.Steps.{Splits, splits}
use Rattle.ph_tree.proofs.puts.split_entry.Given.{Over}
use Rattle.ph_tree.proofs.puts.split_entry.Goals.{After-below}
use Rattle.ph_tree.proofs.puts.split_entry.Goals as goal

-- the split where the body and the point's digits differ
split_there : (g : Over) (c : After-below g) →
    Splits c.args.put.now.key.now.width g.P.Dims.D c.args.put.now.key.now.point c.args.cur.now c.args.spot
    (take g.P.Dims.D c.below.result)
split_there g c =
    splits c.requires.lawful c.requires.apart c.requires.level c.below.ensures.body.fields c.below.ensures.value

pub split-requires : goal.split-requires
split-requires g c =
    let at = split_there g (goal.at.split-requires g c).After-below in
    record {
      spot = at.there;
      body = record { fields = at.digits; filled = c.below.ensures.body.filled };
      differ = at.apart;
      above = at.over;
    }

pub returns-in-Ok-clause-put : goal.returns-in-Ok-clause-put
returns-in-Ok-clause-put g c =
    added _ _ c.if-not-put.false (c.in-Ok.ensures.ok ∙
    (split_there g (goal.at.returns-in-Ok-clause-put g c).After-below).put c.args.put.now.value)
    (omega (arith, c.in-Ok.ensures.cost)) (omega (arith, c.in-Ok.ensures.cost))
