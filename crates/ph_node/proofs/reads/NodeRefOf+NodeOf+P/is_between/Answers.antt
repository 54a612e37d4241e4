use Rattle.std.proofs.Common.{ap, ◌∙◌}
use Rattle.ph_model.specs.EntryList.{entries}
use Rattle.ph_specs.specs.DelTree.{same_digits}
use Rattle.ph_node.specs.Shown.{shown}
use Rattle.ph_node.specs.Split.{body_at}
use Rattle.ph_node.proofs.Reading.{cut-above}
use Rattle.ph_node.proofs.reads.NodeRefOf+NodeOf+P.is_between.Goals as goal

pub returns : goal.returns
returns g c =
    let t = shown c.args.self.now in
    c.is_body.ensures ∙ ap (λ xs. same_digits (body_at (entries t) c.args.spot.place) xs) (cut-above t.level c.args.low c.args.numbers.now)
