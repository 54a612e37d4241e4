use Rattle.std.proofs.Common.{ℕ, map, ap, ◌∙◌}
use Rattle.ph_model.specs.EntryList.{entries}
use Rattle.ph_specs.specs.DelTree.{same_digits}
use Rattle.ph_bits.specs.Fields.{cut}
use Rattle.ph_node.specs.Shown.{shown}
use Rattle.ph_node.specs.Split.{body_at}
use Rattle.ph_node.proofs.Reading.{same-row}
use Rattle.ph_node.proofs.reads.NodeRefOf+NodeOf+P.is_body.Goals as goal

pub returns : goal.returns
returns g c =
    let numbers = c.args.numbers.now in
    c.is_row.ensures
    ∙ ap (λ xs. same_digits xs (map (cut c.level.result c.args.low) numbers))
    (same-row _ _ _ _ _ _ _ _ c.words.ensures c.level.ensures.value c.requires.dims c.body_place-at.ensures.body)
    ∙ ap (λ (b : ℕ). same_digits (body_at (entries (shown c.args.self.now)) c.args.spot.place) (map (cut b c.args.low) numbers)) c.level.ensures.value
