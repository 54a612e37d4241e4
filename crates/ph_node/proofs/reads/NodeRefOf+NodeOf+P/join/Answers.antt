use Rattle.std.proofs.Common.{ℕ, refl, arith, ap, ◌∙◌}
use Rattle.ph_specs.specs.TreeRows.{put_together}
use Rattle.ph_model.specs.EntryList.{entries}
use Rattle.ph_model.specs.PutTree.{body_above}
use Rattle.ph_node.specs.Shown.{shown}
use Rattle.ph_node.specs.Split.{body_at}
use Rattle.ph_node.proofs.Reading.{same-row}
use Rattle.ph_node.proofs.reads.NodeRefOf+NodeOf+P.join.Goals as goal

pub join_row-requires-clause-few : goal.join_row-requires-clause-few
join_row-requires-clause-few g c = omega (arith, c.requires.known.0, c.body_place-at.ensures.few)

pub join_row-requires-clause-known : goal.join_row-requires-clause-known
join_row-requires-clause-known g c = (refl, c.requires.known.1)

pub returns-clause-known : goal.returns-clause-known
returns-clause-known g c =
    let known = c.args.known.now in
    c.join_row.ensures
    ∙ ap (λ xs. put_together c.level.result c.args.spot.addr (body_above c.level.result known) xs)
    (same-row _ _ _ _ _ _ _ _ c.words.ensures c.level.ensures.value c.requires.known.0 c.body_place-at.ensures.body)
    ∙ ap (λ (b : ℕ). put_together b c.args.spot.addr (body_above b known) (body_at (entries (shown c.args.self.now)) c.args.spot.place)) c.level.ensures.value
