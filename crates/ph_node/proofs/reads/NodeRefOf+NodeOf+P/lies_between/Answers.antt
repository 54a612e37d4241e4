use Rattle.std.proofs.Common.{ℕ, refl, arith, ap, sym, ◌∙◌}
use Rattle.ph_specs.specs.TreeRows.{put_together}
use Rattle.ph_model.specs.EntryList.{entries}
use Rattle.ph_model.specs.PutTree.{body_above}
use Rattle.ph_bits.specs.Between.{each_between}
use Rattle.ph_node.specs.Shown.{shown}
use Rattle.ph_node.specs.Split.{body_at}
use Rattle.ph_node.proofs.Reading.{same-row}
use Rattle.ph_node.proofs.reads.NodeRefOf+NodeOf+P.lies_between.Goals as goal

pub is_row_between-requires-clause-few : goal.is_row_between-requires-clause-few
is_row_between-requires-clause-few g c = omega (arith, c.requires.known.0, c.body_place-at.ensures.few)

pub is_row_between-requires-clause-known : goal.is_row_between-requires-clause-known
is_row_between-requires-clause-known g c = (refl, c.requires.known.1)

pub is_row_between-requires-clause-low : goal.is_row_between-requires-clause-low
is_row_between-requires-clause-low g c = c.requires.low ∙ sym c.requires.known.0

pub is_row_between-requires-clause-high : goal.is_row_between-requires-clause-high
is_row_between-requires-clause-high g c = c.requires.high ∙ sym c.requires.known.0

pub returns-clause-between : goal.returns-clause-between
returns-clause-between g c =
    let known = c.args.known.now in
    let low = c.args.low.now in
    let high = c.args.high.now in
    c.is_row_between.ensures
    ∙ ap (λ xs. each_between low high
    (put_together c.level.result c.args.spot.addr (body_above c.level.result known) xs))
    (same-row _ _ _ _ _ _ _ _ c.words-words.ensures c.level.ensures.value c.requires.known.0 c.body_place-at.ensures.body)
    ∙ ap (λ (b : ℕ). each_between low high
    (put_together b c.args.spot.addr (body_above b known)
    (body_at (entries (shown c.args.self.now)) c.args.spot.place))) c.level.ensures.value
