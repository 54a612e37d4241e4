use Rattle.std.proofs.Common.{◌≡◌, ℕ, List, length, refl, arith, ap, sym, subst, ◌∙◌}
use Rattle.ph_specs.specs.TreeRows.{put_together}
use Rattle.ph_model.specs.Lawful.{IsBody}
use Rattle.ph_model.specs.EntryList.{entries}
use Rattle.ph_model.specs.PutTree.{body_above}
use Rattle.ph_bits.specs.Apart.{IsDistanceWithin}
use Rattle.ph_bits.specs.Fields.{digits_row}
use Rattle.ph_node.specs.Shown.{shown}
use Rattle.ph_node.specs.Split.{body_at}
use Rattle.ph_node.proofs.Reading.{same-row}
use Rattle.ph_node.proofs.reads.NodeRefOf+NodeOf+P.distance_within.Goals as goal

pub row_distance-requires-clause-few : goal.row_distance-requires-clause-few
row_distance-requires-clause-few g c = omega (arith, c.requires.known.0, c.body_place-at.ensures.few)

pub row_distance-requires-clause-known : goal.row_distance-requires-clause-known
row_distance-requires-clause-known g c = (refl, c.requires.known.1)

pub row_distance-requires-clause-others : goal.row_distance-requires-clause-others
row_distance-requires-clause-others g c = subst (λ n. IsBody n 62 c.args.others.now) (sym c.requires.known.0) c.requires.others

pub returns : goal.returns
returns g c =
    let known = c.args.known.now in
    let t = shown c.args.self.now in
    let joined = put_together t.level c.args.spot.addr (body_above t.level known) (body_at (entries t) c.args.spot.place) in
    let here : put_together c.level.result c.args.spot.addr (body_above c.level.result known)
    (digits_row c.words-words.result.now c.body_place-at.result c.level.result (length known)) ≡ joined =
    ap (λ xs. put_together c.level.result c.args.spot.addr (body_above c.level.result known) xs)
    (same-row _ _ _ _ _ _ _ _ c.words-words.ensures c.level.ensures.value c.requires.known.0 c.body_place-at.ensures.body)
    ∙ ap (λ (b : ℕ). put_together b c.args.spot.addr (body_above b known) (body_at (entries t) c.args.spot.place)) c.level.ensures.value in
    subst (λ (xs : List ℕ). IsDistanceWithin c.args.limit xs c.args.others.now c.row_distance.result) here c.row_distance.ensures
