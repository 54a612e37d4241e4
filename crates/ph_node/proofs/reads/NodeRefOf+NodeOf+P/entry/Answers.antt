use Rattle.std.proofs.Common.{◌≡◌, ℕ, List, take, ap, sym, ◌∙◌}
use Rattle.std.specs.Prelude.{Option, Some}
use Rattle.ph_model.specs.EntryEdits.{what_at}
use Rattle.ph_model.specs.EntryList.{Entry, What, entries}
use Rattle.ph_node.specs.Merge.{addr_at}
use Rattle.ph_node.specs.Shown.{shown}
use Rattle.ph_node.specs.Split.{body_at}
use Rattle.ph_node.proofs.FoundSpots.{parts_there}
use Rattle.ph_node.proofs.reads.NodeRefOf+NodeOf+P.entry.Goals as goal

pub returns-clause-shows : goal.returns-clause-shows
returns-clause-shows g c =
    let es = entries (shown c.args.self.now) in
    let i : ℕ = c.args.i in
    let p : c.spot-spot.result.place ≡ c.args.i = c.spot-spot.ensures.place in
    parts_there es i c.requires
    ∙ ap {B = Option Entry} (λ (a : ℕ). Some (record { addr = a; body = body_at es i; what = what_at es i }))
    (ap (λ k. addr_at es k) (sym p) ∙ sym c.spot-spot.ensures.spot.address)
    ∙ ap {B = Option Entry} (λ (b : List ℕ). Some
    (record { addr = c.spot-spot.result.addr; body = b; what = what_at es i }))
    (ap (λ k. body_at es k) (sym p) ∙ sym c.body-body.ensures.fields)
    ∙ ap {B = Option Entry} (λ (w : What). Some
    (record { addr = c.spot-spot.result.addr; body = take g.P.Dims.D c.body-body.result; what = w }))
    (ap (λ k. what_at es k) (sym p) ∙ sym c.what.ensures)
