use Rattle.std.proofs.Common.{◌≡◌, Bool, sym, ap, ◌∙◌}
use Rattle.std.specs.Prelude.{if◌then◌else◌}
use Rattle.ph_specs.specs.TreeRows.{count}
use Rattle.ph_node.specs.Relaid.{is_relaid}
use Rattle.ph_node.specs.Shown.{shown}
use Rattle.ph_tree.specs.Rooms.{room_of_entries}
use Rattle.ph_tree.proofs.Gone.{length-count}
use Rattle.ph_tree.proofs.records.relaid_room.Goals as goal

pub returns-then-is_relaid-clause-room : goal.returns-then-is_relaid-clause-room
returns-then-is_relaid-clause-room g c =
    let n = shown c.args.node in
    let yes : is_relaid g.P.Dims.D n.level (count n.chain) ≡ c.is_relaid.result = ap (is_relaid g.P.Dims.D n.level)
    (sym (length-count n.chain)) ∙ sym c.is_relaid.ensures in
    c.record_room.ensures.room ∙ sym (ap (λ (b : Bool). if b then room_of_entries g.P.Dims.D n.level n.chain else 0) (yes ∙ c.if-is_relaid.true))

pub returns-else-is_relaid-clause-room : goal.returns-else-is_relaid-clause-room
returns-else-is_relaid-clause-room g c =
    let n = shown c.args.node in
    let yes : is_relaid g.P.Dims.D n.level (count n.chain) ≡ c.is_relaid.result = ap (is_relaid g.P.Dims.D n.level)
    (sym (length-count n.chain)) ∙ sym c.is_relaid.ensures in
    sym (ap (λ (b : Bool). if b then room_of_entries g.P.Dims.D n.level n.chain else 0) (yes ∙ c.if-is_relaid.false))
