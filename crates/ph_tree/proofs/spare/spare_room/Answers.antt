use Rattle.std.proofs.Common.{Bool, sym, ap, ◌∙◌}
use Rattle.std.specs.Prelude.{◌+◌, if◌then◌else◌}
use Rattle.ph_node.specs.Shown.{shown}
use Rattle.ph_tree.specs.Rooms.{room_of_entries, more_words}
use Rattle.ph_tree.proofs.spare.spare_room.Goals as goal

pub returns-then-is_relaid_near-clause-room : goal.returns-then-is_relaid_near-clause-room
returns-then-is_relaid_near-clause-room g c =
    let n = shown c.args.node in
    let both = ap (λ r. r + c.more_words.result) c.record_room.ensures.room
    ∙ ap (λ r. room_of_entries g.P.Dims.D n.level n.chain + r) (c.more_words.ensures.value ∙ ap (more_words c.args.width) c.D.ensures) in
    both ∙ sym (ap (λ (b : Bool). if b then room_of_entries g.P.Dims.D n.level n.chain + more_words c.args.width g.P.Dims.D else 0)
    (sym c.is_relaid_near.ensures ∙ c.if-is_relaid_near.true))

pub returns-else-is_relaid_near-clause-room : goal.returns-else-is_relaid_near-clause-room
returns-else-is_relaid_near-clause-room g c =
    let n = shown c.args.node in
    sym (ap (λ (b : Bool). if b then room_of_entries g.P.Dims.D n.level n.chain + more_words c.args.width g.P.Dims.D else 0)
    (sym c.is_relaid_near.ensures ∙ c.if-is_relaid_near.false))
