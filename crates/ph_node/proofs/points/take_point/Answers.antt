use Rattle.std.proofs.Common.{◌≡◌, ◌+◌, ◌≤◌, true, length, ap, sym, ◌∙◌, subst, arith}
use Rattle.std.specs.Prelude.{MatchOption}
use Rattle.ph_specs.specs.Pack.{is_cube}
use Rattle.ph_specs.specs.Record.{first_in, has_cube}
use Rattle.ph_bits.specs.Block.{room_of}
use Rattle.ph_node.specs.RecordEdit.{IsRecordEdit, with_edit}
use Rattle.ph_node.specs.Relaid.{is_relaid}
use Rattle.ph_node.proofs.Resized.{stays_less, relaid, shorter_with}
use Rattle.ph_node.proofs.points.take_point.Goals as goal

pub overflow_sub-left : goal.overflow_sub-left
overflow_sub-left g c =
    omega (arith, c.count-left.ensures, ap (λ u. (first_in u).entries) c.words-words.ensures, c.requires.edit.source.laid.tables.least)

pub lay_out-requires-clause-room : goal.lay_out-requires-clause-room
lay_out-requires-clause-room g c =
    let ws = c.args.block.now.words in
    let told = relaid g.P.Dims.D c.D-dims.result c.count-left.result ws c.words-words.result.now
    c.changes_layout.result c.D-dims.ensures c.words-words.ensures c.count-left.ensures c.changes_layout.ensures in
    let yes : is_relaid g.P.Dims.D (first_in ws).level (first_in ws).entries ≡ true = sym told ∙ c.if-changes_layout.true in
    let room : length ws + length c.args.block.now.values ≤ room_of c.in-Some.words =
    subst (λ s. MatchOption s ⊥ (λ w. length ws + length c.args.block.now.values ≤ room_of w)) c.in-Some.is
    (c.requires.room yes) in
    omega (arith, room, shorter_with _ _ _ c.requires.edit c.requires.less c.requires.more)

pub remove_entry-requires-clause-edit : goal.remove_entry-requires-clause-edit
remove_entry-requires-clause-edit g c =
    subst (λ d. IsRecordEdit d c.args.block.now.words c.args.edit.now) (sym c.D-dims.ensures) c.requires.edit

pub remove_entry-requires-clause-layout : goal.remove_entry-requires-clause-layout
remove_entry-requires-clause-layout g c =
    let ws = c.args.block.now.words in
    subst (λ d. is_cube d (first_in ws).level (length (with_edit d ws c.args.edit.now)) ≡ has_cube d (first_in ws)) (sym c.D-dims.ensures)
    (stays_less g.P.Dims.D ws c.args.edit.now c.requires.edit c.requires.less c.requires.more c.D-dims.result
    c.count-left.result c.words-words.result.now c.changes_layout.result c.D-dims.ensures c.words-words.ensures
    c.count-left.ensures c.changes_layout.ensures c.if-changes_layout.false)
