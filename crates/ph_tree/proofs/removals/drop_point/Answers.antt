use Rattle.std.proofs.Common.{◌≡◌, ◌+◌, ◌≤◌, ℕ, length, Bool, ap, sym, ◌∙◌, arith, true}
use Rattle.std.specs.Prelude.{Option, Some, None, MatchOption, if◌then◌else◌}
use Rattle.ph_specs.specs.TreeRows.{count}
use Rattle.ph_specs.specs.Pack.{pack}
use Rattle.ph_model.proofs.laws.Unpacked.{child_nodes}
use Rattle.ph_bits.specs.Block.{Block, room_of}
use Rattle.ph_node.specs.Relaid.{is_relaid}
use Rattle.ph_tree.specs.Rooms.{room_of_entries}
use Rattle.ph_tree.proofs.NodeComparisons.{length-children}
use Rattle.ph_tree.proofs.Gone.{length-count}
use Rattle.ph_tree.proofs.removals.drop_point.Goals as goal

-- a block is there where there is something to hold
held : (b : Option Block) (n m : ℕ) → m ≡ n → 1 ≤ n → MatchOption b (m ≡ 0) (λ w. m ≤ room_of w) → MatchOption b ⊥ (λ w. n ≤ room_of w)
held None n m e some h = absurd (omega (arith, e, some, h))
held (Some w) n m e some h = omega (arith, e, h)

pub drop_entry-requires-clause-room : goal.drop_entry-requires-clause-room
drop_entry-requires-clause-room g c relaid =
    let n = c.args.cur.now in
    let taken : length (pack g.P.Dims.D n) + length (child_nodes n.chain) ≡ room_of_entries g.P.Dims.D n.level
    n.chain = ap (λ k. length (pack g.P.Dims.D n) + k) (length-children n.chain) in
    let yes : is_relaid g.P.Dims.D n.level (count n.chain) ≡ true = ap (is_relaid g.P.Dims.D n.level) (sym (length-count n.chain)) ∙ relaid in
    let room : c.args.room ≡ length (pack g.P.Dims.D n) + length (child_nodes n.chain) = c.requires.room ∙
    ap (λ (b : Bool). if b then room_of_entries g.P.Dims.D n.level n.chain else 0) yes ∙ sym taken in
    held c.in-Ok.block _ c.args.room room (omega arith) c.in-Ok.ensures.room
