use Rattle.std.proofs.Common.{◌^◌, ap, sym, ◌∙◌, arith}
use Rattle.ph_specs.specs.Record.{first_in}
use Rattle.ph_node.specs.Relaid.{is_relaid}
use Rattle.ph_node.specs.Shown.{shown}
use Rattle.ph_node.proofs.Listings.{count_is}
use Rattle.ph_node.proofs.OldNodes.{level_is}
use Rattle.ph_node.proofs.Resized.{relaid}
use Rattle.ph_node.proofs.reads.NodeRefOf+NodeOf+P.is_relaid.Goals as goal

pub overflow_sub-left : goal.overflow_sub-left
overflow_sub-left g c =
    omega (arith, c.count-left.ensures, ap (λ u. (first_in u).entries) c.words-words.ensures, c.node.invariant.laid.tables.least)

pub changes_layout-requires-clause-entries : goal.changes_layout-requires-clause-entries
changes_layout-requires-clause-entries g c =
    omega (arith, c.count-left.ensures, ap (λ u. (first_in u).entries) c.words-words.ensures, c.node.invariant.laid.tables.most, ap (λ d. 2 ^ d) c.D-dims.ensures)

pub returns : goal.returns
returns g c =
    let t = shown c.args.self.now in
    let ws = c.node.inside.block.words in
    relaid g.P.Dims.D c.D-dims.result c.count-left.result ws c.words-words.result.now c.changes_layout.result
    c.D-dims.ensures c.words-words.ensures c.count-left.ensures c.changes_layout.ensures
    ∙ ap (λ l. is_relaid g.P.Dims.D l (first_in ws).entries) (sym (level_is _ _ _ _ c.node.view_is c.node.invariant))
    ∙ ap (λ n. is_relaid g.P.Dims.D t.level n) (sym (count_is _ _ _ _ c.node.view_is c.node.invariant))
