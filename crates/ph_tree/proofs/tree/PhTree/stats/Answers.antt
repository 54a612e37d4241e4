use Rattle.std.proofs.Common.{◌≤◌, arith, ap, ◌∙◌, length}
use Rattle.ph_specs.specs.Node.{nodes}
use Rattle.ph_specs.specs.Shape.{shape}
use Rattle.ph_tree.proofs.NodeComparisons.{length-nodes}
use Rattle.ph_tree.proofs.Sizes.{nodes-few, sizes-counted}
use Rattle.ph_tree.proofs.tree.PhTree.stats.Goals as goal

pub count_tree-counts-requires : goal.count_tree-counts-requires
count_tree-counts-requires g c =
    let w : 1 ≤ c.args.self.now.width = omega (arith, c.width.ensures, c.bits-bits.ensures.value, c.bits-bits.ensures.some) in
    omega (
      arith,
      nodes-few c.args.self.now.width g.row.D c.args.self.now.table _ w c.root.ensures.table
          c.root.ensures.shape,
      c.len-rows.ensures.value,
      c.len-rows.type_inv,
    )

pub returns-clause-stats : goal.returns-clause-stats
returns-clause-stats g c =
    sizes-counted c.args.self.now.width g.row.D c.from.result c.args.self.now.table _ c.count_tree-counts.result
    (c.from.ensures ∙ c.len-rows.ensures.value) c.root.ensures.shape c.count_tree-counts.ensures.counts

pub returns-clause-visits : goal.returns-clause-visits
returns-clause-visits g c =
    let t = shape c.args.self.now.width c.args.self.now.table in
    omega (arith, c.count_tree-counts.ensures.visits, ap (λ u. length (nodes u)) c.root.ensures.shape, length-nodes c.args.self.now.width g.row.D t)
