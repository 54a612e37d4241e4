use Rattle.std.proofs.Common.{◌+◌, ◌^◌, ◌≤◌, ◌∷◌, length, take, rules, arith, sym, ap, ◌∙◌, length-append}
use Rattle.std.specs.Prelude.{Some}
use Rattle.ph_specs.specs.Node.{nodes}
use Rattle.ph_specs.proofs.laws.Ranked.{take-all}
use Rattle.ph_tree.specs.Stats.{counted}
use Rattle.ph_tree.proofs.Sizes.{trees, below-children, trees-more, child-room, counted-append}
use Rattle.ph_tree.proofs.stats.+count_node.Goals as goal

pub count_node-requires : goal.count_node-requires
count_node-requires g t c κs within =
    let below = ap length (below-children c.children-held-items.result.now _ _ c.children-held-items.ensures c.visit-visited.ensures.shows) in
    let few = child-room c.children-held-items.result.now c.loop-held.held-index c.held-item.result (omega arith) c.held-item.is in
    let so_far = ap (λ k. k.nodes) c.loop-held.invariant.counts in
    let room : c.loop-held.counts.nodes + length (nodes (Some c.held-item.result.node)) ≤ 2 ^ 64 = omega (arith, few, below, so_far) in
    (omega (arith, c.decreases, few, below), search (rules, within, room, c.loop-held.invariant.few))

pub loop-held-preserved : goal.loop-held-preserved
loop-held-preserved g t c =
    let before = trees (take c.loop-held.held-index c.children-held-items.result.now) in
    let child = nodes (Some c.held-item.result.node) in
    let more = trees-more c.children-held-items.result.now c.loop-held.held-index c.held-item.result (omega arith) c.held-item.is in
    record {
      counts = c.count_node.ensures.counts
          ∙ ap (λ k. counted g.P.Dims.D k child) c.loop-held.invariant.counts
          ∙ counted-append g.P.Dims.D c.args.counts.now (c.args.node.now ∷ before) child
          ∙ ap (λ ns. counted g.P.Dims.D c.args.counts.now (c.args.node.now ∷ ns)) (sym more);
      few = c.count_node.ensures.few;
      visits = omega (arith, c.count_node.ensures.visits, c.loop-held.invariant.visits, ap length more, length-append before child);
    }

pub returns-clause-counts : goal.returns-clause-counts
returns-clause-counts g t c =
    let below = below-children c.children-held-items.result.now _ _ c.children-held-items.ensures c.visit-visited.ensures.shows in
    let all = take-all c.loop-held.held-index c.children-held-items.result.now (omega arith) in
    c.loop-held.invariant.counts ∙ ap (λ ns. counted g.P.Dims.D c.args.counts.now (c.args.node.now ∷ ns)) (ap trees all ∙ below)

pub returns-clause-visits : goal.returns-clause-visits
returns-clause-visits g t c =
    let below = below-children c.children-held-items.result.now _ _ c.children-held-items.ensures c.visit-visited.ensures.shows in
    let all = take-all c.loop-held.held-index c.children-held-items.result.now (omega arith) in
    omega (arith, c.loop-held.invariant.visits, ap length (ap trees all ∙ below))
