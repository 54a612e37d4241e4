use Rattle.std.proofs.Common.{◌^◌, ◌≤◌, length, take, rules, arith, ap, ◌∙◌, length-append}
use Rattle.std.specs.Prelude.{Some}
use Rattle.std.proofs.lemmas.Result.{err_from_is_err_and}
use Rattle.ph_specs.specs.Node.{nodes}
use Rattle.ph_specs.specs.Pack.{pack}
use Rattle.ph_tree.proofs.Sizes.{trees, below-children, trees-more, child-room}
use Rattle.ph_snap.proofs.SavedNodes.{node-size, node-passed, node-front, child-passed, child-size, child-front, all-trees, all-passed, all-size, stopped, visited}
use Rattle.ph_snap.proofs.saves.+save_node.Goals as goal

pub returns-in_err-put-clause-records : goal.returns-in_err-put-clause-records
returns-in_err-put-clause-records g t c =
    let is = err_from_is_err_and c.from_residual.result c.from_residual.ensures.1 in
    let words = c.words-words.ensures ∙ ap (λ n. pack g.P.Dims.D n) c.visit-visited.ensures.shows in
    rw is.1 (record {
      passed = tt;
      front = node-front g.P.Dims.D c.args.node.now c.words-words.result.now words _ _ _ c.in_err-put.ensures.front;
      size = tt;
    })

pub returns-in_err-put-clause-visits : goal.returns-in_err-put-clause-visits
returns-in_err-put-clause-visits g t c =
    let is = err_from_is_err_and c.from_residual.result c.from_residual.ensures.1 in
    stopped is.1 (omega (arith, c.visit-visited.ensures.cost)) (omega (arith, c.visit-visited.ensures.cost))

pub loop-held-init : goal.loop-held-init
loop-held-init g t c =
    let words = c.words-words.ensures ∙ ap (λ n. pack g.P.Dims.D n) c.visit-visited.ensures.shows in
    record {
      passed = node-passed g.P.Dims.D c.args.node.now c.words-words.result.now words _ _ _ _ c.in_ok-put.ensures.passed;
      size = node-size g.P.Dims.D c.args.node.now c.words-words.result.now words;
      few = omega (arith, c.words-words.type_inv);
      later = c.in_ok-put.ensures.cause.later;
      follows = c.in_ok-put.ensures.follows;
      visits = omega (arith, c.visit-visited.ensures.cost);
    }

pub save_node-requires : goal.save_node-requires
save_node-requires g t c κs within =
    let below = ap length (below-children c.children-held-items.result.now _ _ c.children-held-items.ensures c.visit-visited.ensures.shows) in
    let few = child-room c.children-held-items.result.now c.loop-held.held-index c.held-item.result (omega arith) c.held-item.is in
    let room : length (nodes (Some c.held-item.result.node)) ≤ 2 ^ 64 = omega (arith, few, below, c.requires) in
    (omega (arith, c.decreases, few, below), search (rules, within, room))

pub returns-in_err-size-clause-records : goal.returns-in_err-size-clause-records
returns-in_err-size-clause-records g t c =
    let is = err_from_is_err_and c.from_residual-in_err-size.result c.from_residual-in_err-size.ensures.1 in
    let below = below-children c.children-held-items.result.now _ _ c.children-held-items.ensures c.visit-visited.ensures.shows in
    rw is.1 (record {
      passed = tt;
      front = child-front g.P.Dims.D c.args.node.now c.children-held-items.result.now c.loop-held.held-index c.held-item.result
          (omega arith) c.held-item.is _ _ _ _ _ below c.loop-held.invariant.passed c.in_err-size.ensures.records.front;
      size = tt;
    })

pub returns-in_err-size-clause-visits : goal.returns-in_err-size-clause-visits
returns-in_err-size-clause-visits g t c =
    let is = err_from_is_err_and c.from_residual-in_err-size.result c.from_residual-in_err-size.ensures.1 in
    let below = ap length (below-children c.children-held-items.result.now _ _ c.children-held-items.ensures c.visit-visited.ensures.shows) in
    let few = child-room c.children-held-items.result.now c.loop-held.held-index c.held-item.result (omega arith) c.held-item.is in
    stopped is.1 (omega (arith, c.in_err-size.ensures.visits.kept, c.loop-held.invariant.visits))
    (omega (arith, c.in_err-size.ensures.visits.most, c.loop-held.invariant.visits, few, below))

pub overflow_add-size : goal.overflow_add-size
overflow_add-size g t c =
    let below = ap length (below-children c.children-held-items.result.now _ _ c.children-held-items.ensures c.visit-visited.ensures.shows) in
    let few = child-room c.children-held-items.result.now c.loop-held.held-index c.held-item.result (omega arith) c.held-item.is in
    omega (arith, c.in_ok-size.ensures.few, c.loop-held.invariant.few, few, below, c.requires)

pub loop-held-preserved : goal.loop-held-preserved
loop-held-preserved g t c =
    let ss = c.children-held-items.result.now in
    let before = trees (take c.loop-held.held-index ss) in
    let child = nodes (Some c.held-item.result.node) in
    let more = ap length (trees-more ss c.loop-held.held-index c.held-item.result (omega arith) c.held-item.is) in
    record {
      passed = child-passed g.P.Dims.D c.args.node.now ss c.loop-held.held-index c.held-item.result (omega arith)
          c.held-item.is _ _ _ _ _ _ c.loop-held.invariant.passed c.in_ok-size.ensures.records.passed;
      size = child-size g.P.Dims.D c.args.node.now ss c.loop-held.held-index c.held-item.result (omega arith)
          c.held-item.is _ _ c.loop-held.invariant.size c.in_ok-size.ensures.records.size;
      few = omega (arith, c.in_ok-size.ensures.few, c.loop-held.invariant.few, more, length-append before child);
      later = omega (arith, c.loop-held.invariant.later, c.in_ok-size.ensures.cause.later);
      follows = g.met.S.Sink.follows_on _ _ _ c.loop-held.invariant.follows c.in_ok-size.ensures.follows;
      visits = omega (arith, c.in_ok-size.ensures.visits.all, c.loop-held.invariant.visits, more, length-append before child);
    }

pub returns-clause-records : goal.returns-clause-records
returns-clause-records g t c =
    let below = below-children c.children-held-items.result.now _ _ c.children-held-items.ensures c.visit-visited.ensures.shows in
    record {
      passed = all-passed g.P.Dims.D c.args.node.now c.children-held-items.result.now c.loop-held.held-index (omega arith) below
          _ _ _ _ c.loop-held.invariant.passed;
      front = tt;
      size = all-size g.P.Dims.D c.args.node.now c.children-held-items.result.now c.loop-held.held-index (omega arith) below
          _ c.loop-held.invariant.size;
    }

pub returns-clause-few : goal.returns-clause-few
returns-clause-few g t c =
    let below = below-children c.children-held-items.result.now _ _ c.children-held-items.ensures c.visit-visited.ensures.shows in
    let all = all-trees g.P.Dims.D c.args.node.now c.children-held-items.result.now c.loop-held.held-index (omega arith) below in
    omega (arith, c.loop-held.invariant.few, ap length all)

pub returns-clause-visits : goal.returns-clause-visits
returns-clause-visits g t c =
    let below = below-children c.children-held-items.result.now _ _ c.children-held-items.ensures c.visit-visited.ensures.shows in
    let all = all-trees g.P.Dims.D c.args.node.now c.children-held-items.result.now c.loop-held.held-index (omega arith) below in
    visited (omega (arith, c.loop-held.invariant.visits, ap length all))
