-- A table has at most 2^64 - 1 rows, so its tree has no more nodes.
use Rattle.std.proofs.Common.{◌≤◌, arith}
use Rattle.ph_c.proofs.Counted.{sizes-few}
use Rattle.ph_c.proofs.sizes.sizes_of.Goals as goal

pub overflow_cast-result : goal.overflow_cast-result
overflow_cast-result g c =
    let w : 1 ≤ c.args.tree.now.width = omega (arith, c.width.ensures, c.bits-bits.ensures.value, c.bits-bits.ensures.some) in
    let few = sizes-few c.args.tree.now.width g.row.D c.args.tree.now.table c.stats-sizes.result w c.root-root.ensures.table
    (omega (arith, c.len-rows.ensures.value, c.len-rows.type_inv)) c.stats-sizes.ensures.stats in
    omega (arith, few.nodes)

pub overflow_cast-result-2 : goal.overflow_cast-result-2
overflow_cast-result-2 g c =
    let w : 1 ≤ c.args.tree.now.width = omega (arith, c.width.ensures, c.bits-bits.ensures.value, c.bits-bits.ensures.some) in
    let few = sizes-few c.args.tree.now.width g.row.D c.args.tree.now.table c.stats-sizes.result w c.root-root.ensures.table
    (omega (arith, c.len-rows.ensures.value, c.len-rows.type_inv)) c.stats-sizes.ensures.stats in
    omega (arith, few.linear)

pub overflow_cast-result-3 : goal.overflow_cast-result-3
overflow_cast-result-3 g c =
    let w : 1 ≤ c.args.tree.now.width = omega (arith, c.width.ensures, c.bits-bits.ensures.value, c.bits-bits.ensures.some) in
    let few = sizes-few c.args.tree.now.width g.row.D c.args.tree.now.table c.stats-sizes.result w c.root-root.ensures.table
    (omega (arith, c.len-rows.ensures.value, c.len-rows.type_inv)) c.stats-sizes.ensures.stats in
    omega (arith, few.cube)
