use Rattle.std.proofs.Common.{◌+◌, ◌*◌, ◌/◌, ◌%◌, ◌^◌, ◌<◌, ◌∙◌, ap, arith, get_or, min}
use Rattle.ph_near.proofs.AddressSums.{digits-all, digits-small}
use Rattle.ph_near.proofs.TableSums.{read-small, read-more}
use Rattle.ph_near.proofs.tables.TablesDistances.least.Goals as goal

pub overflow_add-sum-in-loop-table : goal.overflow_add-sum-in-loop-table
overflow_add-sum-in-loop-table g c =
    let table = c.loop-table.table in
    let low = c.args.self.now.halves.low in
    let high = c.args.self.now.halves.high in
    let small = c.requires.sound.small in
    let there : 4 * c.loop-table.table < g.row.D = omega (arith, c.loop-table-test.true, c.div_ceil-table-end.ensures) in
    let read = read-small g.row.D low high small.low small.high c.args.self.now.sums c.requires.sound.sums small.few
    c.args.addr table c.requires.address there in
    let sum = digits-small g.row.D low high 0 c.args.addr (min (4 * table) g.row.D) small.low small.high (omega arith) in
    omega (arith, c.loop-table.invariant, read, sum, there, small.few)

pub loop-table-preserved : goal.loop-table-preserved
loop-table-preserved g c =
    let table = c.loop-table.table in
    let small = c.requires.sound.small in
    let there : 4 * c.loop-table.table < g.row.D = omega (arith, c.loop-table-test.true, c.div_ceil-table-end.ensures) in
    ap (λ t. t + get_or c.args.self.now.sums (16 * c.loop-table.table + c.args.addr / 2 ^ (4 * c.loop-table.table) % 16) 0) c.loop-table.invariant
    ∙ read-more g.row.D c.args.self.now.halves.low c.args.self.now.halves.high small.low small.high c.args.self.now.sums
    c.requires.sound.sums small.few c.args.addr table c.requires.address there

pub returns : goal.returns
returns g c =
    let small = c.requires.sound.small in
    c.loop-table.invariant
    ∙ digits-all g.row.D c.args.self.now.halves.low c.args.self.now.halves.high c.args.addr (min (4 * c.loop-table.table) g.row.D)
    small.lows small.highs (omega (arith, c.loop-table-test.false, c.div_ceil-table-end.ensures))
