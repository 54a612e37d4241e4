use Rattle.std.proofs.Common.{◌≡◌, arith}
use Rattle.ph_commands.proofs.SlotComparisons.{kept-compared}
use Rattle.ph_commands.proofs.commands.are_same.Goals as goal

pub returns : goal.returns
returns g c =
    let h = c.same.ensures in
    let x = c.tree-first.result.now in
    let y = c.tree-second.result.now in
    let one : x.width ≡ y.width = omega (arith, c.bits-bits.ensures.value, c.bits-others.ensures.value, c.width.ensures, c.width-2.ensures, c.if-bits-others.false) in
    kept-compared g.row.D c.args.a.now c.args.b.now x y c.tree-first.ensures c.tree-second.ensures c.args.visits.now
    c.same.new.visits c.same.result one h.same h.later h.visits h.all
