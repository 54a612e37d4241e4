use Rattle.std.proofs.Common.{◌≤◌, refl, arith}
use Rattle.ph_tree.specs.Tree.{TreeTable}
use Rattle.ph_import.proofs.Puts.{risen, length-put_all}
use Rattle.ph_import.proofs.room.has_room.Goals as goal

pub returns-then-rows-free-clause-room : goal.returns-then-rows-free-clause-room
returns-then-rows-free-clause-room g c =
    let t : TreeTable = c.args.tree.now in
    let positive : 1 ≤ t.width = omega (arith, c.width.ensures, c.bits-bits.ensures.value, c.bits-bits.ensures.some) in
    let most = length-put_all t.width g.row.D t.table c.args.rows.now positive c.requires.points (risen t.width g.row.D t.table c.root-root.ensures.table) in
    (λ _. omega (arith, most.1, c.if-rows-free.true, c.max.ensures, c.len.ensures.value, c.len.ensures.limit), λ _. refl)
