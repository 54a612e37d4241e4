use Rattle.std.proofs.Common.{arith}
use Rattle.ph_snap.proofs.SavedNodes.{none-passed, none-size, visited}
use Rattle.ph_snap.proofs.saves.save_tree.Goals as goal

pub returns-in-Some-clause-records : goal.returns-in-Some-clause-records
returns-in-Some-clause-records g c = rw c.in-Some.is c.save_node.ensures.records

pub returns-in-Some-clause-visits : goal.returns-in-Some-clause-visits
returns-in-Some-clause-visits g c = rw c.in-Some.is c.save_node.ensures.visits

pub returns-in-None-clause-records : goal.returns-in-None-clause-records
returns-in-None-clause-records g c =
    rw c.in-None.is (record { passed = none-passed g.P.Dims.D _ c.args.block.now; front = tt; size = none-size g.P.Dims.D })

pub returns-in-None-clause-visits : goal.returns-in-None-clause-visits
returns-in-None-clause-visits g c = rw c.in-None.is (visited (omega arith))
