use Rattle.std.proofs.Common.{ℕ, ◌≤◌, length, ap, subst, sym, arith}
use Rattle.std.specs.Prelude.{Option, Some, None, SomeIff, IfSome}
use Rattle.ph_specs.specs.Table.{IsTable}
use Rattle.ph_set.specs.Operations.{rows_of, room_of}
use Rattle.ph_set.proofs.KeptRows.{by_operation}
use Rattle.ph_set.proofs.operations.Operation.room.Given.{Over}
use Rattle.ph_set.proofs.operations.Operation.room.Goals.{After-bits-bits}
use Rattle.ph_set.proofs.operations.Operation.room.Goals as goal

-- it is at least the rows that are kept
enough : (g : Over) (c : After-bits-bits g) → let a = c.args.a.now in
    length (rows_of c.args.self a.width a.table c.args.b.now.table) ≤ room_of c.args.self (length a.table) (length c.args.b.now.table)
enough g c =
    let a = c.args.a.now in
    (by_operation c.args.self a.width g.row.D a.table c.args.b.now.table c.root-left.ensures.table
    (subst (λ w. IsTable w g.row.D c.args.b.now.table) (sym c.requires) c.root-right.ensures.table)
    (omega (arith, c.width.ensures, c.bits-bits.ensures.value, c.bits-bits.ensures.some))).room

-- where it is counted
counted : (sum : Option ℕ) (P : Type 0) (n rows : ℕ) → SomeIff sum P n → rows ≤ n → IfSome sum (λ k. rows ≤ k)
counted None P n rows h l = tt
counted (Some k) P n rows h l = omega (arith, h.1, l)

pub returns-in-Union-clause-enough : goal.returns-in-Union-clause-enough
returns-in-Union-clause-enough g c =
    let all = enough g (goal.at.returns-in-Union-clause-enough g c).After-bits-bits in
    let room = ap (λ o. room_of o (length c.args.a.now.table) (length c.args.b.now.table)) c.in-Union.is in
    counted c.checked_add.result _ _ _ c.checked_add.ensures (omega (arith, all, room, c.len.ensures.value, c.len-in-Union.ensures.value))

pub returns-in-Common-clause-enough : goal.returns-in-Common-clause-enough
returns-in-Common-clause-enough g c =
    let all = enough g (goal.at.returns-in-Common-clause-enough g c).After-bits-bits in
    let room = ap (λ o. room_of o (length c.args.a.now.table) (length c.args.b.now.table)) c.in-Common.is in
    omega (arith, all, room, c.min.ensures, c.len-in-Common.ensures.value, c.len-in-Common-2.ensures.value)

pub returns-in-Minus-clause-enough : goal.returns-in-Minus-clause-enough
returns-in-Minus-clause-enough g c =
    let all = enough g (goal.at.returns-in-Minus-clause-enough g c).After-bits-bits in
    let room = ap (λ o. room_of o (length c.args.a.now.table) (length c.args.b.now.table)) c.in-Minus.is in
    omega (arith, all, room, c.len-in-Minus.ensures.value)
