use Rattle.std.proofs.Common.{◌≡◌, ℕ, ◌^◌, ◌<◌, ◌≤◌, List, true, arith, ◌∙◌, sym, ap, subst}
use Rattle.std.proofs.lemmas.Bool.{lt-ltb}
use Rattle.std.specs.Prelude.{ℤ, Some, insert, slice_set}
use Rattle.ph_specs.specs.Coordinate.{is_point}
use Rattle.ph_specs.specs.Table.{Row, put, row, is_table, find}
use Rattle.ph_specs.proofs.laws.Put.{is_table-put}
use Rattle.ph_table.proofs.Places.{value-at}
use Rattle.ph_table.proofs.table.Table.put.Goals as goal

-- the rows that a put makes are a table
put-kept : (w d : ℕ) (rows made : List Row) (p : List ℤ) (v : ℕ) → 1 ≤ w → is_point w d p ≡ true → v < 2 ^ 64 →
    is_table w d rows ≡ true → put w rows p v ≡ made → is_table w d made ≡ true
put-kept w d rows made p v positive point small table e =
    subst (λ rs. is_table w d rs ≡ true) e (is_table-put w d rows p v positive point (lt-ltb v (2 ^ 64) small) table)

pub invariant_of-self : goal.invariant_of-self
invariant_of-self g c =
    put-kept c.self.inside.width g.row.D c.self.inside.rows.items
    (slice_set c.self.inside.rows.items c.in-Ok.i (row c.args.p c.args.v)) c.args.p c.args.v (omega arith)
    (rw (← c.self.view_is) at c.requires.point) (omega arith) c.self.invariant
    (rw c.deref.ensures.value at (c.in-Ok.ensures.2 c.args.v))

pub invariant_of-self-in-Err : goal.invariant_of-self-in-Err
invariant_of-self-in-Err g c =
    rw c.in_ok-insert-in-Err.ensures.items
    (put-kept c.self.inside.width g.row.D c.self.inside.rows.items
    (insert c.self.inside.rows.items c.in-Err.i (row c.args.p c.args.v)) c.args.p c.args.v (omega arith)
    (rw (← c.self.view_is) at c.requires.point) (omega arith) c.self.invariant
    (rw c.deref.ensures.value at (c.in-Err.ensures.2 c.args.v)))

pub returns-in-Ok-clause-answer : goal.returns-in-Ok-clause-answer
returns-in-Ok-clause-answer g c =
    let f : find c.self.inside.rows.items c.args.p ≡ Some c.index.result.now.value =
    (rw c.deref.ensures.value at c.in-Ok.ensures.1) ∙ value-at c.self.inside.rows.items c.in-Ok.i c.index.result.now
    (rw c.deref.ensures.value at c.in-Ok.ensures.0) c.index.ensures in
    let v : c.index.result.now.value ≡ c.behind-self.inside.value = sym (ap (λ r. r.value) c.behind-self.view_is) in
    rw (← c.self.view_is, f ∙ ap (λ x. Some x) v)
