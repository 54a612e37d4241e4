use Rattle.std.proofs.Common.{◌≡◌, ◌∙◌, sym, ap}
use Rattle.std.specs.Prelude.{Some, remove}
use Rattle.ph_specs.specs.Table.{del, find}
use Rattle.ph_specs.proofs.laws.Del.{is_table-del}
use Rattle.ph_table.proofs.Places.{value-at}
use Rattle.ph_table.proofs.table.Table.del.Goals as goal

pub invariant_of-self : goal.invariant_of-self
invariant_of-self g c =
    let e : del c.self.inside.rows.items c.args.p.now ≡ remove c.self.inside.rows.items c.in-Ok.i = rw c.deref.ensures.value at c.in-Ok.ensures.3 in
    rw (c.remove-row.ensures.items, ← e) (is_table-del c.self.inside.width g.row.D c.self.inside.rows.items c.args.p.now c.self.invariant)

pub returns-in-Ok-clause-value : goal.returns-in-Ok-clause-value
returns-in-Ok-clause-value g c =
    let f : find c.self.inside.rows.items c.args.p.now ≡ Some c.remove-row.result.value =
    (rw c.deref.ensures.value at c.in-Ok.ensures.1) ∙ value-at c.self.inside.rows.items c.in-Ok.i c.remove-row.result
    (rw c.deref.ensures.value at c.in-Ok.ensures.0) c.remove-row.ensures.value in
    let v : c.remove-row.result.value ≡ c.row.inside.value = sym (ap (λ r. r.value) c.row.view_is) in
    rw (← c.self.view_is, f ∙ ap (λ x. Some x) v)
