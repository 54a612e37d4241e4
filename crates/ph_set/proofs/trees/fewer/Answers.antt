use Rattle.std.proofs.Common.{◌≤◌, length, sym, ◌∙◌, ap, subst, arith}
use Rattle.ph_specs.specs.Table.{IsTable}
use Rattle.ph_set.specs.ResultTrees.{IsMade}
use Rattle.ph_set.specs.Operations.{rows_of}
use Rattle.ph_set.proofs.trees.fewer.Goals as goal

pub built-requires : goal.built-requires
built-requires g c =
    let few = c.root-root.ensures.few in
    let table : IsTable c.args.a.now.width g.row.D c.deref.result.now = subst (IsTable c.args.a.now.width g.row.D)
    (sym c.deref.ensures.value) c.in_ok-rows.ensures.table in
    let long = ap (λ t. length t) (c.deref.ensures.value ∙ c.in_ok-rows.ensures.rows) in
    let room : length c.deref.result.now ≤ c.max.result = omega (arith, long, c.requires.fewer, c.len-len.ensures.value, c.len-len.ensures.limit, c.max.ensures) in
    (omega arith, (omega (arith, few), (few, (table, room))))

pub returns-clause-made : goal.returns-clause-made
returns-clause-made g c =
    subst (λ m. IsMade c.args.a.now.width g.row.D m (rows_of c.args.operation c.args.a.now.width c.args.a.now.table c.args.b.now.table) c.args.changes.now
    c.built.new.changes c.built.result) c.max.ensures
    (subst (λ t. IsMade c.args.a.now.width g.row.D c.max.result t c.args.changes.now c.built.new.changes c.built.result)
    (c.deref.ensures.value ∙ c.in_ok-rows.ensures.rows) c.built.ensures.made)
