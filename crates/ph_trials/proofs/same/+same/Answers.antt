use Rattle.std.proofs.Common.{rules, arith, sym, ◌∙◌, ap, refl}
use Rattle.ph_model.specs.EntryList.{entries}
use Rattle.ph_node.specs.Shown.{shown, entry_of, what_of}
use Rattle.ph_trials.proofs.EntryComparisons.{node-same, child-lawful, taken-next, body-same, front-same, value-same, child-same}
use Rattle.ph_trials.proofs.same.+same.Goals as goal

pub is_same-loop-i-preserved : goal.is_same-loop-i-preserved
is_same-loop-i-preserved g t c =
    taken-next (entries (shown c.visit-shown.result)) (entries c.args.plain.now) c.loop-i.i (entry_of g.P.Dims.D c.entry.result)
    (omega (arith, c.loop-i-test.true, c.len-i-end.ensures, c.len.ensures, c.len-else-level.ensures, c.if-len.false))
    (omega (arith, c.loop-i-test.true, c.len-i-end.ensures))
    c.loop-i.invariant c.entry.ensures.shows c.if-not-is_same_entry.ensures

pub is_same-returns : goal.is_same-returns
is_same-returns g t c = (
  λ _. sym c.visit-shown.ensures.shows ∙ node-same (shown c.visit-shown.result) c.args.plain.now c.loop-i.i
      (sym c.level.ensures.value ∙ c.if-level.false ∙ c.level-2.ensures)
      (omega (arith, c.loop-i-test.false, c.len-i-end.ensures, c.len.ensures, c.len-else-level.ensures, c.if-len.false))
      (omega (arith, c.loop-i-test.false, c.len-i-end.ensures))
      c.loop-i.invariant,
  λ _. refl,
)

pub is_same_entry-is_same-requires : goal.is_same_entry-is_same-requires
is_same_entry-is_same-requires g t c κs within =
    let k = child-lawful g.P.Dims.D c.args.plain.now c.args.i (entry_of g.P.Dims.D c.args.entry.now)
    c.in-Child-Some.below c.requires.lawful c.requires.place c.in-Child-Some.ensures in
    (omega (arith, k.0, c.decreases), search (rules, within, k.1, c.requires.few))

pub is_same_entry-returns-in-Value-None : goal.is_same_entry-returns-in-Value-None
is_same_entry-returns-in-Value-None g t c =
    let n = c.args.plain.now in
    let e = entry_of g.P.Dims.D c.args.entry.now in
    value-same n c.args.i e c.in-Value-None.v c.value.result c.eq.result c.requires.place
    (front-same g.P.Dims.D n c.args.i e c.addr.result c.body-body.result c.requires.lawful c.requires.place
    c.if-entry-addr.false c.addr.ensures
    (body-same g.P.Dims.D _ _ c.args.entry.now.body c.body-body.result c.D.ensures c.D-else-entry-addr.ensures
    c.if-ne.ensures) c.body-body.ensures)
    (ap what_of {x = c.args.entry.now.what} c.in-Value-None.is-0) c.in-Value-None.ensures c.value.ensures c.eq.ensures

pub is_same_entry-returns-in-Child-Some : goal.is_same_entry-returns-in-Child-Some
is_same_entry-returns-in-Child-Some g t c =
    let n = c.args.plain.now in
    let e = entry_of g.P.Dims.D c.args.entry.now in
    child-same n c.args.i e c.in-Child-Some.node.now c.in-Child-Some.below c.is_same.result c.requires.place
    (front-same g.P.Dims.D n c.args.i e c.addr.result c.body-body.result c.requires.lawful c.requires.place
    c.if-entry-addr.false c.addr.ensures
    (body-same g.P.Dims.D _ _ c.args.entry.now.body c.body-body.result c.D.ensures c.D-else-entry-addr.ensures
    c.if-ne.ensures) c.body-body.ensures)
    (ap what_of {x = c.args.entry.now.what} c.in-Child-Some.is-0) c.in-Child-Some.ensures c.is_same.ensures
