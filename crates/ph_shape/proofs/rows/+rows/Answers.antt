use Rattle.std.proofs.Common.{◌≡◌, ◌<◌, ◌++◌, [], ◌∷◌, arith, rules, ap, sym, ◌∙◌, subst, map, take}
use Rattle.std.specs.Prelude.{OnOk}
use Rattle.std.specs.List.{AllByRecursion as Each}
use Rattle.std.proofs.lemmas.List.{length-map, map-append}
use Rattle.ph_specs.specs.Coordinate.{coordinate}
use Rattle.ph_specs.specs.Table.{row, Row}
use Rattle.ph_model.specs.EntryList.{node}
use Rattle.ph_specs.specs.TreeRows.{put_together, rows_behind}
use Rattle.ph_model.specs.Lawful.{IsLawfulEntry, IsLawfulWhat}
use Rattle.ph_model.proofs.laws.EntryLists.{entries-lawful}
use Rattle.ph_shape.specs.Bodies.{AreBelow}
use Rattle.ph_shape.specs.Known.{IsKnown, entry_rows, what_rows}
use Rattle.ph_shape.specs.View.{entry_of, what_of}
use Rattle.ph_shape.proofs.Fronts.{each-item, item-is}
use Rattle.ph_shape.proofs.Walk.{gathered-next, gathered-all, small-known, known-child}
use Rattle.ph_shape.proofs.rows.+rows.Goals as goal

pub gather-gather_entry-requires : goal.gather-gather_entry-requires
gather-gather_entry-requires g t c κs within =
    let all : Each (IsLawfulEntry g.P.Dims.D c.level-level.result)
    (map (entry_of g.P.Dims.D) c.entries-entries.result.now) =
    subst (λ b. Each (IsLawfulEntry g.P.Dims.D b) (map (entry_of g.P.Dims.D) c.entries-entries.result.now))
    (sym c.level-level.ensures) (subst (Each (IsLawfulEntry g.P.Dims.D c.args.node.now.level))
    (sym c.entries-entries.ensures)
    (entries-lawful g.P.Dims.D c.args.node.now.level 0 c.args.node.now.chain c.requires.lawful)) in
    let one = each-item (IsLawfulEntry g.P.Dims.D c.level-level.result) (entry_of g.P.Dims.D)
    c.entries-entries.result.now c.loop-entry.entry-index c.entry-item.result all
    (omega (arith, length-map c.entries-entries.result.now (entry_of {P = g.row.P.Denot} g.P.Dims.D))) c.entry-item.is in
    let known : IsKnown c.args.w g.P.Dims.D c.level-level.result (take g.P.Dims.D c.args.above.now) =
    subst (λ b. IsKnown c.args.w g.P.Dims.D b (take g.P.Dims.D c.args.above.now)) (sym c.level-level.ensures)
    c.requires.above in
    let l : c.level-level.result < c.args.w = omega (arith, c.requires.level, c.level-level.ensures) in
    (omega (arith, c.decreases, c.level-level.ensures), search (rules, within, one, known, l))

pub gather-loop-entry-preserved : goal.gather-loop-entry-preserved
gather-loop-entry-preserved g t c =
    gathered-next c.args.w c.level-level.result (take g.P.Dims.D c.args.above.now)
    (map (entry_of g.P.Dims.D) c.entries-entries.result.now) c.loop-entry.entry-index
    (entry_of g.P.Dims.D c.entry-item.result) (map g.P.Space.row_of c.loop-entry.rows.items)
    (map g.P.Space.row_of c.gather_entry.new.rows.items) _
    (omega (arith, length-map c.entries-entries.result.now (entry_of {P = g.row.P.Denot} g.P.Dims.D)))
    (item-is (entry_of g.P.Dims.D) c.entries-entries.result.now c.loop-entry.entry-index c.entry-item.result c.entry-item.is)
    c.in_ok-gather_entry.ensures c.loop-entry.invariant

pub gather-returns : goal.gather-returns
gather-returns g t c =
    gathered-all c.args.w c.level-level.result c.args.node.now.level (take g.P.Dims.D c.args.above.now)
    (map (entry_of g.P.Dims.D) c.entries-entries.result.now) c.args.node.now.chain c.loop-entry.entry-index _ _
    (omega (arith, length-map c.entries-entries.result.now (entry_of {P = g.row.P.Denot} g.P.Dims.D)))
    c.level-level.ensures c.entries-entries.ensures c.loop-entry.invariant

pub gather_entry-with_offsets-requires-clause-small : goal.gather_entry-with_offsets-requires-clause-small
gather_entry-with_offsets-requires-clause-small g t c =
    subst (AreBelow c.args.w) (sym c.digits_behind-digits.ensures)
    (small-known c.args.w g.P.Dims.D c.args.level c.args.entry.now.addr (take g.P.Dims.D c.args.above.now)
    (take g.P.Dims.D c.args.entry.now.body) c.requires.level c.requires.above c.requires.lawful.body)

pub gather_entry-gather-requires : goal.gather_entry-gather-requires
gather_entry-gather-requires g t c κs within =
    let held : IsLawfulWhat g.P.Dims.D c.args.level (take g.P.Dims.D c.args.entry.now.body) (node c.in-Child.child) =
    subst (λ h. IsLawfulWhat g.P.Dims.D c.args.level (take g.P.Dims.D c.args.entry.now.body) (what_of h))
    c.in-Child.is c.requires.lawful.held in
    let known : IsKnown c.args.w g.P.Dims.D c.in-Child.child.level (take g.P.Dims.D c.digits_behind-digits.result) =
    subst (IsKnown c.args.w g.P.Dims.D c.in-Child.child.level) (sym c.digits_behind-digits.ensures)
    (known-child c.args.w g.P.Dims.D c.args.level c.in-Child.child.level c.args.entry.now.addr
    (take g.P.Dims.D c.args.above.now) (take g.P.Dims.D c.args.entry.now.body) c.requires.level held.0
    c.requires.above c.requires.lawful.body held.1) in
    let l : c.in-Child.child.level < c.args.w = omega (arith, held.0, c.requires.level) in
    (omega (arith, held.0, c.decreases), search (rules, within, known, l, held.3))

pub gather_entry-returns-in_ok-push-in-Value : goal.gather_entry-returns-in_ok-push-in-Value
gather_entry-returns-in_ok-push-in-Value g t c =
    ap (map g.P.Space.row_of) c.in_ok-push-in-Value.ensures.items
    ∙ map-append g.P.Space.row_of c.args.rows.now.items (c.with_offsets.result ∷ [])
    ∙ ap (λ (r : Row). map g.P.Space.row_of c.args.rows.now.items ++ r ∷ [])
    (c.with_offsets.ensures ∙ ap (λ ds. row (map (coordinate c.args.w) ds) c.in-Value.value) c.digits_behind-digits.ensures)
    ∙ sym (ap (λ h. map g.P.Space.row_of c.args.rows.now.items ++
    what_rows c.args.w (put_together c.args.level c.args.entry.now.addr (take g.P.Dims.D c.args.above.now)
    (take g.P.Dims.D c.args.entry.now.body)) (what_of h)) c.in-Value.is)

pub gather_entry-returns-in-Child : goal.gather_entry-returns-in-Child
gather_entry-returns-in-Child g t c =
    let same : rows_behind c.args.w c.in-Child.child.level (take g.P.Dims.D c.digits_behind-digits.result)
    c.in-Child.child.chain ≡ entry_rows c.args.w c.args.level (take g.P.Dims.D c.args.above.now)
    (entry_of g.P.Dims.D c.args.entry.now) =
    ap (λ ds. rows_behind c.args.w c.in-Child.child.level ds c.in-Child.child.chain) c.digits_behind-digits.ensures
    ∙ sym (ap (λ h. what_rows c.args.w
    (put_together c.args.level c.args.entry.now.addr (take g.P.Dims.D c.args.above.now)
    (take g.P.Dims.D c.args.entry.now.body)) (what_of h)) c.in-Child.is) in
    subst (λ r. OnOk c.gather.result (map g.P.Space.row_of c.gather.new.rows.items ≡ map g.P.Space.row_of c.args.rows.now.items ++ r)) same c.gather.ensures
