use Rattle.std.proofs.Common.{rules, [], length, take, refl, sym, ◌∙◌, ap, subst, arith}
use Rattle.ph_model.specs.Lawful.{IsBody}
use Rattle.ph_model.specs.EntryList.{entries, node}
use Rattle.ph_model.specs.PutTree.{body_above}
use Rattle.ph_node.specs.Shown.{shown}
use Rattle.ph_path.proofs.Knowns.{wider}
use Rattle.ph_set.specs.Parts.{IsPart, openings, rows_in}
use Rattle.ph_set.proofs.Joining.{same-above, stepped, joined-known, joined-from, child-level, child-part, child-rows, child-nodes, child-from}
use Rattle.ph_set.proofs.Taking.{taken-on, taken-whole}
use Rattle.ph_set.proofs.Walking.{stretch-none}
use Rattle.ph_set.proofs.lists.+lists.Goals as goal

pub list_entries-list_entry-requires : goal.list_entries-list_entry-requires
list_entries-list_entry-requires g t c κs within =
    let n = shown c.args.node in
    let known : IsBody g.P.Dims.D c.args.w (take g.P.Dims.D c.loop-i.known) = c.loop-i.invariant.known in
    let part : IsPart c.args.w g.P.Dims.D (body_above (shown c.args.node).level (take g.P.Dims.D c.loop-i.known)) (node (shown c.args.node)) =
    subst (λ t. IsPart c.args.w g.P.Dims.D t (node n))
    (sym (same-above n.level (take g.P.Dims.D c.loop-i.known) (take g.P.Dims.D c.args.known.now)
    c.loop-i.invariant.above)) c.requires.part in
    (omega (arith, c.decreases), search (rules, within, known, part))

pub list_entries-loop-i-init : goal.list_entries-loop-i-init
list_entries-loop-i-init g t c = record {
  rows = record { taken = []; adds_them = g.met.S.RowSink.adds_none c.args.rows.now; split = refl };
  visits = refl;
  known = c.requires.known;
  above = refl;
}

pub list_entries-loop-i-preserved : goal.list_entries-loop-i-preserved
list_entries-loop-i-preserved g t c =
    let step = stepped c.args.w g.P.Dims.D (take g.P.Dims.D c.args.known.now) (take g.P.Dims.D c.loop-i.known) (shown c.args.node) c.requires.part
    c.loop-i.invariant.above c.spot.result c.spot.ensures.spot c.loop-i.i c.args.to c.spot.ensures.place (omega (arith, c.loop-i-test.true)) c.requires.within in
    record {
      rows = taken-on g.S.RowSink.adds g.met.S.RowSink.adds_more _ _ _ _ _ _ _ c.loop-i.invariant.rows c.list_entry.ensures.rows step.rows;
      visits = omega (arith, step.nodes, c.list_entry.ensures.visits, c.loop-i.invariant.visits);
      known = c.list_entry.ensures.known;
      above = c.list_entry.ensures.above ∙ c.loop-i.invariant.above;
    }

pub list_entries-returns-clause-rows : goal.list_entries-returns-clause-rows
list_entries-returns-clause-rows g t c =
    let n = shown c.args.node in
    taken-whole g.S.RowSink.adds g.met.S.RowSink.adds_more _ _ _ _ c.loop-i.invariant.rows
    (ap (rows_in c.args.w n.level (body_above n.level (take g.P.Dims.D c.args.known.now)))
    (stretch-none c.loop-i.i c.args.to (entries n) (omega (arith, c.loop-i-test.false))))

pub list_entry-join_entry-requires-clause-known : goal.list_entry-join_entry-requires-clause-known
list_entry-join_entry-requires-clause-known g t c =
    wider g.P.Dims.D c.args.w 62 (take g.P.Dims.D c.args.known.now) (omega (arith, c.bits-bits.ensures.value, c.bits-bits.ensures.limit)) c.requires.known

pub list_entry-with_offsets-requires-clause-small : goal.list_entry-with_offsets-requires-clause-small
list_entry-with_offsets-requires-clause-small g t c =
    (joined-known c.args.w g.P.Dims.D (take g.P.Dims.D c.args.known.now) (shown c.args.node) c.requires.part
    c.args.spot c.requires.spot (take g.P.Dims.D c.join_entry.new.known) c.join_entry.ensures).1

pub list_entry-list_entries-requires : goal.list_entry-list_entries-requires
list_entry-list_entries-requires g t c κs within =
    let d = g.P.Dims.D in
    let n = shown c.args.node in
    let m = shown c.visit-below.result in
    let held = sym c.in-Child.ensures ∙ ap node (sym c.visit-below.ensures.shows) in
    let known : IsBody g.P.Dims.D c.args.w (take g.P.Dims.D c.join_entry.new.known) =
    joined-known c.args.w d (take d c.args.known.now) n c.requires.part c.args.spot c.requires.spot
    (take d c.join_entry.new.known) c.join_entry.ensures in
    let part : IsPart c.args.w g.P.Dims.D (body_above (shown c.visit-below.result).level (take g.P.Dims.D c.join_entry.new.known)) (node (shown c.visit-below.result)) =
    child-part c.args.w d (take d c.args.known.now) n c.requires.part c.args.spot c.requires.spot (take d c.join_entry.new.known) c.join_entry.ensures m held in
    let low = child-level c.args.w d (take d c.args.known.now) n c.requires.part c.args.spot c.requires.spot
    (take d c.join_entry.new.known) c.join_entry.ensures m held in
    (omega (arith, low, c.decreases), search (rules, within, known, part))

pub list_entry-returns-in-Value-clause-known : goal.list_entry-returns-in-Value-clause-known
list_entry-returns-in-Value-clause-known g t c =
    joined-known c.args.w g.P.Dims.D (take g.P.Dims.D c.args.known.now) (shown c.args.node) c.requires.part
    c.args.spot c.requires.spot (take g.P.Dims.D c.join_entry.new.known) c.join_entry.ensures

pub list_entry-returns-in-Value-clause-above : goal.list_entry-returns-in-Value-clause-above
list_entry-returns-in-Value-clause-above g t c =
    joined-from c.args.w g.P.Dims.D (take g.P.Dims.D c.args.known.now) (shown c.args.node) c.requires.part c.args.spot
    c.requires.spot (take g.P.Dims.D c.join_entry.new.known) c.join_entry.ensures

pub list_entry-returns-in-Child-clause-rows : goal.list_entry-returns-in-Child-clause-rows
list_entry-returns-in-Child-clause-rows g t c =
    let d = g.P.Dims.D in
    let held = sym c.in-Child.ensures ∙ ap node (sym c.visit-below.ensures.shows) in
    subst (g.S.RowSink.adds c.args.rows.now c.list_entries.new.rows)
    (child-rows c.args.w d (take d c.args.known.now) (shown c.args.node) c.requires.part c.args.spot c.requires.spot
    (take d c.join_entry.new.known) c.join_entry.ensures (shown c.visit-below.result) held c.len.result c.len.ensures)
    c.list_entries.ensures.rows

pub list_entry-returns-in-Child-clause-visits : goal.list_entry-returns-in-Child-clause-visits
list_entry-returns-in-Child-clause-visits g t c =
    let d = g.P.Dims.D in
    let held = sym c.in-Child.ensures ∙ ap node (sym c.visit-below.ensures.shows) in
    let one = ap openings held in
    let below = ap (λ t. length t)
    (child-nodes c.args.w d (take d c.args.known.now) (shown c.args.node) c.requires.part c.args.spot
    c.requires.spot (take d c.join_entry.new.known) c.join_entry.ensures (shown c.visit-below.result) held
    c.len.result c.len.ensures) in
    omega (arith, one, below, c.visit-below.ensures.cost, c.list_entries.ensures.visits)

pub list_entry-returns-in-Child-clause-above : goal.list_entry-returns-in-Child-clause-above
list_entry-returns-in-Child-clause-above g t c =
    let d = g.P.Dims.D in
    let held = sym c.in-Child.ensures ∙ ap node (sym c.visit-below.ensures.shows) in
    child-from c.args.w d (take d c.args.known.now) (shown c.args.node) c.requires.part c.args.spot
    c.requires.spot (take d c.join_entry.new.known) c.join_entry.ensures (shown c.visit-below.result) held
    (take d c.list_entries.new.known) c.list_entries.ensures.above
