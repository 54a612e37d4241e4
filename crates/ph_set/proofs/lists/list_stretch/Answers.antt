use Rattle.std.proofs.Common.{◌≡◌, ◌+◌, length, take, sym, subst}
use Rattle.ph_model.specs.EntryList.{entries, node}
use Rattle.ph_node.specs.Shown.{shown}
use Rattle.ph_path.proofs.Knowns.{above-whole}
use Rattle.ph_set.specs.Parts.{IsPart, rows_in, nodes_in, stretch}
use Rattle.ph_set.proofs.lists.list_stretch.Goals as goal

pub list_entries-requires-clause-part : goal.list_entries-requires-clause-part
list_entries-requires-clause-part g c =
    let n = shown c.args.node in
    subst (λ t. IsPart c.args.w g.P.Dims.D t (node n)) (sym (above-whole n.level (take g.P.Dims.D c.args.digits.now) c.requires.part.held.1)) c.requires.part

pub returns-clause-rows : goal.returns-clause-rows
returns-clause-rows g c =
    let n = shown c.args.node in
    subst (λ t. g.S.RowSink.adds c.args.rows.now c.list_entries.new.rows (rows_in c.args.w n.level t (stretch c.args.from c.args.to (entries n))))
    (above-whole n.level (take g.P.Dims.D c.args.digits.now) c.requires.part.held.1) c.list_entries.ensures.rows

pub returns-clause-visits : goal.returns-clause-visits
returns-clause-visits g c =
    let n = shown c.args.node in
    subst (λ t. c.list_entries.new.visits ≡ c.args.visits.now + length (nodes_in c.args.w n.level t (stretch c.args.from c.args.to (entries n))))
    (above-whole n.level (take g.P.Dims.D c.args.digits.now) c.requires.part.held.1) c.list_entries.ensures.visits
