use Rattle.std.proofs.Common.{◌∙◌, ap, refl}
use Rattle.ph_commands.specs.Tables.{table_at}
use Rattle.ph_slot.proofs.Loads.{loaded-frame, loads-none, nodes-loaded, nodes-none}
use Rattle.ph_slot.proofs.filing.load_bytes.Goals as goal

pub returns-in-Ok-clause-frame : goal.returns-in-Ok-clause-frame
returns-in-Ok-clause-frame g c = rw c.replace.ensures.table (loaded-frame c.args.kind (table_at g.row.D c.args.kept.now) _ c.in-Ok.ensures.loaded.rows)

pub returns-in-Err-clause-loads : goal.returns-in-Err-clause-loads
returns-in-Err-clause-loads g c =
    loads-none c.args.kind (table_at g.row.D c.args.kept.now) g.row.D c.width.result c.args.bytes.now c.in-Err.fault
    c.fault_reply.result refl (c.width.ensures ∙ ap (λ t. t.width) c.tree.ensures) c.in-Err.ensures.fault c.fault_reply.ensures

pub returns-in-Ok-clause-nodes : goal.returns-in-Ok-clause-nodes
returns-in-Ok-clause-nodes g c rows is =
    let t = table_at g.row.D c.args.kept.now in
    nodes-loaded c.args.kind t g.row.D c.width.result c.args.bytes.now c.in-Ok.loaded.table
    rows c.args.changes.now c.load_kept.new.changes refl (c.width.ensures ∙ ap (λ t. t.width) c.tree.ensures) c.in-Ok.ensures.loaded.read is
    c.in-Ok.ensures.loaded.nodes

pub returns-in-Err-clause-nodes : goal.returns-in-Err-clause-nodes
returns-in-Err-clause-nodes g c rows is =
    nodes-none c.args.kind (table_at g.row.D c.args.kept.now) g.row.D c.width.result c.args.bytes.now c.in-Err.fault
    c.fault_reply.result rows _ _ refl (c.width.ensures ∙ ap (λ t. t.width) c.tree.ensures) c.in-Err.ensures.fault c.fault_reply.ensures is
