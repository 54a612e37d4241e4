use Rattle.std.proofs.Common.{ap, arith, ◌∙◌}
use Rattle.ph_commands.proofs.Imports.{import-done, imports-none}
use Rattle.ph_commands.proofs.Frames.{frame-still}
use Rattle.ph_commands.proofs.records.import_text.Goals as goal

pub returns-in-Ok : goal.returns-in-Ok
returns-in-Ok g c =
    let e = c.put_read.ensures in
    import-done c.args.kind _ _ _ c.in-Ok.rows.items _ _ _ _ c.put_read.result
    (rw (← c.width.ensures ∙ ap (λ u. u.width) c.tree.ensures) c.in-Ok.ensures.ok) c.in-Ok.ensures.boxes e.imports e.later e.few e.grown e.changes

pub returns-in-Err : goal.returns-in-Err
returns-in-Err g c = record {
  imports = imports-none _ _ c.in-Err.fault c.record_reply.result
      (rw (← c.width.ensures ∙ ap (λ u. u.width) c.tree.ensures) c.in-Err.ensures.err) c.record_reply.ensures;
  frame = frame-still _ _;
  later = omega arith;
  few_visits = omega arith;
  kept = omega arith;
  few_changes = omega arith;
}
