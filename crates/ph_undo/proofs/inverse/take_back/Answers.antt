use Rattle.std.proofs.Common.{◌≤◌, ◌∙◌, length, ap, subst, arith}
use Rattle.std.specs.Prelude.{Err}
use Rattle.ph_specs.specs.Table.{put}
use Rattle.ph_specs.proofs.laws.Edits.{length-put}
use Rattle.ph_undo.specs.Inverses.{undone}
use Rattle.ph_undo.proofs.inverse.take_back.Goals as goal

-- the tree has room for the row, since the table from before the edit is no longer than it may be
pub unreachable-requires : goal.unreachable-requires
unreachable-requires g c =
    let t = c.args.tree.now in
    let full = c.put.ensures.done.full.0 (c.in-Err-Full.is ∙ ap Err c.in-Err-Full.field-0-is) in
    let fit : length (put t.width t.table c.in-Restore.at c.in-Restore.value) ≤ t.max =
    subst (λ s. length (undone t.width t.table s) ≤ t.max) c.in-Restore.is c.requires.fit in
    omega (arith, fit, full.1, length-put t.width t.table c.in-Restore.at c.in-Restore.value full.0)
