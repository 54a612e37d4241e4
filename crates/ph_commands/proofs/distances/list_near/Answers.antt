use Rattle.std.proofs.Common.{◌∙◌}
use Rattle.ph_commands.specs.Tables.{tree_at}
use Rattle.ph_commands.proofs.Hits.{near-said}
use Rattle.ph_commands.proofs.distances.list_near.Goals as goal

pub returns-clause-lists : goal.returns-clause-lists
returns-clause-lists g c =
    near-said (tree_at g.row.D c.args.tree.now) c.point_at.result _ c.args.n c.as_slice.result.now _ _ c.args.visits.now c.nearest.new.visits c.list_hits.result
    c.point_at.ensures.value (c.as_slice.ensures.value ∙ c.in-Ok.ensures.hits) c.in-Ok.ensures.grows c.in-Ok.ensures.visits c.list_hits.ensures.lists
