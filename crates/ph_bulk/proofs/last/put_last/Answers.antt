use Rattle.std.proofs.Common.{◌++◌, ◌∷◌, [], ◌∙◌, ap, List}
use Rattle.ph_specs.specs.Table.{Row}
use Rattle.ph_bulk.specs.Order.{without_last}
use Rattle.ph_bulk.proofs.Lasts.{put-behind}
use Rattle.ph_bulk.proofs.last.put_last.Goals as goal

pub returns : goal.returns
returns g c =
    c.in_ok-push.ensures.items ∙ ap {B = List Row} (λ rs. rs ++ c.args.row ∷ []) c.drop_last.ensures
    ∙ ap {B = List Row} (λ (r : Row). without_last c.args.rows.now.items r.point ++ c.args.row ∷ []) c.row.view_is
    ∙ put-behind c.args.w c.args.rows.now.items c.args.row.point c.args.row.value c.requires.rise c.requires.behind
