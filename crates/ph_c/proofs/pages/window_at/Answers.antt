-- With no last point the rest is the whole window.
use Rattle.std.proofs.Common.{◌∙◌}
use Rattle.ph_specs.proofs.laws.Pages.{from-start}
use Rattle.ph_c.proofs.pages.window_at.Goals as goal

pub returns-in-None : goal.returns-in-None
returns-in-None g c =
    c.new.ensures.rows ∙ from-start c.args.tree.now.width c.args.cursor.now c.cursor.inside.lo c.cursor.inside.hi
    c.cursor.inside.last c.args.tree.now.table c.cursor.view_is c.in-None.is
