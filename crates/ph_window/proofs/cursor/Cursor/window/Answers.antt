use Rattle.std.proofs.Common.{◌∙◌}
use Rattle.ph_specs.proofs.laws.Pages.{from-start}
use Rattle.ph_window.proofs.cursor.Cursor.window.Goals as goal

pub returns-in-None-clause-rows : goal.returns-in-None-clause-rows
returns-in-None-clause-rows g c =
    c.new.ensures.rows ∙ from-start c.args.tree.now.width c.args.self.now c.self.inside.lo c.self.inside.hi
    c.self.inside.last c.args.tree.now.table c.self.view_is c.in-None.is
