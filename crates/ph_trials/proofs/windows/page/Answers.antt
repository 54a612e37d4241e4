use Rattle.std.proofs.Common.{sym, subst, rules}
use Rattle.ph_specs.specs.Coordinate.{IsPoint}
use Rattle.ph_window.specs.Page.{IsLast}
use Rattle.ph_trials.proofs.windows.page.Goals as goal

pub page-page-requires : goal.page-page-requires
page-page-requires g c =
    let width = sym c.args.pair.now.tree_width in
    let lo : IsPoint c.args.pair.now.tree.width g.row.D c.args.cursor.now.lo = subst (λ w. IsPoint w g.row.D c.args.cursor.now.lo) width c.requires.lo in
    let hi : IsPoint c.args.pair.now.tree.width g.row.D c.args.cursor.now.hi = subst (λ w. IsPoint w g.row.D c.args.cursor.now.hi) width c.requires.hi in
    let last : IsLast c.args.pair.now.tree.width g.row.D c.args.cursor.now.last = subst (λ w. IsLast w g.row.D c.args.cursor.now.last) width c.requires.last in
    search (rules, lo, hi, last)
