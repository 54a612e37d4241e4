-- The window is that of the question about the asked box.
use Rattle.std.proofs.Common.{◌/◌, List, ap, sym, ◌∙◌}
use Rattle.std.specs.Prelude.{ℤ, Option}
use Rattle.ph_c.specs.Arrays.{on_page}
use Rattle.ph_c.specs.Trees.{table_at}
use Rattle.ph_c.proofs.Questions.{as-long, asked-done}
use Rattle.ph_c.proofs.asked.list_asked.Goals as goal

pub is_at_most-requires : goal.is_at_most-requires
is_at_most-requires g c =
    let are = c.in-Some.ensures.0 in
    as-long c.args.tree.now.width (g.row.D / 2) c.args.low.now c.args.high.now are.0 are.1

pub returns-clause-page : goal.returns-clause-page
returns-clause-page g c =
    let is = c.in-Some.ensures.1 in
    asked-done c.args.question (table_at g.row.D c.args.tree.now) c.args.low.now c.args.high.now c.args.last.now
    c.in-Some.given.0 c.bounds-lo.result.0 c.bounds-lo.result.1 c.in-Some.given.1 c.width.result c.window_at-window.result.rows
    (on_page c.args.page.now) (on_page c.list_rows.new.page)
    (ap (λ (s : List ℤ × Option (List ℤ)). s.0) is) (ap (λ (s : List ℤ × Option (List ℤ)). s.1) is)
    c.width.ensures c.bounds-lo.ensures.from c.bounds-lo.ensures.to c.bounds-lo.ensures.window c.window_at-window.ensures c.requires c.in-Some.ensures.0
    (sym c.is_at_most.ensures ∙ c.if-not-is_at_most.false) c.root-root.ensures.table c.list_rows.ensures.listed
